-- What stands at the front of some bytes reaches no further than they do.
use Rattle.std.proofs.Common.{ℕ, ◌<◌, ◌≤◌}
use Rattle.spl_tree.specs.Tokens.{Front, Take, Pass, Refuse}

-- What stands at the front

-- at least one byte and at most `most`, and a place that isn't past them
abbrev pub Fits : ℕ → Front → Type 0
Fits most (Take k n) = (0 < n) × (n ≤ most)
Fits most (Pass n) = (0 < n) × (n ≤ most)
Fits most (Refuse e i) = i ≤ most
