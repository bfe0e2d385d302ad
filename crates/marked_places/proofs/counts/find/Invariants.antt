use Rattle.std.proofs.Common.{◌≡◌, ◌+◌, take}
use Rattle.marked_places.specs.Counts.{total}
use Rattle.marked_places.proofs.counts.find.Given as goal

-- the units of the entries before this one, and those that are still to be passed
abbrev pub invariant-entries : goal.invariant-entries
invariant-entries l = total (take l.at l.entries) + l.within ≡ total (take l.fn.from l.entries) + l.fn.k
