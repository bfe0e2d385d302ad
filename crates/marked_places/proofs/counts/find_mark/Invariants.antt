use Rattle.std.proofs.Common.{◌≡◌, ◌+◌, take}
use Rattle.marked_places.specs.Counts.{ones, total}
use Rattle.marked_places.proofs.counts.find_mark.Given as goal

-- the marks before this place, and those that are still to be passed
abbrev pub invariant-places : goal.invariant-places
invariant-places l = total (take l.at (ones l.places)) + l.before ≡ total (take l.fn.from (ones l.places)) + l.fn.k
