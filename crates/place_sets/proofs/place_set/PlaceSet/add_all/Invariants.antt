use Rattle.std.proofs.Common.{take}
use Rattle.place_sets.specs.Places.{Widens}
use Rattle.place_sets.proofs.place_set.PlaceSet.add_all.Given as goal

abbrev pub invariant-loop-place : goal.invariant-loop-place
invariant-loop-place l = Widens l.fn.self l.self (take l.place-index l.places)
