use Rattle.std.proofs.Common.{◌≡◌, length}
use Rattle.element_works.proofs.tuples.empty_places.Given as goal

abbrev pub invariant-loop : goal.invariant-loop
invariant-loop l = length l.places.items ≡ l.counter
