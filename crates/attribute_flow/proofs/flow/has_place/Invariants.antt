use Rattle.std.proofs.Common.{◌≡◌, ◌==◌, drop}
use Rattle.std.specs.List.{list_any}
use Rattle.attribute_flow.proofs.flow.has_place.Given as goal

abbrev pub invariant-loop-p : goal.invariant-loop-p
invariant-loop-p l = list_any (λ p. p == l.place) l.places ≡ list_any (λ p. p == l.place) (drop l.p-index l.places)
