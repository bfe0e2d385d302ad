use Rattle.std.proofs.Common.{◌≡◌, drop, flat_map}
use Rattle.language_model.specs.Declarations.{first_of}
use Rattle.composite_expand.specs.steps.Invocations.{unreadable}
use Rattle.composite_expand.proofs.invoking.first_unreadable.Given as goal

abbrev pub invariant-loop-port : goal.invariant-loop-port
invariant-loop-port l =
    first_of (unreadable l.scope.composite.now (flat_map (λ p. p.streams) l.ports)) ≡ first_of (unreadable l.scope.composite.now (flat_map (λ p. p.streams) (drop l.port-index l.ports)))
