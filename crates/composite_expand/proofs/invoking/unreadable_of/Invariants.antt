use Rattle.std.proofs.Common.{◌≡◌, drop}
use Rattle.language_model.specs.Declarations.{first_of}
use Rattle.composite_expand.specs.steps.Invocations.{unreadable}
use Rattle.composite_expand.proofs.invoking.unreadable_of.Given as goal

abbrev pub invariant-loop-name : goal.invariant-loop-name
invariant-loop-name l = first_of (unreadable l.scope.composite.now l.port.streams) ≡ first_of (unreadable l.scope.composite.now (drop l.name-index l.port.streams))
