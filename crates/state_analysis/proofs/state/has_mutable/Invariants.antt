use Rattle.std.proofs.Common.{◌≡◌, drop}
use Rattle.std.specs.List.{list_any}
use Rattle.language_model.specs.declared.checked.StateVariable.{StateVariable}
use Rattle.state_analysis.proofs.state.has_mutable.Given as goal

abbrev pub invariant-loop-x : goal.invariant-loop-x
invariant-loop-x l =
    list_any (λ (x : StateVariable). x.variable.mutable) l.handlers.state
    ≡ list_any (λ (x : StateVariable). x.variable.mutable) (drop l.x-index l.handlers.state)
