-- Words for parts of the rules of states: the variables of a Custom.
use Rattle.std.specs.Prelude.{Bool}
use Rattle.std.specs.List.{list_any}
use Rattle.language_model.specs.declared.checked.Handlers.{Handlers}
use Rattle.language_model.specs.declared.checked.StateVariable.{StateVariable}

-- a variable of the state may change
abbrev pub has_mutable : Handlers → Bool
has_mutable handlers = list_any (λ (x : StateVariable). x.variable.mutable) handlers.state
