-- A state, and handlers by their ports.
use Rattle.std.specs.Prelude.{ℕ, List}
use Rattle.spl_tree.specs.declared.unit.HandledEvent.TheVariants as H
use Rattle.language_model.specs.declared.checked.Handled.{Handled}
use Rattle.language_model.specs.declared.checked.Handlers.{Handlers}
use Rattle.language_model.specs.declared.checked.StateVariable.{StateVariable}
use Rattle.language_model.specs.LogicTyping.{handlers_on}

-- a state, and the handlers on `count` ports
abbrev pub made_of : ℕ → List StateVariable → List Handled → Handlers
made_of count state handled =
    record { state = state; on_tuple = handlers_on H.Tuple handled 0 count; on_punct = handlers_on H.Punctuation handled 0 count }
