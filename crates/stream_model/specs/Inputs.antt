-- The inputs of events, and the items that came on some inputs of an operator, in the order of its events.
use Rattle.std.specs.Prelude.{ℕ, Bool, List, [], ◌∷◌, map, if◌then◌else◌}
use Rattle.spl_value.specs.declared.item.Item.{Item}
use Rattle.stream_model.specs.Stream.{Event}

abbrev pub inputs_of : List Event → List ℕ
inputs_of events = map (λ (e : Event). e.input) events

-- on the inputs that pass the test
abbrev pub came_on : (ℕ → Bool) → List Event → List Item
came_on test [] = []
came_on test (e ∷ events) = if test e.input then e.item ∷ came_on test events else came_on test events
