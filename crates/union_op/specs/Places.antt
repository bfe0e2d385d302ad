-- What a Union asks of the items on its ports.
use Rattle.std.specs.Prelude.{◌≡◌, ⊤, ℕ, List, Some, slice_get}
use Rattle.spl_value.specs.declared.item.Item.{Item}
use Rattle.spl_value.specs.declared.item.Item.TheVariants as I
use Rattle.spl_value.specs.declared.value.Value.{Value}
use Rattle.stream_model.specs.Bodies.{values_at}

-- the port has places, and a tuple has a value at each of them
abbrev pub PlacesThere : List (List ℕ) → ℕ → Item → Type 0
PlacesThere places port (I.Tuple vs) = (is : List ℕ) × (us : List Value) × (slice_get places port ≡ Some is) × (values_at vs is ≡ Some us)
PlacesThere places port I.Window = ⊤
PlacesThere places port I.Final = ⊤
PlacesThere places port (I.Bad f) = ⊤
