-- Streams: lists of items, the oldest first. Events: items, each with the number of the input that it comes on.
use Rattle.std.specs.Prelude.{ℕ, Bool, true, false, IsTrue, ⊤, List, [], ◌∷◌, if◌then◌else◌}
use Rattle.spl_value.specs.Numbered.{closes}
use Rattle.spl_value.specs.Values.{fits}
use Rattle.spl_value.specs.declared.item.Item.{Item}
use Rattle.spl_value.specs.declared.item.Item.TheVariants as I
use Rattle.spl_value.specs.declared.types.SplType.TheVariants as T
use Rattle.spl_value.specs.declared.value.Value.TheVariants as V
use Rattle.language_model.specs.StreamTypes.{Attributes}
pub use Rattle.spl_value.specs.Numbered.{IsPrefix}

abbrev pub is_tuple : Item → Bool
is_tuple (I.Tuple vs) = true
is_tuple I.Window = false
is_tuple I.Final = false
is_tuple (I.Bad f) = false

abbrev pub is_final : Item → Bool
is_final (I.Tuple vs) = false
is_final I.Window = false
is_final I.Final = true
is_final (I.Bad f) = false

abbrev pub is_fault : Item → Bool
is_fault (I.Tuple vs) = false
is_fault I.Window = false
is_fault I.Final = false
is_fault (I.Bad f) = true

abbrev pub any_closes : List Item → Bool
any_closes [] = false
any_closes (x ∷ xs) = if closes x then true else any_closes xs

abbrev pub is_empty : {A : Type 0} → List A → Bool
is_empty [] = true
is_empty (x ∷ xs) = false

-- the last item closes, and no earlier one does
abbrev pub is_closed : List Item → Bool
is_closed [] = false
is_closed (x ∷ xs) = if closes x then is_empty xs else is_closed xs

-- each tuple of a stream has values of these attributes
abbrev pub TuplesFit : Attributes → List Item → Type 0
TuplesFit schema [] = ⊤
TuplesFit schema (I.Tuple vs ∷ items) = IsTrue (fits (T.Tuple schema) (V.Tuple vs)) × TuplesFit schema items
TuplesFit schema (I.Window ∷ items) = TuplesFit schema items
TuplesFit schema (I.Final ∷ items) = TuplesFit schema items
TuplesFit schema (I.Bad f ∷ items) = TuplesFit schema items

pub record Event : Type 0 where
  pub input : ℕ
  pub item : Item

abbrev pub came : ℕ → Item → Event
came i x = record { input = i; item = x }
