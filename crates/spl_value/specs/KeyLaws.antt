-- The bytes of a key are those of its values and of nothing else of the tuple, and among keys of the same
-- types they determine the values.
use Rattle.std.specs.Prelude.{◌≡◌, ℕ, IsTrue, List, map, slice_get, Some}
use Rattle.std.specs.Cmp.Lexicographic.{pointwise}
use Rattle.spl_value.specs.declared.types.SplType.{SplType}
use Rattle.spl_value.specs.declared.value.Value.{Value}
use Rattle.spl_value.specs.Values.{fits}
use Rattle.spl_value.specs.Key.{is_key_value, are_key_places, key_of, has_place, enc_values, enc, is_key_type, key_fits}

-- each place of a key gives it the value there
abbrev pub KeyPlacesLaw : Type 0
KeyPlacesLaw = (tuple : List Value) (key : List ℕ) → IsTrue (are_key_places tuple key) → map Some (key_of tuple key) ≡ map (slice_get tuple) key

-- tuples with the same values at the key's places have the same bytes
abbrev pub SameBytesLaw : Type 0
SameBytesLaw = (tuple other : List Value) (key : List ℕ) → IsTrue (are_key_places tuple key) → IsTrue (are_key_places other key)
    → key_of tuple key ≡ key_of other key → enc tuple key ≡ enc other key

-- the same places have the same bytes, whatever their order and however often each is given
abbrev pub SamePlacesLaw : Type 0
SamePlacesLaw = (tuple : List Value) (key places : List ℕ) → ((p : ℕ) → has_place key p ≡ has_place places p) → enc tuple key ≡ enc tuple places

-- a value of an integer type, `boolean` or `rstring` may stand in a key
abbrev pub KeyTypesLaw : Type 0
KeyTypesLaw = (t : SplType) (v : Value) → IsTrue (is_key_type t) → IsTrue (fits t v) → IsTrue (is_key_value v)

-- values of the same such types that have equal bytes are equal
abbrev pub OneKeyLaw : Type 0
OneKeyLaw = (types : List SplType) (values others : List Value) → IsTrue (pointwise key_fits types values) → IsTrue (pointwise key_fits types others)
    → enc_values values ≡ enc_values others → values ≡ others
