-- The key of a tuple, its bytes, and their hash. For the hash a key is a set of attributes: its bytes are
-- in the order of the schema, whatever the order of its places, and a place that is given twice counts once.
use Rattle.std.specs.Prelude.{ℕ, ◌*◌, ◌%◌, ◌^◌, ◌&&◌, ◌++◌, ◌==◌, ℤ, pos, Bool, true, false, List, [], ◌∷◌, length, map, filter, fold, bit_xor, nat_lt, unsigned_abs, slice_get, Option, Some, None, if◌then◌else◌}
use Rattle.std.specs.Int.{to_le_bytes, w64, int_rem_euclid}
use Rattle.std.specs.List.{enumerate_from, flat_map, filter_map, list_all, list_any}
use Rattle.spl_value.specs.declared.types.SplType.{SplType}
use Rattle.spl_value.specs.declared.types.SplType.TheOpen as T
use Rattle.spl_value.specs.declared.types.SplType.TheOpen.{SplType-F}
use Rattle.spl_value.specs.declared.types.SplType.TheViews.{out-SplType}
use Rattle.spl_value.specs.declared.value.Value.{Value}
use Rattle.spl_value.specs.declared.value.Value.TheOpen as O
use Rattle.spl_value.specs.declared.value.Value.TheOpen.{Value-F}
use Rattle.spl_value.specs.declared.value.Value.TheViews.{out-Value}
use Rattle.spl_value.specs.Values.{fits}

-- The hash

-- a byte is combined with the number by exclusive or, and that is multiplied by the prime, modulo 2^64
abbrev pub fnv_step : ℕ → ℕ → ℕ
fnv_step h b = bit_xor h b * 1099511628211 % 2 ^ 64

-- 64-bit FNV-1a
abbrev pub fnv : List ℕ → ℕ
fnv = fold fnv_step 14695981039346656037

-- The key

-- an integer, a boolean or a text
abbrev pub level_is_key : {A : Type 0} → Value-F A → Bool
level_is_key (O.Int n) = true
level_is_key (O.Bool b) = true
level_is_key (O.Text bytes) = true
level_is_key _ = false

abbrev pub is_key_value : Value → Bool
is_key_value v = level_is_key (out-Value v)

abbrev pub is_key_option : Option Value → Bool
is_key_option None = false
is_key_option (Some v) = is_key_value v

-- each place is in range and holds an integer, a boolean or a text
abbrev pub are_key_places : List Value → List ℕ → Bool
are_key_places tuple key = list_all (λ p. is_key_option (slice_get tuple p)) key

-- the values at the key's places, in the order of the places: as windows and groups are sorted by it
abbrev pub key_of : List Value → List ℕ → List Value
key_of tuple key = filter_map (slice_get tuple) key

abbrev pub has_place : List ℕ → ℕ → Bool
has_place key p = list_any (λ q. q == p) key

-- the values whose places the key has, each once, in the order of the schema
abbrev pub values_of_key : List Value → List ℕ → List Value
values_of_key tuple key = map (λ at. at.1) (filter (λ at. has_place key at.0) (enumerate_from 0 tuple))

-- Its bytes

-- a number modulo 2^64, as 8 bytes, the lowest first
abbrev pub enc_integer : ℤ → List ℕ
enc_integer n = to_le_bytes w64 (unsigned_abs (int_rem_euclid n (pos (2 ^ 64))))

abbrev pub level_enc : {A : Type 0} → Value-F A → List ℕ
level_enc (O.Int n) = enc_integer n
level_enc (O.Bool b) = (if b then 1 else 0) ∷ []
level_enc (O.Text bytes) = enc_integer (pos (length bytes)) ++ bytes
level_enc _ = []

-- an integer is 8 bytes, a boolean is one, and a text is its length as an integer and then its bytes
abbrev pub enc_value : Value → List ℕ
enc_value v = level_enc (out-Value v)

-- the bytes of values, one value's after another's
abbrev pub enc_values : List Value → List ℕ
enc_values values = flat_map enc_value values

-- the bytes of the key
abbrev pub enc : List Value → List ℕ → List ℕ
enc tuple key = enc_values (values_of_key tuple key)

-- The types of a key's values

abbrev pub level_is_key_type : {A : Type 0} → SplType-F A → Bool
level_is_key_type (T.Int k) = true
level_is_key_type T.Bool = true
level_is_key_type T.Text = true
level_is_key_type _ = false

-- an integer type, `boolean` or `rstring`
abbrev pub is_key_type : SplType → Bool
is_key_type t = level_is_key_type (out-SplType t)

abbrev pub level_is_short : {A : Type 0} → Value-F A → Bool
level_is_short (O.Text bytes) = nat_lt (length bytes) (2 ^ 64)
level_is_short _ = true

-- if the value is a text, it has fewer than 2^64 bytes. So has each text in memory, since its length
-- is a number of 64 bits
abbrev pub is_short : Value → Bool
is_short v = level_is_short (out-Value v)

-- the value is one of the type's, and the type one that a key's value may have; a text is short enough
abbrev pub key_fits : SplType → Value → Bool
key_fits t v = is_key_type t && fits t v && is_short v
