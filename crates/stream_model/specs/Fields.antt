-- The value of a field of a row, and the field of a value.
use Rattle.std.specs.Prelude.{ℕ, true, false, List, [], ◌∷◌, Option, Some, None, option_map, if◌then◌else◌, codes, cond}
use Rattle.std.specs.Option.{option_and_then}
use Rattle.std.specs.Str.{bytes_eq}
use Rattle.std.specs.Fmt.{signed_decimal}
use Rattle.spl_value.specs.declared.value.Value.{Value}
use Rattle.spl_value.specs.declared.value.Value.TheVariants as V
use Rattle.spl_value.specs.declared.value.Value.TheOpen as O
use Rattle.spl_value.specs.declared.value.Value.TheOpen.{Value-F}
use Rattle.spl_value.specs.declared.types.Named.{Named}
use Rattle.spl_value.specs.declared.types.SplType.{SplType}
use Rattle.spl_value.specs.declared.types.SplType.TheOpen as T
use Rattle.spl_value.specs.declared.types.SplType.TheOpen.{SplType-F}
use Rattle.spl_value.specs.declared.types.SplType.TheViews.{out-SplType}
use Rattle.spl_value.specs.Decimal.{integer_of}

-- the value of a field that fits the type: an integer is an optional `-` and digits in the type's range, a boolean is
-- `true` or `false`, and an rstring is any bytes; other types have no text form
abbrev pub level_value : {A : Type 0} → SplType-F A → List ℕ → Option Value
level_value (T.Int k) field = option_map V.Int (integer_of k field)
level_value T.Bool field = if bytes_eq field (codes "true") then Some (V.Bool true)
    else if bytes_eq field (codes "false") then Some (V.Bool false) else None
level_value T.Text field = Some (V.Text field)
level_value (T.List t) field = None
level_value (T.Map k t) field = None
level_value (T.Tuple schema) field = None

-- the tuple of as many fields as there are attributes, each of which fits
abbrev pub tuple_of : List (Named SplType) → List (List ℕ) → Option (List Value)
tuple_of [] [] = Some []
tuple_of [] (field ∷ fields) = None
tuple_of (a ∷ schema) [] = None
tuple_of (a ∷ schema) (field ∷ fields) =
    option_and_then (λ v. option_map (λ vs. v ∷ vs) (tuple_of schema fields)) (level_value (out-SplType a.kind) field)

-- the field of an integer, a boolean or an rstring
abbrev pub level_field : {A : Type 0} → Value-F A → List ℕ
level_field (O.Int n) = signed_decimal n
level_field (O.Bool b) = cond b (codes "true") (codes "false")
level_field (O.Text bytes) = bytes
level_field _ = []
