-- The text of a tuple: one tuple literal without blanks, with each attribute by its name and in the order of the schema.
use Rattle.std.specs.Prelude.{ℕ, Bool, cond, codes, List, [], ◌∷◌, ◌++◌, map}
use Rattle.std.specs.Fmt.{signed_decimal}
use Rattle.std.specs.List.{join_with_byte}
use Rattle.spl_value.specs.declared.types.Named.{Named}
use Rattle.spl_value.specs.declared.types.SplType.{SplType}
use Rattle.spl_value.specs.declared.types.SplType.TheOpen as T
use Rattle.spl_value.specs.declared.types.SplType.TheOpen.{SplType-F}
use Rattle.spl_value.specs.declared.types.SplType.TheFolds.{fold-SplType}
use Rattle.spl_value.specs.declared.value.Value.{Value}
use Rattle.spl_value.specs.declared.value.Value.TheOpen as O
use Rattle.spl_value.specs.declared.value.Value.TheOpen.{Value-F}
use Rattle.spl_value.specs.declared.value.Value.TheViews.{out-Value}
use Rattle.txt_format.specs.Escapes.{escaped}

-- pieces with a comma between each two, in brackets
abbrev pub bracketed : ℕ → ℕ → List (List ℕ) → List ℕ
bracketed left right pieces = left ∷ (join_with_byte 44 pieces ++ right ∷ [])

-- `true` or `false`
abbrev pub truth_text : Bool → List ℕ
truth_text b = cond b (codes "true") (codes "false")

-- `"`, the bytes, `"`
abbrev pub quoted : List ℕ → List ℕ
quoted bytes = 34 ∷ (escaped bytes ++ 34 ∷ [])

-- `key:value`
abbrev pub pair_text : (Value → List ℕ) → (Value → List ℕ) → Value × Value → List ℕ
pair_text key value p = key p.0 ++ 58 ∷ value p.1

-- `name=value` of each attribute
abbrev pub attribute_texts : {A : Type 0} → (A → Value → List ℕ) → List (Named A) → List Value → List (List ℕ)
attribute_texts f [] vs = []
attribute_texts f (a ∷ schema) [] = []
attribute_texts f (a ∷ schema) (v ∷ vs) = (a.name ++ 61 ∷ f a.kind v) ∷ attribute_texts f schema vs

-- the text of a value of a type, where f gives those of their parts
abbrev pub level_text : {A : Type 0} → (A → Value → List ℕ) → SplType-F A → Value-F Value → List ℕ
level_text f (T.Int k) (O.Int n) = signed_decimal n
level_text f T.Bool (O.Bool b) = truth_text b
level_text f T.Text (O.Text bytes) = quoted bytes
level_text f (T.List t) (O.List vs) = bracketed 91 93 (map (f t) vs)
level_text f (T.Map k t) (O.Map ps) = bracketed 123 125 (map (pair_text (f k) (f t)) ps)
level_text f (T.Tuple schema) (O.Tuple vs) = bracketed 123 125 (attribute_texts f schema vs)
level_text f _ _ = []

-- the text of a value of a type
abbrev pub value_text : SplType → Value → List ℕ
value_text = fold-SplType (Value → List ℕ) (λ t v. level_text (λ g u. g u) t (out-Value v))

-- the text of a tuple
abbrev pub txt_text : List (Named SplType) → List Value → List ℕ
txt_text schema vs = bracketed 123 125 (attribute_texts value_text schema vs)
