-- Which lines spell a tuple. Blanks may stand between two tokens, before the first and after the last. A token is a
-- bracket, `=`, `:`, `,`, a name, an integer with its sign, a boolean or a text.
use Rattle.std.specs.Prelude.{◌≡◌, ◌==◌, ◌||◌, ℕ, ℤ, Bool, true, false, codes, List, [], ◌∷◌, ◌++◌, fold, Some}
use Rattle.std.specs.List.{list_all, join_with_byte}
use Rattle.spl_value.specs.declared.types.IntKind.{IntKind}
use Rattle.spl_value.specs.declared.types.Named.{Named}
use Rattle.spl_value.specs.declared.types.SplType.{SplType}
use Rattle.spl_value.specs.declared.types.SplType.TheVariants as T
use Rattle.spl_value.specs.declared.value.Value.{Value}
use Rattle.spl_value.specs.declared.value.Value.TheVariants as V
use Rattle.spl_value.specs.Decimal.{integer_of}
use Rattle.spl_value.specs.Pairs.{pairs_put}
use Rattle.txt_format.specs.Escapes.{Means}

-- a space, a tab or a carriage return
abbrev pub is_blank : ℕ → Bool
is_blank b = (b == 32) || ((b == 9) || (b == 13))

abbrev pub are_blanks : List ℕ → Bool
are_blanks = list_all is_blank

-- a name is a token, so it begins with no blank
abbrev pub begins_blank : List ℕ → Bool
begins_blank [] = false
begins_blank (b ∷ bs) = is_blank b

-- the pairs of a map, each put in turn: a later pair replaces an earlier one with the same key
abbrev pub put_all : List (Value × Value) → List (Value × Value)
put_all = fold (λ ps p. pairs_put ps p.0 p.1) []

-- what stands between two brackets: pieces with a comma between each two, or blanks where there is no piece
pub data Inside : List (List ℕ) → List ℕ → Type 0 where
  nothing : (blanks : List ℕ) → are_blanks blanks ≡ true → Inside [] blanks
  pieces : (p : List ℕ) (ps : List (List ℕ)) → Inside (p ∷ ps) (join_with_byte 44 (p ∷ ps))

mutual
  -- the bytes, which are a token or more, spell a value of the type
  pub data SpellsValue : SplType → List ℕ → Value → Type 0 where
    integer : (k : IntKind) (bytes : List ℕ) (n : ℤ) → integer_of k bytes ≡ Some n → SpellsValue (T.Int k) bytes (V.Int n)
    yes : SpellsValue T.Bool (codes "true") (V.Bool true)
    no : SpellsValue T.Bool (codes "false") (V.Bool false)
    text : (inside bytes : List ℕ) → Means inside bytes → SpellsValue T.Text (34 ∷ (inside ++ 34 ∷ [])) (V.Text bytes)
    list : (t : SplType) (pieces : List (List ℕ)) (inside : List ℕ) (vs : List Value) → SpellElements t pieces vs → Inside pieces inside
        → SpellsValue (T.List t) (91 ∷ (inside ++ 93 ∷ [])) (V.List vs)
    map_of : (k t : SplType) (pieces : List (List ℕ)) (inside : List ℕ) (ps : List (Value × Value)) → SpellPairs k t pieces ps → Inside pieces inside
        → SpellsValue (T.Map k t) (123 ∷ (inside ++ 125 ∷ [])) (V.Map (put_all ps))
    tuple : (schema : List (Named SplType)) (pieces : List (List ℕ)) (inside : List ℕ) (vs : List Value) → SpellAttributes schema pieces vs → Inside pieces inside
        → SpellsValue (T.Tuple schema) (123 ∷ (inside ++ 125 ∷ [])) (V.Tuple vs)

  -- the same with blanks around
  pub data Spells : SplType → List ℕ → Value → Type 0 where
    between : (t : SplType) (before bytes behind : List ℕ) (v : Value) → are_blanks before ≡ true → SpellsValue t bytes v → are_blanks behind ≡ true
        → Spells t (before ++ (bytes ++ behind)) v

  -- each piece spells an element of a list
  pub data SpellElements : SplType → List (List ℕ) → List Value → Type 0 where
    no_element : (t : SplType) → SpellElements t [] []
    element : (t : SplType) (bytes : List ℕ) (v : Value) (pieces : List (List ℕ)) (vs : List Value) → Spells t bytes v → SpellElements t pieces vs
        → SpellElements t (bytes ∷ pieces) (v ∷ vs)

  -- each piece spells a pair of a map, `key:value`
  pub data SpellPairs : SplType → SplType → List (List ℕ) → List (Value × Value) → Type 0 where
    no_pair : (k t : SplType) → SpellPairs k t [] []
    pair : (k t : SplType) (key value : List ℕ) (u v : Value) (pieces : List (List ℕ)) (ps : List (Value × Value)) → Spells k key u → Spells t value v
        → SpellPairs k t pieces ps → SpellPairs k t ((key ++ 58 ∷ value) ∷ pieces) ((u, v) ∷ ps)

  -- each piece spells an attribute, `name=value`, in the order of the schema
  pub data SpellAttributes : List (Named SplType) → List (List ℕ) → List Value → Type 0 where
    no_attribute : SpellAttributes [] [] []
    attribute : (a : Named SplType) (schema : List (Named SplType)) (before behind bytes : List ℕ) (v : Value) (pieces : List (List ℕ)) (vs : List Value)
        → begins_blank a.name ≡ false → are_blanks before ≡ true → are_blanks behind ≡ true → Spells a.kind bytes v → SpellAttributes schema pieces vs
        → SpellAttributes (a ∷ schema) ((before ++ (a.name ++ (behind ++ 61 ∷ bytes))) ∷ pieces) (v ∷ vs)

-- the line spells the tuple
abbrev pub txt_spells : List (Named SplType) → List ℕ → List Value → Type 0
txt_spells schema line vs = Spells (T.Tuple schema) line (V.Tuple vs)
