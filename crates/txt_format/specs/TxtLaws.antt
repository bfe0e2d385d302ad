-- What is written is read back, and a line spells one tuple at most.
use Rattle.std.specs.Prelude.{◌≡◌, ◌==◌, ◌&&◌, ◌||◌, nat_lt, not, ℕ, Bool, true, false, IsTrue, List, [], ◌∷◌}
use Rattle.std.specs.List.{list_all}
use Rattle.spl_value.specs.declared.types.Named.{Named}
use Rattle.spl_value.specs.declared.types.SplType.{SplType}
use Rattle.spl_value.specs.declared.types.SplType.TheOpen as T
use Rattle.spl_value.specs.declared.types.SplType.TheOpen.{SplType-F}
use Rattle.spl_value.specs.declared.types.SplType.TheFolds.{fold-SplType}
use Rattle.spl_value.specs.declared.value.Value.{Value}
use Rattle.spl_value.specs.Decimal.{is_digit}
use Rattle.spl_value.specs.Values.{tuple_fits}
use Rattle.txt_format.specs.TxtSpelling.{txt_spells}
use Rattle.txt_format.specs.TxtText.{txt_text}

abbrev pub has_no_feed : List ℕ → Bool
has_no_feed = list_all (λ b. not (b == 10))

-- a letter or `_`
abbrev pub is_letter : ℕ → Bool
is_letter b = (not (nat_lt b 65) && nat_lt b 91) || ((not (nat_lt b 97) && nat_lt b 123) || (b == 95))

-- a letter or `_`, then letters, digits and `_`
abbrev pub is_word : List ℕ → Bool
is_word [] = false
is_word (b ∷ bs) = is_letter b && list_all (λ c. is_letter c || is_digit c) bs

-- the names of a type's attributes are words, where those in its parts are
abbrev pub level_named : SplType-F Bool → Bool
level_named (T.Int k) = true
level_named T.Bool = true
level_named T.Text = true
level_named (T.List t) = t
level_named (T.Map k t) = k && t
level_named (T.Tuple schema) = list_all (λ a. is_word a.name && a.kind) schema

-- the names of the attributes of each tuple type within a type are words
abbrev pub names_are_words : SplType → Bool
names_are_words = fold-SplType Bool level_named

-- the names of a schema, and of each tuple type in it, are words
abbrev pub schema_has_words : List (Named SplType) → Bool
schema_has_words schema = list_all (λ a. is_word a.name && names_are_words a.kind) schema

-- the text of a tuple that fits spells it
abbrev pub WrittenLaw : Type 0
WrittenLaw = (schema : List (Named SplType)) (vs : List Value) → IsTrue (schema_has_words schema) → IsTrue (tuple_fits schema vs) → txt_spells schema (txt_text schema vs) vs

-- the text of a tuple that fits has no line feed
abbrev pub OneLineLaw : Type 0
OneLineLaw = (schema : List (Named SplType)) (vs : List Value) → IsTrue (schema_has_words schema) → IsTrue (tuple_fits schema vs) → IsTrue (has_no_feed (txt_text schema vs))

-- what a line spells is a tuple of the schema
abbrev pub FittingLaw : Type 0
FittingLaw = (schema : List (Named SplType)) (line : List ℕ) (vs : List Value) → txt_spells schema line vs → IsTrue (tuple_fits schema vs)

-- a line spells one tuple at most
abbrev pub OneTupleLaw : Type 0
OneTupleLaw = (schema : List (Named SplType)) (line : List ℕ) (vs ws : List Value) → txt_spells schema line vs → txt_spells schema line ws → vs ≡ ws
