-- Parts of which these relations are made.
use Rattle.std.specs.Prelude.{◌≡◌, List, [], ◌∷◌, ◌++◌}
use Rattle.spl_tree.specs.declared.symbol.Symbol.{Symbol}
use Rattle.spl_tree.specs.declared.keyword.Keyword.{Keyword}
use Rattle.spl_tree.specs.declared.token.Token.{Token}
use Rattle.spl_tree.specs.declared.token.TokenKind.TheVariants as T
use Rattle.spl_tree.specs.spellings.Grammar.{Is}

-- the token is that reserved word
abbrev pub IsKeyword : Keyword → Token → Type 0
IsKeyword k t = t.kind ≡ T.Keyword k

-- which tokens spell a phrase
abbrev pub Phrase : Type 0 → Type 1
Phrase A = A → List Token → Type 0

-- phrases in a row, or none
pub data Row {A : Type 0} (P : Phrase A) : List A → List Token → Type 0 where
  none : Row P [] []
  more : (xs : List A) (x : A) (a b : List Token) → Row P xs a → P x b → Row P (xs ++ x ∷ []) (a ++ b)

-- one phrase or more, with that symbol between them
pub data Separated {A : Type 0} (s : Symbol) (P : Phrase A) : List A → List Token → Type 0 where
  first : (x : A) (a : List Token) → P x a → Separated s P (x ∷ []) a
  next : (xs : List A) (x : A) (t : Token) (a b : List Token) → Separated s P xs a → Is s t → P x b → Separated s P (xs ++ x ∷ []) (a ++ t ∷ b)

-- such phrases, or none
pub data Listed {A : Type 0} (s : Symbol) (P : Phrase A) : List A → List Token → Type 0 where
  empty : Listed s P [] []
  some : (xs : List A) (a : List Token) → Separated s P xs a → Listed s P xs a
