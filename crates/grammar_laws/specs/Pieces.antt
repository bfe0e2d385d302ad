-- Pieces of which the lines of a grammar are made: reserved words, symbols and names, and phrases of them one after
-- another.
use Rattle.std.specs.Prelude.{◌≡◌, ℕ, List, [], ◌∷◌, ◌++◌, Option, Some, None}
use Rattle.spl_tree.specs.declared.expression.Placed.{Placed}
use Rattle.spl_tree.specs.declared.keyword.Keyword.{Keyword}
use Rattle.spl_tree.specs.declared.symbol.Symbol.{Symbol}
use Rattle.spl_tree.specs.declared.token.Token.{Token}
use Rattle.spl_tree.specs.declared.token.TokenKind.{TokenKind}
use Rattle.spl_tree.specs.declared.token.TokenKind.TheVariants as T

-- which lists of tokens spell a piece
abbrev pub Piece : Type 1
Piece = List Token → Type 0

-- one token of a kind
pub data One (kind : TokenKind) : List Token → Type 0 where
  one : (t : Token) → t.kind ≡ kind → One kind (t ∷ [])

-- a reserved word, and a symbol
abbrev pub word : Keyword → Piece
word k = One (T.Keyword k)

abbrev pub sign : Symbol → Piece
sign s = One (T.Symbol s)

-- a name at its place
pub data Name : Placed (List ℕ) → List Token → Type 0 where
  name : (t : Token) (n : List ℕ) → t.kind ≡ T.Word n → Name (record { at = t.start; what = n }) (t ∷ [])

-- `$` and a name, at their place
pub data Dollar : Placed (List ℕ) → List Token → Type 0 where
  dollar : (t : Token) (n : List ℕ) → t.kind ≡ T.Dollar n → Dollar (record { at = t.start; what = n }) (t ∷ [])

-- a piece, and after it another
pub data Joined (P Q : List Token → Type 0) : List Token → Type 0 where
  joined : (a b : List Token) → P a → Q b → Joined P Q (a ++ b)

-- no token
pub data Nothing : List Token → Type 0 where
  nothing : Nothing []

-- pieces one after another
abbrev pub In : List (List Token → Type 0) → List Token → Type 0
In [] = Nothing
In (p ∷ []) = p
In (p ∷ q ∷ ps) = Joined p (In (q ∷ ps))

-- where the first token begins
abbrev pub first : List Token → Option ℕ
first [] = None
first (t ∷ ts) = Some t.start
