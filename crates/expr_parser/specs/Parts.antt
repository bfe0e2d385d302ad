-- Which tokens spell parts of a program that hold expressions: a phrase with the symbol that closes it, and what is taken
-- of an expression that stands in front.
use Rattle.std.specs.Prelude.{◌≡◌, Bool, true, List, [], ◌∷◌, ◌++◌, ◌||◌}
use Rattle.std.specs.Option.{is_some}
use Rattle.spl_tree.specs.declared.symbol.Symbol.{Symbol}
use Rattle.spl_tree.specs.declared.symbol.Symbol.TheVariants as S
use Rattle.spl_tree.specs.declared.token.Token.{Token}
use Rattle.spl_tree.specs.declared.expression.ExprKind.TheVariants as X
use Rattle.spl_tree.specs.declared.expression.Step.{Step}
use Rattle.spl_tree.specs.Operators.{prefix_symbol, binary_symbol}
use Rattle.spl_tree.specs.spellings.Phrases.{Phrase}
use Rattle.spl_tree.specs.Trees.{Expr, placed}
use Rattle.spl_tree.specs.spellings.Grammar.{Is, Steps}
use Rattle.spl_tree.specs.Fronts.{Starts}

-- the tokens in front of the rest spell that value
pub record Takes {A : Type 0} (P : Phrase A) (tokens : List Token) (value : A) (rest : List Token) : Type 0 where
  pub front : List Token
  pub splits : tokens ≡ front ++ rest
  pub spells : P value front

-- the tokens in front of the rest start a phrase
pub record Begins {A : Type 0} (P : Phrase A) (tokens rest : List Token) : Type 0 where
  pub front : List Token
  pub splits : tokens ≡ front ++ rest
  pub starts : Starts P front

-- a phrase and the symbol that closes it
pub data Closed {A : Type 0} (P : Phrase A) (close : Symbol) : A → List Token → Type 0 where
  closed : (x : A) (c : Token) (a : List Token) → P x a → Is close c → Closed P close x (a ++ c ∷ [])

-- the members and elements that are taken of an expression, or none, and the expression that it becomes by them
pub data SpellsSteps (base : Expr) : Expr → List Token → Type 0 where
  alone : SpellsSteps base base []
  selects : (s : Step Expr) (ss : List (Step Expr)) (a : List Token) → Steps (s ∷ ss) a → SpellsSteps base (placed base.at (X.Select base (s ∷ ss))) a

-- whether an expression may begin or go on with a symbol, or that symbol stands between two expressions of a list. What
-- ends a list is another one.
abbrev pub goes_on : Symbol → Bool
goes_on S.LeftParen = true
goes_on S.LeftBracket = true
goes_on S.LeftBrace = true
goes_on S.Dot = true
goes_on S.Question = true
goes_on S.Comma = true
goes_on s = is_some (prefix_symbol s) || is_some (binary_symbol s)
