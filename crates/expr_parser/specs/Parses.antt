-- What reading an expression from the tokens of a program answers.
use Rattle.std.specs.Prelude.{◌≡◌, ◌⊎◌, ℕ, ◌≤◌, List, length, drop, None, Result, Ok, Err}
use Rattle.spl_tree.specs.declared.token.Token.{Token}
use Rattle.spl_tree.specs.declared.token.Tokens.{Tokens}
use Rattle.spl_tree.specs.Trees.{Expr}
use Rattle.spl_tree.specs.Grammar.{Spells, Expression}
use Rattle.spl_tree.specs.Units.{IsTooDeepAt, place_of}
use Rattle.spl_tree.specs.Weights.{too_deep_from}
use Rattle.expr_parser.specs.declared.answer.ParsedExpr.{ParsedExpr}
use Rattle.expr_parser.specs.declared.answer.SyntaxAnswer.{SyntaxAnswer}
use Rattle.expr_parser.specs.declared.answer.SyntaxAnswer.TheVariants as A
use Rattle.spl_tree.specs.Fronts.{IsPhrase, IsUnexpected}

-- the tokens spell the expression
abbrev pub SpellsExpr : Expr → List Token → Type 0
SpellsExpr e = Spells (Expression e)

-- no token from there on is too deep, and the longest front of these tokens that starts an expression is one, and
-- ends before the next token
pub record IsParsed (tokens : Tokens) (from : ℕ) (parsed : ParsedExpr) : Type 0 where
  pub shallow : too_deep_from from tokens.list ≡ None
  pub from_there : from ≤ parsed.next
  pub within : parsed.next ≤ length tokens.list
  pub phrase : IsPhrase SpellsExpr (drop from tokens.list) parsed.expr (drop parsed.next tokens.list)

-- no token from there on is too deep, and that front is no expression, and ends before the token of that place, or at
-- the program's end
pub record IsUnexpectedAt (tokens : Tokens) (from at : ℕ) : Type 0 where
  pub shallow : too_deep_from from tokens.list ≡ None
  pub token : ℕ
  pub from_there : from ≤ token
  pub within : token ≤ length tokens.list
  pub place : at ≡ place_of tokens token
  pub unexpected : IsUnexpected SpellsExpr (drop from tokens.list) (drop token tokens.list)

-- what is answered of the expression at a token; nothing is said where memory was lacking, or room on the stack
abbrev pub ParsesExpr : Tokens → ℕ → Result ParsedExpr SyntaxAnswer → Type 0
ParsesExpr tokens from (Ok parsed) = IsParsed tokens from parsed
ParsesExpr tokens from (Err (A.Unexpected at)) = IsUnexpectedAt tokens from at
ParsesExpr tokens from (Err (A.TooDeep at)) = IsTooDeepAt tokens from at
ParsesExpr tokens from (Err A.Memory) = Unit {0}

-- tokens spell one tree at most
abbrev pub OneTreeLaw : Type 0
OneTreeLaw = (e f : Expr) (a : List Token) → SpellsExpr e a → SpellsExpr f a → e ≡ f

-- lack of memory apart, there is one answer
abbrev pub OneAnswerLaw : Type 0
OneAnswerLaw = (tokens : Tokens) (from : ℕ) (x y : Result ParsedExpr SyntaxAnswer) → ParsesExpr tokens from x → ParsesExpr tokens from y
    → (x ≡ Err A.Memory) ⊎ ((y ≡ Err A.Memory) ⊎ (x ≡ y))
