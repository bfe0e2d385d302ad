-- What reading the tokens of a program as a unit answers.
use Rattle.std.specs.Prelude.{◌≡◌, ◌⊎◌, List, Result, Ok, Err}
use Rattle.spl_tree.specs.declared.token.Token.{Token}
use Rattle.spl_tree.specs.declared.token.Tokens.{Tokens}
use Rattle.spl_tree.specs.declared.unit.Definition.{Definition}
use Rattle.spl_tree.specs.Units.{IsTooDeepAt, IsUnexpectedAt, IsUnit, SpellsProgram}
use Rattle.expr_parser.specs.declared.answer.SyntaxAnswer.{SyntaxAnswer}
use Rattle.expr_parser.specs.declared.answer.SyntaxAnswer.TheVariants as A

-- what is answered of a program; nothing is said where memory was lacking, or room on the stack
abbrev pub ParsesUnit : Tokens → Result (List Definition) SyntaxAnswer → Type 0
ParsesUnit tokens (Ok unit) = IsUnit tokens unit
ParsesUnit tokens (Err (A.Unexpected at)) = IsUnexpectedAt tokens at
ParsesUnit tokens (Err (A.TooDeep at)) = IsTooDeepAt tokens 0 at
ParsesUnit tokens (Err A.Memory) = Unit {0}

-- tokens spell one unit at most
abbrev pub OneUnitLaw : Type 0
OneUnitLaw = (x y : List Definition) (a : List Token) → SpellsProgram x a → SpellsProgram y a → x ≡ y

-- lack of memory apart, there is one answer
abbrev pub OneAnswerLaw : Type 0
OneAnswerLaw = (tokens : Tokens) (x y : Result (List Definition) SyntaxAnswer) → ParsesUnit tokens x → ParsesUnit tokens y
    → (x ≡ Err A.Memory) ⊎ ((y ≡ Err A.Memory) ⊎ (x ≡ y))

-- tokens have an answer: they are a unit, or are refused at a place
abbrev pub IsAnswered : Tokens → Type 0
IsAnswered tokens = (x : Result (List Definition) SyntaxAnswer) × ParsesUnit tokens x × (x ≡ Err A.Memory → ⊥)

-- so all tokens do
abbrev pub SomeAnswerLaw : Type 0
SomeAnswerLaw = (tokens : Tokens) → IsAnswered tokens
