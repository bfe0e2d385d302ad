-- What the lexer answers where it gives no tokens.
use Rattle.std.specs.Prelude.{◌≡◌, Result, Err}
use Rattle.spl_tree.specs.declared.token.Tokens.{Tokens}
use Rattle.spl_tree.specs.Tokens.{Refusal}
use Rattle.spl_lexer.specs.declared.answer.LexAnswer.{LexAnswer}
use Rattle.spl_lexer.specs.declared.answer.LexAnswer.TheVariants as A

-- the refusal is the program's; nothing is said where memory ran out
abbrev pub Refuses : LexAnswer → Result Tokens Refusal → Type 0
Refuses A.Memory tokens = Unit {0}
Refuses (A.Refused e at) tokens = tokens ≡ Err (e, at)
