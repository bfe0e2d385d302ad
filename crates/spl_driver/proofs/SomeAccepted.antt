-- Each program has a result, and a program that is too long is refused.
use Rattle.std.specs.Prelude.{ℕ, List, Result, Ok, Err}
use Rattle.std.proofs.Common.{refl}
use Rattle.spl_tree.specs.declared.token.LexicalError.TheVariants as L
use Rattle.spl_tree.specs.declared.token.Tokens.{Tokens}
use Rattle.spl_tree.specs.declared.unit.Definition.{Definition}
use Rattle.spl_tree.specs.Laws.{LexedLaw}
use Rattle.spl_tree.specs.Tokens.{IsLexed, tokens}
use Rattle.spl_tree.specs.Tokens as lexical
use Rattle.spl_tree.specs.Units.{IsUnit}
use Rattle.language_model.specs.declared.refusal.Refusal.{Refusal}
use Rattle.language_model.specs.declared.refusal.Code.TheVariants as C
use Rattle.language_model.specs.Refusals.{expansion_refusal, refusal_by}
use Rattle.language_model.specs.Accepted.{IsAccepted, no_tokens, too_deep, unexpected, no_graph, checks}
use Rattle.language_model.proofs.parts.Accepted.{refused_check}
use Rattle.language_model.specs.CheckedGraph.{CheckedGraph}
use Rattle.language_model.specs.Checking.{checked}
use Rattle.expansion_laws.specs.Laws.{IsFound, FoundLaw}
use Rattle.expr_parser.specs.declared.answer.SyntaxAnswer.TheVariants as A
use Rattle.unit_parser.specs.Parses.{IsAnswered, SomeAnswerLaw}
use Rattle.spl_driver.specs.AcceptedLaws.{SomeAcceptedLaw, TooLongLaw}

abbrev HasResult : List ℕ → List (List ℕ) → Type 0
HasResult bytes names = (x : Result CheckedGraph Refusal) × IsAccepted bytes names x

pub some_accepted : LexedLaw → SomeAnswerLaw → FoundLaw → SomeAcceptedLaw
some_accepted lexed answered found bytes names = by_tokens (tokens bytes) ((lexed bytes (tokens bytes)).1 refl)
  where
    by_graph : (ts : Tokens) (unit : List Definition) → IsLexed bytes (Ok ts) → IsUnit ts unit → IsFound unit names → HasResult bytes names
    by_graph ts unit is spelled (Ok g, flat) = (refused_check (checked unit g), checks ts unit g is spelled flat)
    by_graph ts unit is spelled (Err refusal, flat) = (Err (expansion_refusal refusal), no_graph ts unit refusal is spelled flat)

    by_answer : (ts : Tokens) → IsLexed bytes (Ok ts) → IsAnswered ts → HasResult bytes names
    by_answer ts is (Ok unit, spelled, some) = by_graph ts unit is spelled (found unit names)
    by_answer ts is (Err (A.Unexpected at), refused, some) = (Err (refusal_by C.Unexpected at), unexpected ts at is refused)
    by_answer ts is (Err (A.TooDeep at), deep, some) = (Err (refusal_by C.TooDeep at), too_deep ts at is deep)
    by_answer ts is (Err A.Memory, said, some) = absurd (some refl)

    by_tokens : (r : Result Tokens lexical.Refusal) → IsLexed bytes r → HasResult bytes names
    by_tokens (Err refusal) is = (Err (refusal_by (C.Lexical refusal.0) refusal.1), no_tokens refusal.0 refusal.1 is)
    by_tokens (Ok ts) is = by_answer ts is (answered ts)

pub too_long : TooLongLaw
too_long bytes names long = no_tokens L.TooLong 1048576 (lexical.too_long long)
