-- There is an answer for the tokens of each program.
use Rattle.std.proofs.Common.{◌≡◌, ℕ, List, [], ◌∷◌, Option, Some, None, Ok, Err, refl}
use Rattle.spl_tree.specs.declared.token.Token.{Token}
use Rattle.spl_tree.specs.declared.unit.Definition.{Definition}
use Rattle.spl_tree.specs.Units.{place_of}
use Rattle.spl_tree.specs.Weights.{too_deep_from}
use Rattle.expr_parser.specs.declared.answer.SyntaxAnswer.TheVariants as A
use Rattle.expr_parser.specs.Rules.{RuleResult, Took, Refused, Spent, Reads}
use Rattle.statement_parser.specs.Lines.{Whole, rule}
use Rattle.unit_parser.specs.Parses.{IsAnswered, SomeAnswerLaw}
use Rattle.unit_parser.proofs.Parsed.{all_taken, some_left, refused}
use Rattle.unit_parser.proofs.Ranked.{Leaves, line_answered}
use Rattle.unit_parser.proofs.Ranks.{rank, takes, ranked}

pub some_answer : SomeAnswerLaw
some_answer tokens = by_weights (too_deep_from 0 tokens.list) refl
  where
    by_left : too_deep_from 0 tokens.list ≡ None → (unit : List Definition) (rest : List Token) → Reads rule Whole tokens.list (Took unit rest) → IsAnswered tokens
    by_left shallow unit [] reads = (Ok unit, all_taken tokens [] tokens.list refl reads refl shallow, λ e. cc)
    by_left shallow unit (t ∷ rest) reads = (Err (A.Unexpected _), some_left tokens (t ∷ rest) tokens.list refl reads (λ e. cc) shallow, λ e. cc)

    by_reading : too_deep_from 0 tokens.list ≡ None → (o : RuleResult (List Definition)) → Reads rule Whole tokens.list o → Leaves (takes Whole) tokens.list o → IsAnswered tokens
    by_reading shallow (Took unit rest) reads leaves = by_left shallow unit rest reads
    by_reading shallow (Refused rest) reads leaves = (Err (A.Unexpected _), refused tokens rest tokens.list refl reads shallow, λ e. cc)
    by_reading shallow Spent reads leaves = absurd leaves

    by_weights : (o : Option ℕ) → too_deep_from 0 tokens.list ≡ o → IsAnswered tokens
    by_weights (Some token) deep = (Err (A.TooDeep (place_of tokens token)), record { token = token; first = deep; place = refl }, λ e. cc)
    by_weights None shallow = let c = line_answered rule rank takes ranked Whole tokens.list in by_reading shallow c.answer c.reads c.leaves
