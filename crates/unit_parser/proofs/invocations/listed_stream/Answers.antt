use Rattle.spl_tree.specs.declared.keyword.Keyword.TheVariants as K
use Rattle.expr_parser.specs.Rules.{done, call}
use Rattle.unit_parser.specs.steps.GivesParts.{listed_stream}
use Rattle.statement_parser.specs.Lines.{Stream}
use Rattle.statement_parser.proofs.Readings.{word_passed, rule_on, rule_fails, word_fails}
use Rattle.statement_parser.proofs.TypeReadings.{tail}
use Rattle.unit_parser.proofs.invocations.listed_stream.Goals as goal

pub returns-in_err-behind : goal.returns-in_err-behind
returns-in_err-behind c =
    rule_fails listed_stream _ c.args.ts.now c.args.ts.now _ c.in_err-behind.field-0.0 c.from_residual.ensures.1 (λ o q. q)
    (word_fails _ K.Stream (call Stream done) _ c.in_err-behind.ensures)

pub returns : goal.returns
returns c =
    rule_on listed_stream (call Stream done) c.args.ts.now c.in_ok-behind.behind.now c.stream.result
    (λ o q. word_passed K.Stream c.in_ok-behind.ensures q) (tail Stream _ c.stream.result c.stream.ensures)
