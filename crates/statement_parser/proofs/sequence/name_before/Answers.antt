use Rattle.expr_parser.specs.Rules.{done}
use Rattle.statement_parser.specs.Lines as lines
use Rattle.statement_parser.specs.Lines.{Name, R, expect}
use Rattle.statement_parser.proofs.Readings.{name_passed, rule_on}
use Rattle.statement_parser.proofs.sequence.name_before.Goals as goal

pub returns : goal.returns
returns c =
    rule_on (lines.name_before c.args.symbol) (expect c.args.symbol (done c.in_ok-name.name)) c.args.ts.now c.in_ok-name.behind.now c.closed.result
    (λ o q. name_passed (λ n. expect c.args.symbol (done n)) c.in_ok-name.ensures q) c.closed.ensures
