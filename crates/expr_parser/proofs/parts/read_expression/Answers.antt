use Rattle.expr_parser.proofs.Expressions.{exact_took}
use Rattle.expr_parser.proofs.Parsed.{begun_stop}
use Rattle.expr_parser.proofs.parts.read_expression.Goals as goal

pub returns-in-Ok-clause-phrase : goal.returns-in-Ok-clause-phrase
returns-in-Ok-clause-phrase c = exact_took c.in-Ok.ensures

pub returns-in-Err-clause-phrase : goal.returns-in-Err-clause-phrase
returns-in-Err-clause-phrase c = begun_stop c.args.ts.now c.in-Err.stop c.in-Err.ensures
