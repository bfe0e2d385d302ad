use Rattle.expr_parser.proofs.PartReadings.{elements_spelled, elements_spelled_stop, elements_begun, elements_begun_stop}
use Rattle.expr_parser.proofs.parts.read_elements.Goals as goal

pub returns-in-Ok-clause-spelled : goal.returns-in-Ok-clause-spelled
returns-in-Ok-clause-spelled c = elements_spelled c.args.close c.in-Ok.ensures

pub returns-in-Err-clause-spelled : goal.returns-in-Err-clause-spelled
returns-in-Err-clause-spelled c = elements_spelled_stop c.args.close c.args.ts.now c.in-Err.stop c.in-Err.ensures

pub returns-in-Ok-clause-phrase : goal.returns-in-Ok-clause-phrase
returns-in-Ok-clause-phrase c = elements_begun c.args.close c.in-Ok.ensures

pub returns-in-Err-clause-phrase : goal.returns-in-Err-clause-phrase
returns-in-Err-clause-phrase c = elements_begun_stop c.args.close c.args.ts.now c.in-Err.stop c.in-Err.ensures
