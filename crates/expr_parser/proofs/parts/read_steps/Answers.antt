use Rattle.expr_parser.proofs.PartReadings.{steps_begun, steps_begun_stop}
use Rattle.expr_parser.proofs.parts.read_steps.Goals as goal

pub returns-in-Ok-clause-phrase : goal.returns-in-Ok-clause-phrase
returns-in-Ok-clause-phrase c = steps_begun c.args.base c.in-Ok.ensures

pub returns-in-Err-clause-phrase : goal.returns-in-Err-clause-phrase
returns-in-Err-clause-phrase c = steps_begun_stop c.args.base c.args.ts.now c.in-Err.stop c.in-Err.ensures
