use Rattle.expr_parser.proofs.PartReadings.{items_spelled, items_spelled_stop, items_begun, items_begun_stop}
use Rattle.expr_parser.proofs.parts.read_items.Goals as goal

pub returns-in-Ok-clause-spelled : goal.returns-in-Ok-clause-spelled
returns-in-Ok-clause-spelled c = items_spelled c.args.close c.in-Ok.ensures

pub returns-in-Err-clause-spelled : goal.returns-in-Err-clause-spelled
returns-in-Err-clause-spelled c = items_spelled_stop c.args.close c.args.ts.now c.in-Err.stop c.in-Err.ensures

pub returns-in-Ok-clause-phrase : goal.returns-in-Ok-clause-phrase
returns-in-Ok-clause-phrase c = items_begun c.args.close c.in-Ok.ensures

pub returns-in-Err-clause-phrase : goal.returns-in-Err-clause-phrase
returns-in-Err-clause-phrase c = items_begun_stop c.args.close c.args.ts.now c.in-Err.stop c.in-Err.ensures
