use Rattle.spl_value.proofs.PairsLaws.{none_at_gap}
use Rattle.spl_value.proofs.pairs.Items+tuple2+Value+Value.find.Goals as goal

pub returns-in-Err : goal.returns-in-Err
returns-in-Err c = none_at_gap c.args.key.now c.args.self.now c.in-Err.field-0 c.in-Err.ensures
