use Rattle.stream_rules.proofs.AnswerSteps.{no_tuple, refused_as}
use Rattle.stream_rules.proofs.streams.attributes_of_tuple.Goals as goal

pub returns-in_default : goal.returns-in_default
returns-in_default c = refused_as _ _ _ c.mismatch.ensures (no_tuple c.args.at c.args.kind c.in_default.ensures)
