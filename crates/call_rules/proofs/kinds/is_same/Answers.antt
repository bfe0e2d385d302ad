use Rattle.call_rules.proofs.kinds.is_same.Goals as goal
use Rattle.language_model.proofs.TypingLaws.{same_as}

pub returns : goal.returns
returns c = same_as c.args.a.now c.args.b.now c.same_type.result c.same_type.ensures
