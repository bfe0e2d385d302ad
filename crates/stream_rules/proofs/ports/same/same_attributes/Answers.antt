use Rattle.stream_rules.proofs.SameSchemas.{same_tested}
use Rattle.stream_rules.proofs.ports.same.same_attributes.Goals as goal

pub returns : goal.returns
returns c = same_tested _ _ _ c.are_equal.ensures
