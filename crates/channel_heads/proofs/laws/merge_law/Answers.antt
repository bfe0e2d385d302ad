use Rattle.channel_heads.proofs.MergeLawLemmas.{prefix, whole}
use Rattle.channel_heads.proofs.laws.merge_law.Goals as goal

pub returns-clause-prefix : goal.returns-clause-prefix
returns-clause-prefix c = prefix

pub returns-clause-whole : goal.returns-clause-whole
returns-clause-whole c = whole
