use Rattle.network_laws.proofs.Counting.{channel_counts_law, plain_counts}
use Rattle.network_laws.proofs.laws.counts_law.Goals as goal

pub returns-clause-plain : goal.returns-clause-plain
returns-clause-plain c = plain_counts

pub returns-clause-channels : goal.returns-clause-channels
returns-clause-channels c = channel_counts_law
