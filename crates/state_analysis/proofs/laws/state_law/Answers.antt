use Rattle.state_analysis.proofs.Keeping.{holds}
use Rattle.state_analysis.proofs.laws.state_law.Goals as goal

pub returns : goal.returns
returns c = holds
