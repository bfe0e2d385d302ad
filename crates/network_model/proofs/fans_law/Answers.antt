use Rattle.network_model.proofs.Fans.{fans_law}
use Rattle.network_model.proofs.fans_law.Goals as goal

pub returns : goal.returns
returns c = record { fans = fans_law }
