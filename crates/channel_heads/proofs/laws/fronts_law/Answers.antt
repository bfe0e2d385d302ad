use Rattle.channel_heads.proofs.Cuts.{cut_law}
use Rattle.channel_heads.proofs.Fronts.{front_law, order_law}
use Rattle.channel_heads.proofs.laws.fronts_law.Goals as goal

pub returns : goal.returns
returns c = record { order = order_law; front = front_law; cuts = cut_law }
