use Rattle.stream_model.proofs.Replying.{reply_law}
use Rattle.stream_model.proofs.reply_laws.replies_law.Goals as goal

pub returns : goal.returns
returns c = record { causal = reply_law }
