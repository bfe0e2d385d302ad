use Rattle.stream_model.proofs.Growing.{out_grows, chain_grows}
use Rattle.stream_model.proofs.Closings.{out_closes, closed_ends, closed_gives_closed}
use Rattle.stream_model.proofs.laws.order_law.Goals as goal

pub returns-clause-out : goal.returns-clause-out
returns-clause-out c = out_grows

pub returns-clause-chain : goal.returns-clause-chain
returns-clause-chain c = chain_grows

pub returns-clause-closes : goal.returns-clause-closes
returns-clause-closes c = out_closes

pub returns-clause-ended : goal.returns-clause-ended
returns-clause-ended c = closed_ends

pub returns-clause-closed : goal.returns-clause-closed
returns-clause-closed c = closed_gives_closed
