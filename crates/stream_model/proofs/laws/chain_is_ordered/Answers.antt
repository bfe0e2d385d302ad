use Rattle.stream_model.proofs.PathLaws.{path_is_ordered, path_is_numbered}
use Rattle.stream_model.proofs.laws.chain_is_ordered.Goals as goal

pub returns-clause-ordered : goal.returns-clause-ordered
returns-clause-ordered c = path_is_ordered

pub returns-clause-numbered : goal.returns-clause-numbered
returns-clause-numbered c = path_is_numbered
