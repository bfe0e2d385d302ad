use Rattle.network_model.proofs.Receipts.{receipts_law}
use Rattle.network_model.proofs.Adds.{adds_law, pours_law}
use Rattle.network_model.proofs.receipts_law.Goals as goal

pub returns-clause-chains : goal.returns-clause-chains
returns-clause-chains c = receipts_law

pub returns-clause-adds : goal.returns-clause-adds
returns-clause-adds c = adds_law

pub returns-clause-pours : goal.returns-clause-pours
returns-clause-pours c = pours_law
