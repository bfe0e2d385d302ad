use Rattle.pe_fusion.proofs.Checked.{fits_law}
use Rattle.pe_fusion.proofs.PlanParts.{regions_law, chain_law}
use Rattle.pe_fusion.proofs.RegionPieces.{pieces_law, whole_law}
use Rattle.pe_fusion.proofs.laws.pieces_law.Goals as goal

pub returns-clause-fits : goal.returns-clause-fits
returns-clause-fits c = fits_law

pub returns-clause-regions : goal.returns-clause-regions
returns-clause-regions c = regions_law

pub returns-clause-chain : goal.returns-clause-chain
returns-clause-chain c = chain_law

pub returns-clause-pieces : goal.returns-clause-pieces
returns-clause-pieces c = pieces_law

pub returns-clause-whole : goal.returns-clause-whole
returns-clause-whole c = whole_law
