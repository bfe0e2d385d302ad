use Rattle.network_model.proofs.Parts.{is-part}
use Rattle.network_model.proofs.Adds.{nothing_law}
use Rattle.network_model.proofs.parts_law.Goals as goal

pub returns-clause-parts : goal.returns-clause-parts
returns-clause-parts c = is-part

pub returns-clause-nothing : goal.returns-clause-nothing
returns-clause-nothing c = nothing_law
