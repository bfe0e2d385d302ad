use Rattle.expansion_laws.proofs.Meanings.{input_law, one_standing_law}
use Rattle.expansion_laws.proofs.laws.inputs_law.Goals as goal

pub returns : goal.returns
returns c = record { inputs = input_law; one = one_standing_law }
