use Rattle.run_report.proofs.KeyNames.{key_names}
use Rattle.run_report.proofs.laws.key_names_law.Goals as goal

pub returns : goal.returns
returns c = key_names
