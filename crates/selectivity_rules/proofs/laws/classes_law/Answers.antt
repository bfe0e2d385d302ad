use Rattle.selectivity_rules.proofs.CausedItems.{class_law}
use Rattle.selectivity_rules.proofs.Counting.{interval_law}
use Rattle.selectivity_rules.proofs.laws.classes_law.Goals as goal

pub returns : goal.returns
returns c = record { interval = interval_law; class = class_law }
