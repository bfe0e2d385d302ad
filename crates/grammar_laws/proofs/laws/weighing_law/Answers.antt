use Rattle.grammar_laws.proofs.Weighing.{whole_list_law}
use Rattle.grammar_laws.proofs.laws.weighing_law.Goals as goal

pub returns : goal.returns
returns c = record { whole = whole_list_law }
