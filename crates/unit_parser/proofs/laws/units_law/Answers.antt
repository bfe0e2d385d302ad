use Rattle.unit_parser.proofs.WholeUnits.{one_unit}
use Rattle.unit_parser.proofs.OneAnswer.{one_answer}
use Rattle.unit_parser.proofs.SomeAnswer.{some_answer}
use Rattle.unit_parser.proofs.laws.units_law.Goals as goal

pub returns : goal.returns
returns c = record { one = one_unit; answer = one_answer; some = some_answer }
