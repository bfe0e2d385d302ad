use Rattle.spl_value.proofs.CallsLaws.{count_law, distance_law, least_number_law, least_law, greatest_law, part_law, index_law}
use Rattle.builtin_calls.proofs.laws.values_law.Goals as goal

pub returns-clause-count : goal.returns-clause-count
returns-clause-count c = count_law

pub returns-clause-distance : goal.returns-clause-distance
returns-clause-distance c = distance_law

pub returns-clause-least_number : goal.returns-clause-least_number
returns-clause-least_number c = least_number_law

pub returns-clause-least : goal.returns-clause-least
returns-clause-least c = least_law

pub returns-clause-greatest : goal.returns-clause-greatest
returns-clause-greatest c = greatest_law

pub returns-clause-part : goal.returns-clause-part
returns-clause-part c = part_law

pub returns-clause-index : goal.returns-clause-index
returns-clause-index c = index_law
