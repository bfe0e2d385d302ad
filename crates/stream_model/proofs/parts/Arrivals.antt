-- Words for parts of the rules of arrival records, by which proofs speak of them.
use Rattle.std.specs.Prelude.{ℕ, Option, Some, None, if◌then◌else◌}
use Rattle.stream_model.specs.Arrivals.{has_several}
use Rattle.stream_model.specs.Operators.{Operator, connections}

abbrev pub if_several : Operator → Option ℕ
if_several op = if has_several (connections op) then Some op.number else None
