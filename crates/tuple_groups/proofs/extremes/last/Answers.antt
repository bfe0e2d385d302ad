use Rattle.std.proofs.Common.{arith}
use Rattle.tuple_groups.proofs.ColumnSteps.{last_found}
use Rattle.tuple_groups.proofs.extremes.last.Goals as goal

pub returns-in-Some : goal.returns-in-Some
returns-in-Some c =
    last_found c.args.tuples.now c.args.place c.left.left c.index-tuples-left.result c.in-Some.value (omega arith) (omega arith) c.index-tuples-left.is c.in-Some.ensures.value c.left.invariant.none
