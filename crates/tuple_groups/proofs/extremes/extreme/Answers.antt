use Rattle.std.proofs.Common.{drop, ap, ◌∙◌, arith}
use Rattle.stream_model.specs.Aggregates.{least_by}
use Rattle.tuple_groups.specs.Columns.{column}
use Rattle.tuple_groups.specs.Extremes.{before}
use Rattle.tuple_groups.specs.Seen.{seen}
use Rattle.tuple_groups.proofs.ColumnSteps.{column_before}
use Rattle.tuple_groups.proofs.extremes.extreme.Goals as goal

pub left-preserved : goal.left-preserved
left-preserved c = record {
  within = omega arith;
  best = c.with_value-best.ensures (column c.args.place (seen (drop c.left.left c.args.tuples.now))) c.left.invariant.best
      ∙ ap (least_by (before c.args.greatest))
      (column_before c.args.tuples.now c.args.place c.left.left c.index-tuples-left.result c.get.result (omega arith) (omega arith) c.index-tuples-left.is c.get.ensures.value);
}
