use Rattle.std.proofs.Common.{◌≡◌, FitsSigned, drop, rules, ap, ◌∙◌, arith}
use Rattle.std.specs.Int.{w128}
use Rattle.std.proofs.lemmas.Int.{to_z-of_z}
use Rattle.spl_value.specs.Wrap.{wrapped}
use Rattle.stream_model.specs.Aggregates.{total}
use Rattle.tuple_groups.specs.Columns.{column}
use Rattle.tuple_groups.specs.Seen.{seen}
use Rattle.tuple_groups.proofs.ColumnSteps.{column_before}
use Rattle.tuple_groups.proofs.sums.total.Goals as goal

pub with_value-sum-requires : goal.with_value-sum-requires
with_value-sum-requires c = (column c.args.place (seen (drop c.left.left c.args.tuples.now)), c.left.invariant.sum)

pub left-preserved : goal.left-preserved
left-preserved c = record {
  within = omega arith;
  sum = let fits : FitsSigned w128 c.with_value-sum.result = search rules in to_z-of_z w128 c.with_value-sum.result fits
      ∙ c.with_value-sum.ensures (column c.args.place (seen (drop c.left.left c.args.tuples.now))) c.left.invariant.sum
      ∙ ap (λ vs. wrapped c.args.kind (total vs))
      (column_before c.args.tuples.now c.args.place c.left.left c.index-tuples-left.result c.get.result (omega arith) (omega arith) c.index-tuples-left.is c.get.ensures.value);
}

pub returns : goal.returns
returns c =
    let none : c.left.left ≡ 0 = omega arith in
    c.left.invariant.sum ∙ ap (λ n. wrapped c.args.kind (total (column c.args.place (seen (drop n c.args.tuples.now))))) none
