use Rattle.std.proofs.Common.{Some, drop, ◌+◌, arith, ap, sym, ◌∙◌, ◌≡◌}
use Rattle.spl_tree.proofs.ExprWeights.{item_below}
use Rattle.stream_model.specs.Selectivity.{row_interval}
use Rattle.selectivity_rules.specs.steps.Counts.{both_of, capped, joined}
use Rattle.selectivity_rules.specs.steps.Intervals.{arms_interval, statement_interval}
use Rattle.selectivity_rules.proofs.CountLoops.{arm_joined, arm_skipped, row_step}
use Rattle.selectivity_rules.proofs.IntervalForms.{if_is}
use Rattle.spl_tree.proofs.StatementWeights.{arm_weight, weight, weights}
use Rattle.selectivity_rules.proofs.interval.+submits.Goals as goal
use Rattle.selectivity_rules.proofs.interval.+submits.Goals.{of_arms-in-None, of_arms-in-Some-false}

pub of_arms-of_row-requires : goal.of_arms-of_row-requires
of_arms-of_row-requires t c = (
  let q = item_below arm_weight c.args.arms.now c.loop-condition.condition-index c.loop-condition-item.result c.loop-condition-test.true c.loop-condition-item.is in
      let same : weights c.as_slice.result.now ≡ weights c.loop-condition-item.result.1 = ap weights c.as_slice.ensures in
      omega arith,
  tt,
)

pub of_arms-of_row-requires-in-None : goal.of_arms-of_row-requires-in-None
of_arms-of_row-requires-in-None t c = (
  let q = item_below arm_weight c.args.arms.now c.loop-condition.condition-index c.loop-condition-item.result c.loop-condition-test.true c.loop-condition-item.is in
      let same : weights c.as_slice-in-None.result.now ≡ weights c.loop-condition-item.result.1 = ap weights c.as_slice-in-None.ensures in
      omega arith,
  tt,
)

pub of_row-of_statement-requires : goal.of_row-of_statement-requires
of_row-of_statement-requires t c =
    (let q = item_below weight c.args.row.now c.loop-statement.statement-index c.statement-item.result c.loop-statement-test.true c.statement-item.is in omega arith, tt)

pub of_row-loop-statement-preserved : goal.of_row-loop-statement-preserved
of_row-loop-statement-preserved t c =
    ap (λ s. both_of s (capped (row_interval c.args.marker (drop (c.loop-statement.statement-index + 1) c.args.row.now)))) c.both-submits.ensures
    ∙ row_step c.args.marker c.args.row.now c.loop-statement.statement-index c.statement-item.result c.loop-statement.submits c.of_statement.result c.loop-statement-test.true c.statement-item.is
    c.of_statement.ensures c.loop-statement.invariant

pub of_statement-returns-in-If : goal.of_statement-returns-in-If
of_statement-returns-in-If t c =
    c.of_arms.ensures
    ∙ (λ i. capped (arms_interval c.args.marker (c.as_slice-in-If.ensures i) (c.as_slice-in-If-2.ensures i)))
    ∙ ap capped (sym (if_is c.args.marker c.in-If.arms c.in-If.other) ∙ sym (ap (statement_interval c.args.marker) c.in-If.is))

pub of_arms-loop-condition-preserved : goal.of_arms-loop-condition-preserved
of_arms-loop-condition-preserved t c = elim c.match-decided.branch [
  | of_arms-in-Some-false w ↦
      ap (λ so_far. joined so_far (capped (arms_interval c.args.marker (drop (c.loop-condition.condition-index + 1) c.args.arms.now) c.args.other.now))) w.so_far-is
      ∙ arm_skipped c.args.marker c.args.arms.now c.args.other.now c.loop-condition.condition-index c.loop-condition-item.result c.loop-condition.so_far c.loop-condition-test.true
      c.loop-condition-item.is c.loop-condition.invariant (sym c.decided.ensures ∙ w.in-Some-false.is ∙ ap Some w.in-Some-false.field-0-test)
  | of_arms-in-None w ↦
      ap (λ so_far. joined so_far (capped (arms_interval c.args.marker (drop (c.loop-condition.condition-index + 1) c.args.arms.now) c.args.other.now)))
      (w.so_far-is ∙ ap Some w.joined-in-None.ensures)
      ∙ arm_joined c.args.marker c.args.arms.now c.args.other.now c.loop-condition.condition-index c.loop-condition-item.result c.loop-condition.so_far c.loop-condition-test.true
      c.loop-condition-item.is c.loop-condition.invariant (sym c.decided.ensures ∙ w.in-None.is) w.of_row-in-None.result
      (w.of_row-in-None.ensures ∙ ap (λ r. capped (row_interval c.args.marker r)) w.as_slice-in-None.ensures)
]
