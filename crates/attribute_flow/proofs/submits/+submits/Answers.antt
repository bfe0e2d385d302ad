use Rattle.std.proofs.Common.{arith, ap, sym, ◌∙◌, ◌≡◌, ◌+◌, drop}
use Rattle.spl_tree.proofs.ExprWeights.{item_below}
use Rattle.stream_model.specs.Copies.{submits_of}
use Rattle.attribute_flow.specs.steps.Agreements.{agreement, and_then, arms_submits, statement_submits}
use Rattle.attribute_flow.proofs.Agreeing.{agreement_append, arm_step, row_step}
use Rattle.spl_tree.proofs.StatementWeights.{weight, weights, arm_weight}
use Rattle.attribute_flow.proofs.SubmitForms.{if_is}
use Rattle.attribute_flow.proofs.submits.+submits.Goals as goal

pub of_arms-of_row-requires : goal.of_arms-of_row-requires
of_arms-of_row-requires t c = (
  let q = item_below arm_weight c.args.arms.now c.loop-row.row-index c.loop-row-item.result c.loop-row-test.true c.loop-row-item.is in
      let same : weights c.as_slice.result.now ≡ weights c.loop-row-item.result.1 = ap weights c.as_slice.ensures in
      omega arith,
  tt,
)

pub of_row-of_statement-requires : goal.of_row-of_statement-requires
of_row-of_statement-requires t c =
    (let q = item_below weight c.args.row.now c.loop-statement.statement-index c.statement-item.result c.loop-statement-test.true c.statement-item.is in omega arith, tt)

pub of_row-loop-statement-preserved : goal.of_row-loop-statement-preserved
of_row-loop-statement-preserved t c =
    ap (λ j. and_then j (agreement c.args.attribute (submits_of (drop (c.loop-statement.statement-index + 1) c.args.row.now)))) c.and_then-so_far.ensures
    ∙ row_step c.args.attribute c.args.row.now c.loop-statement.statement-index c.statement-item.result c.loop-statement.so_far c.of_statement.result c.loop-statement-test.true
    c.statement-item.is c.of_statement.ensures c.loop-statement.invariant

pub of_arms-loop-row-preserved : goal.of_arms-loop-row-preserved
of_arms-loop-row-preserved t c =
    ap (λ j. and_then j (agreement c.args.attribute (arms_submits (drop (c.loop-row.row-index + 1) c.args.arms.now)))) c.and_then-so_far.ensures
    ∙ arm_step c.args.attribute c.args.arms.now c.loop-row.row-index c.loop-row-item.result c.loop-row.so_far c.of_row.result c.loop-row-test.true c.loop-row-item.is
    (c.of_row.ensures ∙ ap (λ row. agreement c.args.attribute (submits_of row)) c.as_slice.ensures) c.loop-row.invariant

pub of_statement-returns-in-If : goal.of_statement-returns-in-If
of_statement-returns-in-If t c =
    c.and_then.ensures
    ∙ ap (λ j. and_then j c.of_row.result) (c.of_arms-first.ensures ∙ ap (λ arms. agreement c.args.attribute (arms_submits arms)) c.as_slice.ensures)
    ∙ ap (and_then (agreement c.args.attribute (arms_submits c.in-If.arms))) (c.of_row.ensures ∙ ap (λ row. agreement c.args.attribute (submits_of row)) c.as_slice-in-If.ensures)
    ∙ sym (agreement_append c.args.attribute (arms_submits c.in-If.arms) (submits_of c.in-If.other))
    ∙ ap (agreement c.args.attribute) (sym (if_is c.in-If.arms c.in-If.other) ∙ sym (ap statement_submits c.in-If.is))
