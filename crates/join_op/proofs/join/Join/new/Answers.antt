use Rattle.std.proofs.Common.{Some, sym, ap, ◌∙◌}
use Rattle.stream_model.specs.CheckedMeaning.{operator_with}
use Rattle.join_op.specs.steps.Matching.{operator_of}
use Rattle.join_op.proofs.Joining.{is_allowed, shape}
use Rattle.join_op.proofs.join.Join.new.Goals as goal
use Rattle.spl_value.proofs.Results.{ok_weaker}

pub begun-requires-clause-right : goal.begun-requires-clause-right
begun-requires-clause-right c =
    let at = c.new-at.result in
    let s = shape (operator_with c.args.checked.now c.args.op at.op.now at.part.now) c.new-at.ensures.fitting c.in-Join.left c.in-Join.right c.in-Join.condition c.in-Join.output c.in-Join.is in
    is_allowed s.second c.in-Join.right.rule s.right_window

pub returns-clause-is : goal.returns-clause-is
returns-clause-is c =
    let at = c.new-at.result in
    ok_weaker c.begun.result _ _
    (λ join same. c.new-at.ensures.in_graph ∙ (λ i. Some (operator_with (sym c.new-at.ensures.checked i) (sym c.new-at.ensures.number i) at.op.now at.part.now)) ∙ ap (λ k. Some (operator_of k)) (sym same))
    c.begun.ensures.clauses
