use Rattle.std.proofs.Common.{Some, [], length, slice_get, sym, ap, ◌∙◌}
use Rattle.std.specs.Option.{unwrap_or}
use Rattle.stream_model.specs.CheckedMeaning.{operator_with}
use Rattle.stream_model.specs.Operators.{input_attributes}
use Rattle.aggregate_op.specs.Standing.{operator_of}
use Rattle.aggregate_op.proofs.Aggregating.{shape}
use Rattle.aggregate_op.proofs.Beginning.{begins}
use Rattle.aggregate_op.proofs.aggregate.Aggregate.new.Goals as goal
use Rattle.spl_value.proofs.Results.{ok_weaker}

pub begun-requires : goal.begun-requires
begun-requires c =
    let at = c.new-at.result in
    let s = shape (operator_with c.args.checked.now c.args.op at.op.now at.part.now) c.new-at.ensures.fitting c.in-Aggregate.window c.in-Aggregate.partition c.in-Aggregate.group c.in-Aggregate.output c.in-Aggregate.is in (
      s.input,
      s.window_fits,
      c.input_width-width.ensures.is
          ∙ (λ i. length (input_attributes (operator_with (c.new-at.ensures.checked i) (c.new-at.ensures.number i) at.op.now at.part.now) 0))
          ∙ ap length (ap (λ ins. unwrap_or (slice_get ins 0) []) s.takes),
    )

pub returns-clause-is : goal.returns-clause-is
returns-clause-is c =
    let at = c.new-at.result in
    ok_weaker c.begun.result _ _
    (λ aggregate same. c.new-at.ensures.in_graph ∙ (λ i. Some (operator_with (sym c.new-at.ensures.checked i) (sym c.new-at.ensures.number i) at.op.now at.part.now)) ∙ ap (λ k. Some (operator_of k)) (sym same))
    c.begun.ensures.clauses

pub returns-clause-begins : goal.returns-clause-begins
returns-clause-begins c = begins c.begun.result _ c.in-Aggregate.is c.input_width-width.ensures.is c.begun.ensures.clauses c.begun.ensures.stands c.begun.ensures.idle
