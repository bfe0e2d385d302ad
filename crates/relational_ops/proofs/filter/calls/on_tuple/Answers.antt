use Rattle.std.proofs.Common.{◌∙◌, ap, subst, length}
use Rattle.spl_value.specs.declared.item.Item.TheVariants as I
use Rattle.language_model.specs.Outcomes.{Done}
use Rattle.stream_model.specs.Bodies.{on_first}
use Rattle.port_reacts.specs.Bodies.{GoesOn}
use Rattle.relational_ops.proofs.Evaluations.{filter_fault, filter_held}
use Rattle.relational_ops.proofs.filter.calls.on_tuple.Goals as goal

pub returns-in-Held-true-default-clause-replies : goal.returns-in-Held-true-default-clause-replies
returns-in-Held-true-default-clause-replies c =
    let j = c.in-Held-true-default.ensures.judged in
    filter_held c.args.at.now.number (length c.args.at.now.op.now.outs) c.given_first-in-Held-true-default.result c.args.at.now.checked.now.functions c.args.condition.now _ c.args.values _ j.0 c.in-Some.is (j.1 ∙ ap (λ b. Done b j.0) c.in-Held-true-default.field-0-test)
    (subst (λ us. GoesOn (on_first (I.Tuple us)) c.given_first-in-Held-true-default.result) j.2 c.given_first-in-Held-true-default.ensures)

pub returns-in-Held-false-default-clause-replies : goal.returns-in-Held-false-default-clause-replies
returns-in-Held-false-default-clause-replies c =
    let j = c.in-Held-false-default.ensures.judged in
    filter_held c.args.at.now.number (length c.args.at.now.op.now.outs) c.given_none.result c.args.at.now.checked.now.functions c.args.condition.now _ c.args.values _ j.0 c.in-Some.is (j.1 ∙ ap (λ b. Done b j.0) c.in-Held-false-default.field-0-test) c.given_none.ensures

pub returns-in-Faulted-clause-replies : goal.returns-in-Faulted-clause-replies
returns-in-Faulted-clause-replies c = filter_fault c.args.at.now.number (length c.args.at.now.op.now.outs) c.faulted.result c.args.at.now.checked.now.functions c.args.condition.now _ c.args.values _ c.in-Some.is c.in-Faulted.ensures.judged c.faulted.ensures
