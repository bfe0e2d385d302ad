use Rattle.std.proofs.Common.{◌+◌, ap, drop, sym, ◌∙◌}
use Rattle.stream_model.specs.Copies.{submits_in, submits_of}
use Rattle.attribute_flow.specs.declared.agreement.Agreement.{Agreement}
use Rattle.attribute_flow.specs.declared.agreement.Agreement.TheVariants as A
use Rattle.attribute_flow.specs.steps.Agreements.{agreement, and_then}
use Rattle.attribute_flow.proofs.Agreeing.{body_submits, body_step, unseen_last}
use Rattle.attribute_flow.proofs.submits.of_bodies.Goals as goal
use Rattle.attribute_flow.proofs.submits.of_bodies.Goals.{in-Some, in_default}

pub loop-body-preserved : goal.loop-body-preserved
loop-body-preserved c = elim c.match-body.branch [
  | in-Some w ↦
      ap (λ (j : Agreement). and_then j (agreement c.args.attribute (submits_in (drop (c.loop-body.body-index + 1) c.args.bodies.now)))) (w.so_far-is ∙ w.and_then-so_far.ensures)
      ∙ body_step c.args.attribute c.args.bodies.now c.loop-body.body-index c.body-item.result c.loop-body.so_far w.of_row.result c.loop-body-test.true c.body-item.is
      (w.of_row.ensures ∙ ap (λ row. agreement c.args.attribute (submits_of row)) w.as_slice.ensures
      ∙ ap (λ body. agreement c.args.attribute (body_submits body)) (sym w.in-Some.is))
      c.loop-body.invariant
  | in_default w ↦
      ap (λ (j : Agreement). and_then j (agreement c.args.attribute (submits_in (drop (c.loop-body.body-index + 1) c.args.bodies.now))))
      (w.so_far-is ∙ sym (unseen_last c.loop-body.so_far))
      ∙ body_step c.args.attribute c.args.bodies.now c.loop-body.body-index c.body-item.result c.loop-body.so_far A.Unseen c.loop-body-test.true c.body-item.is
      (ap (λ body. agreement c.args.attribute (body_submits body)) (sym w.in_default.is))
      c.loop-body.invariant
]
