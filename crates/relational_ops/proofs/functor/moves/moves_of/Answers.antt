use Rattle.std.proofs.Common.{[], ◌∷◌, ◌+◌, length, slice_get, refl, sym, ap, subst, ◌∙◌, length-append}
use Rattle.std.proofs.lemmas.Option.{slice_get_read}
use Rattle.relational_ops.specs.steps.Moving.{AreSoFar}
use Rattle.relational_ops.proofs.Moves.{so_far_on}
use Rattle.relational_ops.proofs.functor.moves.moves_of.Goals as goal

pub loop-field-preserved : goal.loop-field-preserved
loop-field-preserved c =
    let fs = c.as_slice-fields.result.now in
    let f = c.field-item.result in
    let i = c.loop-field.field-index in
    let moves = c.loop-field.moves in
    let there = ap (slice_get fs) c.loop-field.invariant.long ∙ slice_get_read fs (length fs) i f refl c.loop-field-test.true c.field-item.is in
    record {
      so_far = subst (λ ms. AreSoFar fs ms c.newly_moved.new.moved) (sym c.in_ok-push.ensures.ok)
          (so_far_on fs f c.in_ok-attribute.attribute moves c.loop-field.moved c.newly_moved.new.moved there c.in_ok-attribute.ensures c.loop-field.invariant.so_far);
      long = ap length c.in_ok-push.ensures.ok ∙ length-append moves (c.in_ok-attribute.attribute ∷ []) ∙ ap (λ n. n + 1) c.loop-field.invariant.long;
    }
