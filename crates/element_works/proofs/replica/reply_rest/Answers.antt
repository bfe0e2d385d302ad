use Rattle.std.proofs.Common.{◌∙◌, ap, sym, ◌++◌, ◌∷◌, [], append_assoc, arith, length}
use Rattle.std.specs.Vec.Iter.{into_iter_items}
use Rattle.element_outboxes.specs.Waiting.{waits}
use Rattle.element_works.specs.Works.{answers}
use Rattle.element_works.proofs.Adding.{more, answers-append}
use Rattle.element_works.proofs.replica.reply_rest.Goals as goal

pub loop-output-preserved : goal.loop-output-preserved
loop-output-preserved c =
    let before = c.loop-output.invariant.0 in
    let step = c.in-Some.ensures.steps in (
      (
        before.0 ++ c.in-Some.output ∷ [],
        before.1 ∙ ap (λ xs. before.0 ++ xs) step.0 ∙ sym (append_assoc before.0 (c.in-Some.output ∷ []) (into_iter_items c.next.new.self)),
        more (answers c.args.number) (answers-append c.args.number) before.0 c.in-Some.output (waits c.args.outbox.now) (waits c.loop-output.outbox) (waits c.reply_one.new.outbox) before.2 c.in_ok-reply_one.ensures,
      ),
      (let was = c.loop-output.invariant.1 in let one = ap length step.0 in let less = step.1 in omega (arith, was, one, less)),
    )
