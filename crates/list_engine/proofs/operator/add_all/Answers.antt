use Rattle.std.proofs.Common.{◌∙◌, ap, sym, ◌++◌, ◌∷◌, [], append_assoc, arith, length}
use Rattle.std.specs.Vec.Iter.{into_iter_items}
use Rattle.list_engine.proofs.Taking.{adds_more}
use Rattle.list_engine.proofs.operator.add_all.Goals as goal

pub loop-output-preserved : goal.loop-output-preserved
loop-output-preserved c =
    let before = c.loop-output.invariant.0 in
    let step = c.in-Some.ensures.steps in (
      (
        before.0 ++ c.in-Some.output ∷ [],
        before.1 ∙ ap (λ xs. before.0 ++ xs) step.0 ∙ sym (append_assoc before.0 (c.in-Some.output ∷ []) (into_iter_items c.next.new.self)),
        adds_more before.0 (c.in-Some.output ∷ []) c.args.outs.now c.loop-output.outs c.add_output.new.outs before.2 c.in_ok-add_output.ensures,
      ),
      (let was = c.loop-output.invariant.1 in let one = ap length step.0 in let less = step.1 in omega (arith, was, one, less)),
    )
