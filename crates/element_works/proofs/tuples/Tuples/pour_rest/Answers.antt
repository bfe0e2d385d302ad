use Rattle.std.proofs.Common.{◌∙◌, ap, sym, ◌++◌, ◌∷◌, [], append_assoc, arith, length}
use Rattle.std.specs.Vec.Iter.{into_iter_items}
use Rattle.element_works.specs.Tuples.{for_writer, sink_waits}
use Rattle.element_works.proofs.Adding.{more, for_writer-append}
use Rattle.element_works.proofs.tuples.Tuples.pour_rest.Goals as goal

pub loop-output-preserved : goal.loop-output-preserved
loop-output-preserved c =
    let before = c.loop-output.invariant.0 in
    let step = c.in-Some.ensures.steps in (
      (
        before.0 ++ c.in-Some.output ∷ [],
        before.1 ∙ ap (λ xs. before.0 ++ xs) step.0 ∙ sym (append_assoc before.0 (c.in-Some.output ∷ []) (into_iter_items c.next.new.self)),
        more for_writer for_writer-append before.0 c.in-Some.output (sink_waits c.args.self.now) (sink_waits c.loop-output.self) (sink_waits c.pour_one.new.self) before.2 c.in_ok-pour_one.ensures.pours,
      ),
      (let was = c.loop-output.invariant.1 in let one = ap length step.0 in let less = step.1 in omega (arith, was, one, less)),
      c.pour_one.ensures.places ∙ c.loop-output.invariant.2,
      c.pour_one.ensures.ready ∙ c.loop-output.invariant.3,
    )
