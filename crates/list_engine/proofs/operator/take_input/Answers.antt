use Rattle.std.proofs.Common.{ap, subst, ◌++◌, ◌∷◌, [], arith, length, map}
use Rattle.std.specs.Vec.Iter.{into_iter_items}
use Rattle.stream_model.specs.Stream.{came}
use Rattle.list_engine.specs.steps.Taking.{Reached}
use Rattle.list_engine.proofs.Taking.{take_ready, take_more, take_ends, still_live}
use Rattle.list_engine.proofs.operator.take_input.Goals as goal

pub step-requires : goal.step-requires
step-requires g c =
    let may = c.requires.may in
    let t = c.loop-item.invariant.0 may.0 may.1 may.2 may.3 in
    record {
      may = (
        may.0,
        may.1 ++ map (came c.args.input) t.taken,
        t.reached,
        take_ready g.R.React.spec g.R.React.stands may.0 may.1 c.args.input c.args.items (into_iter_items c.loop-item.item-iterator) (into_iter_items c.next.new.self) c.in-Some.item
            c.loop-item.operator c.loop-item.operator c.loop-item.given c.loop-item.given t c.in-Some.ensures.steps.0 may.3,
      );
    }

pub returns-in-Ended : goal.returns-in-Ended
returns-in-Ended g c = λ task done reached may.
    let t = c.loop-item.invariant.0 task done reached may in
    let ready = take_ready g.R.React.spec g.R.React.stands task done c.args.input c.args.items (into_iter_items c.loop-item.item-iterator) (into_iter_items c.next.new.self) c.in-Some.item
    c.loop-item.operator c.loop-item.operator c.loop-item.given c.loop-item.given t c.in-Some.ensures.steps.0 may in
    take_ends g.R.React.spec g.R.React.stands task done c.args.input c.args.items (into_iter_items c.loop-item.item-iterator) (into_iter_items c.next.new.self) c.in-Some.item
    c.loop-item.operator c.step.new.operator c.loop-item.given c.step.new.given t c.in-Some.ensures.steps.0 c.in-Ended.fault
    (subst (λ standing. Reached g.R.React.spec g.R.React.stands task ((done ++ map (came c.args.input) t.taken) ++ came c.args.input c.in-Some.item ∷ []) c.step.new.operator c.step.new.given standing)
    c.in-Ended.is (c.in_ok-fault.ensures task (done ++ map (came c.args.input) t.taken) t.reached ready))

pub loop-item-preserved : goal.loop-item-preserved
loop-item-preserved g c = (
  λ task done reached may.
      let t = c.loop-item.invariant.0 task done reached may in
      let ready = take_ready g.R.React.spec g.R.React.stands task done c.args.input c.args.items (into_iter_items c.loop-item.item-iterator) (into_iter_items c.next.new.self) c.in-Some.item
      c.loop-item.operator c.loop-item.operator c.loop-item.given c.loop-item.given t c.in-Some.ensures.steps.0 may in
      take_more g.R.React.spec g.R.React.stands task done c.args.input c.args.items (into_iter_items c.loop-item.item-iterator) (into_iter_items c.next.new.self) c.in-Some.item
      c.loop-item.operator c.step.new.operator c.loop-item.given c.step.new.given t c.in-Some.ensures.steps.0
      (subst (λ standing. Reached g.R.React.spec g.R.React.stands task ((done ++ map (came c.args.input) t.taken) ++ came c.args.input c.in-Some.item ∷ []) c.step.new.operator c.step.new.given standing)
      (still_live c.in_ok-fault.field-0 c.in_default.not-Ended) (c.in_ok-fault.ensures task (done ++ map (came c.args.input) t.taken) t.reached ready)),
  (let was = c.loop-item.invariant.1 in let one = ap length c.in-Some.ensures.steps.0 in let less = c.in-Some.ensures.steps.1 in omega (arith, was, one, less)),
)
