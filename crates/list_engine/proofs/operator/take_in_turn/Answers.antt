use Rattle.std.proofs.Common.{ap, subst, arith, length}
use Rattle.std.proofs.lemmas.List.{nil_from_length}
use Rattle.std.specs.Vec.Iter.{into_iter_items}
use Rattle.list_engine.specs.steps.Taking.{Took, in_turn, task_of}
use Rattle.list_engine.proofs.Taking.{still_live}
use Rattle.list_engine.proofs.Turns.{turn_ready, turn_more, turn_ends, turns_over}
use Rattle.list_engine.proofs.operator.take_in_turn.Goals as goal

pub take_input-requires : goal.take_input-requires
take_input-requires g c =
    let t = c.loop-items.invariant.0 in
    let task = task_of (g.R.React.spec c.args.operator.now) c.args.given.now in
    record {
      may = (
        task,
        in_turn 0 t.front,
        t.reached,
        turn_ready g.R.React.spec g.R.React.stands task c.args.lists (into_iter_items c.loop-items.items-iterator) (into_iter_items c.next.new.self) c.loop-items.input c.in-Some.items
            c.loop-items.operator c.loop-items.operator c.loop-items.given c.loop-items.given t c.in-Some.ensures.steps.0 c.requires.fit,
      );
    }

pub returns-in-Ended : goal.returns-in-Ended
returns-in-Ended g c =
    let t = c.loop-items.invariant.0 in
    let task = task_of (g.R.React.spec c.args.operator.now) c.args.given.now in
    let ready = turn_ready g.R.React.spec g.R.React.stands task c.args.lists (into_iter_items c.loop-items.items-iterator) (into_iter_items c.next.new.self) c.loop-items.input c.in-Some.items
    c.loop-items.operator c.loop-items.operator c.loop-items.given c.loop-items.given t c.in-Some.ensures.steps.0 c.requires.fit in
    turn_ends g.R.React.spec g.R.React.stands task c.args.lists (into_iter_items c.loop-items.items-iterator) (into_iter_items c.next.new.self) c.loop-items.input c.in-Some.items
    c.loop-items.operator c.take_input.new.operator c.loop-items.given c.take_input.new.given t c.in-Some.ensures.steps.0 c.in-Ended.fault
    (subst (λ standing. Took g.R.React.spec g.R.React.stands task (in_turn 0 t.front) c.loop-items.input c.in-Some.items c.take_input.new.operator c.take_input.new.given standing)
    c.in-Ended.is (c.in_ok-fault.ensures task (in_turn 0 t.front) t.reached ready))

pub loop-items-preserved : goal.loop-items-preserved
loop-items-preserved g c =
    let t = c.loop-items.invariant.0 in
    let task = task_of (g.R.React.spec c.args.operator.now) c.args.given.now in
    let ready = turn_ready g.R.React.spec g.R.React.stands task c.args.lists (into_iter_items c.loop-items.items-iterator) (into_iter_items c.next.new.self) c.loop-items.input c.in-Some.items
    c.loop-items.operator c.loop-items.operator c.loop-items.given c.loop-items.given t c.in-Some.ensures.steps.0 c.requires.fit in (
      turn_more g.R.React.spec g.R.React.stands task c.args.lists (into_iter_items c.loop-items.items-iterator) (into_iter_items c.next.new.self) c.loop-items.input c.in-Some.items
          c.loop-items.operator c.take_input.new.operator c.loop-items.given c.take_input.new.given t c.in-Some.ensures.steps.0
          (subst (λ standing. Took g.R.React.spec g.R.React.stands task (in_turn 0 t.front) c.loop-items.input c.in-Some.items c.take_input.new.operator c.take_input.new.given standing)
          (still_live c.in_ok-fault.field-0 c.in_default.not-Ended) (c.in_ok-fault.ensures task (in_turn 0 t.front) t.reached ready)),
      (let was = c.loop-items.invariant.1 in let one = ap length c.in-Some.ensures.steps.0 in let less = c.in-Some.ensures.steps.1 in omega (arith, was, one, less)),
    )

pub unreachable-requires : goal.unreachable-requires
unreachable-requires g c =
    let over = c.in-None.ensures.steps.0 in
    let len = c.loop-items.invariant.1 in
    turns_over g.R.React.spec g.R.React.stands (task_of (g.R.React.spec c.args.operator.now) c.args.given.now) c.args.lists (into_iter_items c.loop-items.items-iterator) c.loop-items.input
    c.loop-items.operator c.loop-items.given c.loop-items.invariant.0 (nil_from_length (into_iter_items c.loop-items.items-iterator) (omega (arith, over, len))) c.requires.fit
