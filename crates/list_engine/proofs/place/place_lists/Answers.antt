use Rattle.std.proofs.Common.{ap, arith, length}
use Rattle.std.specs.Vec.Iter.{into_iter_items}
use Rattle.list_engine.proofs.Gathering.{first_and_rest}
use Rattle.list_engine.proofs.Placing.{next_within, placed_next}
use Rattle.list_engine.proofs.place.place_lists.Goals as goal

pub set-requires : goal.set-requires
set-requires c =
    next_within c.args.lists c.args.places.now (into_iter_items c.loop-items.items-iterator) c.loop-items.rest.now c.args.table.now c.loop-items.table c.loop-items.invariant.0
    c.in-len1-up.len_at_least c.requires.there

pub loop-items-preserved : goal.loop-items-preserved
loop-items-preserved c = (
  placed_next c.args.lists c.args.places.now (into_iter_items c.loop-items.items-iterator) (into_iter_items c.next.new.self) c.loop-items.rest.now _ c.in-Some.items _ c.args.table.now
      c.loop-items.table c.set.new.self c.loop-items.invariant.0 c.requires.once c.in-Some.ensures.steps.0 (first_and_rest c.loop-items.rest.now c.in-len1-up.len_at_least)
      (next_within c.args.lists c.args.places.now (into_iter_items c.loop-items.items-iterator) c.loop-items.rest.now c.args.table.now c.loop-items.table c.loop-items.invariant.0
      c.in-len1-up.len_at_least c.requires.there)
      c.set.ensures,
  (let was = c.loop-items.invariant.1 in let one = ap length c.in-Some.ensures.steps.0 in let less = c.in-Some.ensures.steps.1 in omega (arith, was, one, less)),
)
