use Rattle.std.proofs.Common.{◌∙◌, ◌++◌, ap}
use Rattle.spl_value.specs.declared.item.Item.TheVariants as I
use Rattle.operator_chains.specs.Places.{given_by}
use Rattle.element_outboxes.proofs.Fans.{ok_then}
use Rattle.element_works.specs.Tuples.{for_writer}
use Rattle.element_works.proofs.ItemsMore.{fed-tuple, still, to-connections, to-writer}
use Rattle.element_works.proofs.chains.run_tuple.Goals as goal

pub returns-then-is_empty-clause-takes : goal.returns-then-is_empty-clause-takes
returns-then-is_empty-clause-takes g c =
    ok_then _ _ c.pour_given.result
    (λ u poured. to-writer g.R.React.spec g.R.React.stands c.args.chain.now c.feed_first.new.chain c.args.fans.now c.args.tuples.now c.pour_given.new.self c.args.outbox.now c.args.input (I.Tuple c.args.tuple.now)
    _ (fed-tuple g.R.React.spec g.R.React.stands c.args.chain.now c.feed_first.new.chain _ c.args.input _ c.args.tuple.now c.enter.ensures.first c.in_ok-given.ensures.gives)
    (c.is_empty.ensures.0 c.if-is_empty.true) (c.pour_given.ensures.room ∙ c.feed_first.ensures.room ∙ c.enter.ensures.room ∙ c.free_places.ensures.room)
    (poured ∙ ap (λ z. z ++ for_writer (given_by c.in_ok-given.given c.feed_first.new.tuples.places.items c.feed_first.new.tuples.outs)) (still c.feed_first.new.tuples c.free_places.new.self c.args.tuples.now (c.feed_first.ensures.ready ∙ c.enter.ensures.ready) (c.feed_first.ensures.waiting ∙ c.enter.ensures.waiting) c.in_ok-free_places.ensures.free c.in_ok-free_places.ensures.same)))
    c.pour_given.ensures.pours

pub returns-else-is_empty-clause-takes : goal.returns-else-is_empty-clause-takes
returns-else-is_empty-clause-takes g c =
    ok_then _ _ c.send_given.result
    (λ u sent. to-connections g.R.React.spec g.R.React.stands c.args.chain.now c.feed_first.new.chain c.args.fans.now c.args.tuples.now c.send_given.new.tuples c.args.outbox.now c.send_given.new.outbox c.args.input (I.Tuple c.args.tuple.now)
    _ (fed-tuple g.R.React.spec g.R.React.stands c.args.chain.now c.feed_first.new.chain _ c.args.input _ c.args.tuple.now c.enter.ensures.first c.in_ok-given.ensures.gives)
    (λ e. let yes = c.is_empty.ensures.1 e in let no = c.if-is_empty.false in cc) (c.send_given.ensures.room ∙ c.feed_first.ensures.room ∙ c.enter.ensures.room ∙ c.free_places.ensures.room)
    (still c.send_given.new.tuples c.free_places.new.self c.args.tuples.now (c.send_given.ensures.ready ∙ c.feed_first.ensures.ready ∙ c.enter.ensures.ready) (c.send_given.ensures.waiting ∙ c.feed_first.ensures.waiting ∙ c.enter.ensures.waiting) c.in_ok-free_places.ensures.free c.in_ok-free_places.ensures.same)
    sent)
    c.send_given.ensures.sends
