use Rattle.std.proofs.Common.{ap, refl, length}
use Rattle.element_outboxes.proofs.Fans.{ok_then}
use Rattle.element_works.proofs.ItemsMore.{to-connections, to-writer}
use Rattle.element_works.proofs.chains.run_other.Goals as goal

pub returns-then-is_empty-clause-takes : goal.returns-then-is_empty-clause-takes
returns-then-is_empty-clause-takes g c =
    ok_then _ _ c.pour.result
    (λ u poured. to-writer g.R.React.spec g.R.React.stands c.args.chain.now c.feed.new.self c.args.fans.now c.args.tuples.now c.pour.new.self c.args.outbox.now c.args.input c.args.item
    c.in_ok-outs.outs c.in_ok-outs.ensures.gives (c.is_empty.ensures.0 c.if-is_empty.true) (ap (λ ps. length ps.items) c.pour.ensures.places) poured)
    c.pour.ensures.pours

pub returns-else-is_empty-clause-takes : goal.returns-else-is_empty-clause-takes
returns-else-is_empty-clause-takes g c =
    ok_then _ _ c.send_all.result
    (λ u sent. to-connections g.R.React.spec g.R.React.stands c.args.chain.now c.feed.new.self c.args.fans.now c.args.tuples.now c.args.tuples.now c.args.outbox.now c.send_all.new.outbox c.args.input c.args.item
    c.in_ok-outs.outs c.in_ok-outs.ensures.gives (λ e. let yes = c.is_empty.ensures.1 e in let no = c.if-is_empty.false in cc) refl refl sent)
    c.send_all.ensures
