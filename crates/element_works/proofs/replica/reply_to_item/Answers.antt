use Rattle.std.proofs.Common.{◌∙◌, ◌++◌, ◌∷◌, [], ap, refl, sym}
use Rattle.stream_model.specs.Stream.{came}
use Rattle.element_outboxes.specs.Waiting.{waits}
use Rattle.element_outboxes.proofs.Fans.{ok_then}
use Rattle.element_works.specs.Works.{answers}
use Rattle.element_works.proofs.ItemsMore.{same-places}
use Rattle.element_works.proofs.replica.reply_to_item.Goals as goal

pub returns-in_ok-outs-in_default : goal.returns-in_ok-outs-in_default
returns-in_ok-outs-in_default g c = record {
  answers = ok_then _ _ c.reply.result
      (λ u replied ss at may room.
      let f = c.in_ok-outs-in_default.ensures.gives ss at may in (
        f.1,
        room ∙ sym (same-places g.R.React.spec g.R.React.stands c.args.chain.now c.feed.new.self ss (came 0 c.args.item ∷ []) at f.1),
        replied ∙ ap (λ outs. waits c.args.outbox.now ++ answers c.args.number outs) f.0,
      ))
      c.reply.ensures;
  ready = refl;
  waiting = refl;
}
