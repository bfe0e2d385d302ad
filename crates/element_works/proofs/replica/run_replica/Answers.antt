use Rattle.std.proofs.Common.{refl, sym, append-nil}
use Rattle.spl_value.specs.declared.packet.Packet.TheVariants as P
use Rattle.element_outboxes.specs.Waiting.{waits}
use Rattle.element_outboxes.proofs.Fans.{ok_then}
use Rattle.element_works.proofs.ItemsMore.{still-none}
use Rattle.element_works.proofs.Replies.{replied-item, replied-other}
use Rattle.element_works.proofs.replica.run_replica.Goals as goal

pub returns-in-Item : goal.returns-in-Item
returns-in-Item g c = record {
  replies = ok_then _ _ c.reply_to_item.result
      (λ u answered region T channel at may. replied-item g.R.React.spec g.R.React.stands region channel T c.args.packet c.in-Item.number c.in-Item.item c.args.chain.now c.reply_to_item.new.chain
      c.args.tuples.now c.reply_to_item.new.tuples c.args.outbox.now c.reply_to_item.new.outbox c.in-Item.is at may answered)
      c.reply_to_item.ensures.answers;
  idle = still-none c.reply_to_item.new.tuples c.args.tuples.now c.reply_to_item.ensures.ready c.reply_to_item.ensures.waiting;
}

pub returns-in-Pulse : goal.returns-in-Pulse
returns-in-Pulse g c = record {
  replies = ok_then _ _ c.add.result
      (λ u added region T channel at may. replied-other g.R.React.spec g.R.React.stands region channel T c.args.packet (P.Pulse c.in-Pulse.number) c.args.chain.now c.args.tuples.now
      (waits c.args.outbox.now) (waits c.add.new.self) c.in-Pulse.is refl at added)
      c.add.ensures;
  idle = λ none. none;
}

pub returns-in-Close : goal.returns-in-Close
returns-in-Close g c = record {
  replies = ok_then _ _ c.add-in-Close.result
      (λ u added region T channel at may. replied-other g.R.React.spec g.R.React.stands region channel T c.args.packet P.Close c.args.chain.now c.args.tuples.now
      (waits c.args.outbox.now) (waits c.add-in-Close.new.self) c.in-Close.is refl at added)
      c.add-in-Close.ensures;
  idle = λ none. none;
}

pub returns-in-Cut : goal.returns-in-Cut
returns-in-Cut g c = record {
  replies = λ region T channel at may. replied-other g.R.React.spec g.R.React.stands region channel T c.args.packet P.Cut c.args.chain.now c.args.tuples.now
      (waits c.args.outbox.now) (waits c.args.outbox.now) c.in-Cut.is refl at (sym (append-nil (waits c.args.outbox.now)));
  idle = λ none. none;
}
