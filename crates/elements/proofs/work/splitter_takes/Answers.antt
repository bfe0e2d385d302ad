use Rattle.std.proofs.Common.{refl}
use Rattle.spl_value.specs.declared.packet.Packet.TheVariants as P
use Rattle.element_outboxes.specs.Waiting.{waits}
use Rattle.element_outboxes.proofs.Fans.{ok_then}
use Rattle.elements.proofs.Working.{quiet_split, split_item}
use Rattle.elements.proofs.work.splitter_takes.Goals as goal

pub returns-in-Item : goal.returns-in-Item
returns-in-Item c = record {
  takes = ok_then _ _ c.run_splitter.result
      (λ u run region T at may. split_item region T c.args.packet _ c.in-Item.item c.args.splitter.now c.run_splitter.new.splitter (waits c.args.outbox.now) (waits c.run_splitter.new.outbox) c.in-Item.is run at may)
      c.run_splitter.ensures.splits;
}

pub returns-in-Pulse : goal.returns-in-Pulse
returns-in-Pulse c = record {
  takes = λ region T at may. quiet_split region T c.args.packet (P.Pulse _) c.args.splitter.now (waits c.args.outbox.now) c.in-Pulse.is refl at;
}

pub returns-in-Close : goal.returns-in-Close
returns-in-Close c = record {
  takes = λ region T at may. quiet_split region T c.args.packet P.Close c.args.splitter.now (waits c.args.outbox.now) c.in-Close.is refl at;
}

pub returns-in-Cut : goal.returns-in-Cut
returns-in-Cut c = record {
  takes = λ region T at may. quiet_split region T c.args.packet P.Cut c.args.splitter.now (waits c.args.outbox.now) c.in-Cut.is refl at;
}
