use Rattle.std.proofs.Common.{arith, refl}
use Rattle.spl_value.specs.declared.packet.Packet.TheVariants as P
use Rattle.element_outboxes.specs.Waiting.{waits}
use Rattle.element_outboxes.proofs.Fans.{on_outputs-more}
use Rattle.element_works.proofs.split.send_pulse.Goals as goal

pub loop-output-preserved : goal.loop-output-preserved
loop-output-preserved c =
    on_outputs-more c.args.fan.first c.loop-output.output _ (P.Pulse c.args.number) (waits c.args.outbox.now) (waits c.loop-output.outbox) (waits c.add.new.self) (omega arith) refl c.loop-output.invariant c.in_ok-add.ensures
