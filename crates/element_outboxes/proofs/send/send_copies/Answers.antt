use Rattle.std.proofs.Common.{arith, refl, ap, ◌∙◌, ◌++◌, ◌∷◌, []}
use Rattle.spl_value.specs.declared.packet.Packet.TheVariants as P
use Rattle.stream_model.specs.Sending.{outgoing}
use Rattle.element_outboxes.specs.Waiting.{waits}
use Rattle.element_outboxes.proofs.Fans.{on_outputs-more}
use Rattle.element_outboxes.proofs.send.send_copies.Goals as goal

pub loop-output-preserved : goal.loop-output-preserved
loop-output-preserved c =
    on_outputs-more c.args.fan.first c.loop-output.output _ (P.Item c.args.number c.args.item.now) (waits c.args.outbox.now) (waits c.loop-output.outbox) (waits c.add.new.self) (omega arith) refl c.loop-output.invariant
    (c.in_ok-add.ensures ∙ ap (λ x. waits c.loop-output.outbox ++ outgoing c.loop-output.output (P.Item c.args.number x) ∷ []) c.in_ok-item.ensures)
