use Rattle.std.proofs.Common.{◌≡◌, ◌++◌, ◌+◌, ◌-◌, arith, ap, sym, ◌∙◌, append-nil}
use Rattle.spl_value.specs.declared.packet.Packet.TheVariants as P
use Rattle.stream_model.specs.Fans.{on_outputs}
use Rattle.language_model.specs.Numbering.{numbers_from}
use Rattle.element_outboxes.specs.Waiting.{waits}
use Rattle.element_outboxes.proofs.Fans.{on_outputs-last, ok_then}
use Rattle.element_outboxes.proofs.send.send_item.Goals as goal
use Rattle.element_outboxes.proofs.send.send_item.Goals.{then-others-gt0+in_ok-send_copies, else-others-gt0}

pub returns : goal.returns
returns c =
    let count : c.args.fan.count ≡ (c.args.fan.count - 1) + 1 = omega (arith, c.if-fan-eq0.false) in
    let before : waits c.if-others-gt0.outbox ≡ waits c.args.outbox.now ++ on_outputs (numbers_from c.args.fan.first (c.args.fan.count - 1)) (P.Item c.args.number c.args.item) =
    elim c.if-others-gt0.branch [
      | then-others-gt0+in_ok-send_copies w ↦ ap waits w.outbox-is ∙ w.in_ok-send_copies.ensures
      | else-others-gt0 w ↦ (
          let none : c.args.fan.count - 1 ≡ 0 = omega (arith, w.if-others-gt0.false) in
          ap waits w.outbox-is ∙ sym (append-nil (waits c.args.outbox.now)) ∙ ap (λ k. waits c.args.outbox.now ++ on_outputs (numbers_from c.args.fan.first k) (P.Item c.args.number c.args.item)) (sym none))
    ] in
    ok_then _ _ c.add.result (λ u added. on_outputs-last c.args.fan.first c.args.fan.count (c.args.fan.count - 1) (P.Item c.args.number c.args.item) (waits c.args.outbox.now) (waits c.if-others-gt0.outbox) (waits c.add.new.self) count before added) c.add.ensures
