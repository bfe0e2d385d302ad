use Rattle.std.proofs.Common.{◌∙◌, ◌++◌, ap}
use Rattle.element_outboxes.specs.Waiting.{waits}
use Rattle.element_outboxes.proofs.Fans.{ok_then}
use Rattle.element_works.specs.Works.{close_behind}
use Rattle.element_works.proofs.OneSplit.{split-more}
use Rattle.element_works.proofs.split.run_splitter.Goals as goal

pub returns : goal.returns
returns c = record {
  splits = ok_then _ _ c.close_each.result
      (λ u closed region T number at unclosed. split-more region T number c.args.width c.send-channel.result.0 c.send-channel.result.1 c.args.item c.args.splitter.now c.send-channel.new.self c.pulse_each.new.splitter
      (waits c.args.outbox.now) (waits c.add.new.self) (waits c.pulse_each.new.outbox) (waits c.close_each.new.outbox)
      at unclosed c.requires.width c.send-channel.ensures.channel c.send-channel.ensures.packet c.send-channel.ensures.after c.pulse_each.ensures.splitter c.pulse_each.ensures.earlier
      c.in_ok-add.ensures c.in_ok-pulse_each.ensures.sends
      (closed ∙ ap (λ b. waits c.pulse_each.new.outbox ++ close_behind b (record { first = 0; count = c.args.width })) c.closes-last.ensures))
      c.close_each.ensures;
}
