use Rattle.std.proofs.Common.{◌≡◌, ◌++◌, ◌-◌}
use Rattle.spl_value.specs.declared.packet.Packet.TheVariants as P
use Rattle.language_model.specs.Numbering.{numbers_from}
use Rattle.stream_model.specs.Fans.{on_outputs}
use Rattle.element_outboxes.specs.Waiting.{waits}
use Rattle.element_works.proofs.split.send_pulse.Given as goal

abbrev pub invariant-loop-output : goal.invariant-loop-output
invariant-loop-output l = waits l.outbox ≡ waits l.initial.outbox ++ on_outputs (numbers_from l.fn.fan.first (l.output - l.fn.fan.first)) (P.Pulse l.number)
