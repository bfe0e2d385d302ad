use Rattle.std.proofs.Common.{length}
use Rattle.element_outboxes.specs.Waiting.{waits}
use Rattle.element_tests.proofs.shown.add_waiting.Given as goal

abbrev pub decreases-packets : goal.decreases-packets
decreases-packets l = length (waits l.outbox)
