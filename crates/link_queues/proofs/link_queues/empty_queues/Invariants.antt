use Rattle.std.proofs.Common.{◌≡◌, [], replicate}
use Rattle.link_queues.proofs.link_queues.empty_queues.Given as goal

abbrev pub invariant-loop : goal.invariant-loop
invariant-loop l = l.queues.items ≡ replicate l.counter (record { packets = []; room = l.fn.room })
