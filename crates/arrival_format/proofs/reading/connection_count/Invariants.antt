use Rattle.std.proofs.Common.{◌≡◌, length, sum_by, take}
use Rattle.arrival_format.proofs.reading.connection_count.Given as goal

abbrev pub invariant-loop-port : goal.invariant-loop-port
invariant-loop-port l = l.count ≡ sum_by length (take l.port-index l.port-items)
