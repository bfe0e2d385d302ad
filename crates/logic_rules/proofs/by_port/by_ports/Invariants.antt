use Rattle.std.proofs.Common.{length}
use Rattle.logic_rules.proofs.ByPorts.{Reaches}
use Rattle.logic_rules.proofs.by_port.by_ports.Given as goal

abbrev pub invariant-handlers : goal.invariant-handlers
invariant-handlers l = Reaches l.fn.handled l.handled l.count l.on_tuple l.on_punct

abbrev pub decreases-handlers : goal.decreases-handlers
decreases-handlers l = length l.handled
