use Rattle.std.proofs.Common.{◌≡◌}
use Rattle.stream_model.specs.Bodies.{on_each}
use Rattle.port_reacts.proofs.replies.on_each_port.Given as goal

abbrev pub invariant-ports : goal.invariant-ports
invariant-ports l = l.outs ≡ on_each l.port l.item
