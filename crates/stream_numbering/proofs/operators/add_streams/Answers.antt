use Rattle.std.proofs.Common.{refl}
use Rattle.stream_numbering.proofs.Numbers.{map_step}
use Rattle.stream_numbering.proofs.operators.add_streams.Goals as goal

pub loop-port-preserved : goal.loop-port-preserved
loop-port-preserved c = map_step _ c.args.streams.now c.loop-port.streams c.push.new.self c.loop-port.port _ c.in_ok-push.ensures.ok refl c.loop-port.invariant
