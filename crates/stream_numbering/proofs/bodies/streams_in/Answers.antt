use Rattle.std.proofs.Common.{arith}
use Rattle.std.proofs.lemmas.Grind.{common_steps}
use Rattle.std.proofs.lemmas.List.Elements.{filter_map-append}
use Rattle.stream_numbering.proofs.bodies.streams_in.Goals as goal

pub loop-stream-preserved : goal.loop-stream-preserved
loop-stream-preserved c = grind (arith, common_steps, filter_map-append)
