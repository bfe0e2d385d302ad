use Rattle.std.proofs.Common.{get_or, arith}
use Rattle.pe_fusion.proofs.Loops.{contains_at}
use Rattle.pe_fusion.proofs.readers.add_port.Goals as goal

pub item_mut-requires : goal.item_mut-requires
item_mut-requires c =
    let within = c.requires.within (get_or c.args.port.now c.loop-stream.stream-index 0) (contains_at c.args.port.now c.loop-stream.stream-index c.loop-stream-test.true) in
    let many = c.loop-stream.invariant.many in
    omega (arith, within, many)
