use Rattle.std.proofs.Common.{ap, arith, length}
use Rattle.spl_value.proofs.segmented_pairs.segment_with_room.Goals as goal

pub segment_of-requires-clause-some : goal.segment_of-requires-clause-some
segment_of-requires-clause-some c =
    let same = ap length c.as_slice-3.ensures in
    let within = c.in_ok-split_segment.ensures.within in
    omega (arith, same, within)
