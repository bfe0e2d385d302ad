use Rattle.std.proofs.Common.{◌≡◌, ◌-◌, ◌≤◌, length, take}
use Rattle.feed_pour.specs.Contents.{PouredSoFar}
use Rattle.feed_pour.proofs.whole.write_all.Given as goal

abbrev pub invariant-fronts : goal.invariant-fronts
invariant-fronts g l = record {
  within : l.at ≤ length l.bytes;
  poured : PouredSoFar ((g.P.Pour).poured l.initial.pour) ((g.P.Pour).poured l.pour) (take l.at l.bytes);
  count : (g.P.Pour).faults l.pour ≡ (g.P.Pour).faults l.initial.pour;
}

abbrev pub decreases-fronts : goal.decreases-fronts
decreases-fronts g l = length l.bytes - l.at
