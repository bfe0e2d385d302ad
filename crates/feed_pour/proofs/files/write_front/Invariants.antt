use Rattle.std.proofs.Common.{◌-◌, ◌≤◌, length, take}
use Rattle.std.specs.Io.KnownBytes.{Appends}
use Rattle.feed_pour.proofs.files.write_front.Given as goal

abbrev pub invariant-fronts : goal.invariant-fronts
invariant-fronts g l = record {
  within : l.written ≤ length l.bytes;
  bytes : Appends ((g.F.Write).contents l.initial.file) ((g.F.Write).contents l.file) (take l.written l.bytes);
}

abbrev pub decreases-fronts : goal.decreases-fronts
decreases-fronts g l = length l.bytes - l.written
