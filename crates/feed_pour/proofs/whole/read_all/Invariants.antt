use Rattle.std.proofs.Common.{◌≡◌, ◌+◌, ◌-◌, vec_len}
use Rattle.feed_pour.specs.Contents.{LeftBehind}
use Rattle.feed_pour.proofs.whole.read_all.Given as goal

abbrev pub invariant-pieces : goal.invariant-pieces
invariant-pieces g l = record {
  behind : LeftBehind ((g.F.Feed).script l.initial.feed) l.bytes.items ((g.F.Feed).script l.feed);
  count : (g.F.Feed).faults l.feed ≡ (g.F.Feed).faults l.initial.feed;
}

abbrev pub decreases-pieces : goal.decreases-pieces
decreases-pieces g l = (l.limit + 1) - vec_len l.bytes
