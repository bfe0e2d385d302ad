use Rattle.std.proofs.Common.{◌≡◌, ◌++◌, take, drop}
use Rattle.channel_heads.specs.Held.{no_heads}
use Rattle.channel_heads.proofs.heads.drop_heads.Given as goal

abbrev pub invariant-loop-head : goal.invariant-loop-head
invariant-loop-head l = l.heads ≡ no_heads (take l.head-index l.initial.heads) ++ drop l.head-index l.initial.heads
