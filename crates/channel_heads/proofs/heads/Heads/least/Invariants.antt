use Rattle.std.proofs.Common.{◌≡◌, None, fold, take}
use Rattle.channel_heads.specs.Held.{least_with}
use Rattle.channel_heads.proofs.heads.Heads.least.Given as goal

abbrev pub invariant-loop-head : goal.invariant-loop-head
invariant-loop-head l = l.least ≡ fold least_with None (take l.head-index l.head-items)
