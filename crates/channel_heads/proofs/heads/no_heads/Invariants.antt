use Rattle.std.proofs.Common.{◌≡◌, None, replicate}
use Rattle.channel_heads.proofs.heads.no_heads.Given as goal

abbrev pub invariant-loop-channel : goal.invariant-loop-channel
invariant-loop-channel l = l.heads.items ≡ replicate l._channel None
