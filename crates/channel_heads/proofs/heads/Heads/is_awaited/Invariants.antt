use Rattle.std.proofs.Common.{◌≡◌, ◌<◌, ℕ, false}
use Rattle.channel_heads.specs.Held.{is_waiting}
use Rattle.channel_heads.proofs.heads.Heads.is_awaited.Given as goal

abbrev pub invariant-loop-channel : goal.invariant-loop-channel
invariant-loop-channel l = (d : ℕ) → d < l.channel → is_waiting l.self l.number d ≡ false
