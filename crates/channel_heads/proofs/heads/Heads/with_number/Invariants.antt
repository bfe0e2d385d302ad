use Rattle.std.proofs.Common.{◌≡◌, ◌<◌, ℕ, Some, slice_get}
use Rattle.spl_value.specs.declared.item.Item.{Item}
use Rattle.channel_heads.proofs.heads.Heads.with_number.Given as goal

abbrev pub invariant-loop-channel : goal.invariant-loop-channel
invariant-loop-channel l = (c n : ℕ) (x : Item) → c < l.channel → slice_get l.head-items c ≡ Some (Some (n, x)) → n ≡ l.number → ⊥
