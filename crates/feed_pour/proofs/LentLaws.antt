-- What was lent and given back is lent no more.
use Rattle.std.specs.Prelude.{◌≡◌, ◌-◌, ◌^◌, ◌<◌, ℕ, true}
use Rattle.std.proofs.Common.{arith}
use Rattle.feed_pour.specs.Counts.{Lends, Returns}

-- one lent and given back
pub lent_back : (before between now : ℕ) → Lends true before between → Returns between now → before < 2 ^ 64 - 1 → now ≡ before
lent_back before between now lends returns room = let one = lends room in let back = returns (omega arith) in omega arith
