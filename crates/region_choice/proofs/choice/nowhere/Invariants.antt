use Rattle.std.proofs.Common.{◌≡◌, None, replicate}
use Rattle.region_choice.proofs.choice.nowhere.Given as goal

abbrev pub invariant-places : goal.invariant-places
invariant-places l = l.places ≡ replicate l.counter None
