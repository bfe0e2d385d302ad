use Rattle.std.proofs.Common.{ℕ, ◌<◌}
use Rattle.place_sets.specs.Places.{HasPlace}
use Rattle.cycle_rules.proofs.calls.add_all_below.Given as goal

abbrev pub invariant-loop-place : goal.invariant-loop-place
invariant-loop-place l = (i : ℕ) → i < l.place → HasPlace l.places.items i
