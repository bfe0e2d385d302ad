use Rattle.std.proofs.Common.{ℕ, take}
use Rattle.place_sets.specs.Places.{HasPlace}
use Rattle.cycle_rules.specs.steps.Callers.{Calling}
use Rattle.cycle_rules.proofs.calls.is_ready.Given as goal

abbrev pub invariant-loop-call : goal.invariant-loop-call
invariant-loop-call l = (to : ℕ) → Calling (take l.call-index l.calls) to → HasPlace l.taken.places.items to
