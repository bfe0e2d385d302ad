use Rattle.std.proofs.Common.{◌<◌, ℕ}
use Rattle.language_model.specs.Recursion.{Leads}
use Rattle.cycle_rules.proofs.calls.first_left.Given as goal

abbrev pub invariant-loop-caller : goal.invariant-loop-caller
invariant-loop-caller l = (i : ℕ) → i < l.caller → Leads l.calls i i → ⊥
