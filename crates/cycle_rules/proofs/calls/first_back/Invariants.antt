use Rattle.std.proofs.Common.{◌≡◌, ◌<◌, ℕ, Some}
use Rattle.std.specs.Prelude.{slice_get}
use Rattle.spl_tree.specs.declared.expression.Placed.{Placed}
use Rattle.cycle_rules.specs.steps.Backs.{BackBy}
use Rattle.cycle_rules.proofs.calls.first_back.Given as goal

abbrev pub invariant-loop-call : goal.invariant-loop-call
invariant-loop-call l = (i : ℕ) (c : Placed ℕ) → i < l.call-index → slice_get l.calls i ≡ Some c → BackBy l.leading.places.items l.place c → ⊥
