use Rattle.std.proofs.Common.{◌≡◌, ℕ, length, Some}
use Rattle.std.specs.Prelude.{true, slice_get}
use Rattle.composite_expand.proofs.walk.no_marks.Given as goal

abbrev pub invariant-loop : goal.invariant-loop
invariant-loop l = (length l.marks ≡ l.counter) × ((k : ℕ) → slice_get l.marks k ≡ Some true → ⊥)
