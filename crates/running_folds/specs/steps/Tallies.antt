-- Folds that take a value more, each the next of a row, or begin anew.
use Rattle.std.specs.Prelude.{◌≡◌, ℕ, List, [], ◌∷◌, ◌++◌, Some, slice_get}
use Rattle.spl_value.specs.declared.value.Value.{Value}
use Rattle.running_folds.specs.declared.tally.Tally.{Tally}
use Rattle.running_folds.specs.Tallies.{Tallied, fold_of}

abbrev pub Adds : Value → Tally → Tally → Type 0
Adds v old new = (fold_of new ≡ fold_of old) × ((vs : List Value) → Tallied old vs → Tallied new (vs ++ v ∷ []))

abbrev pub AddsOf : List Value → ℕ → Tally → Tally → Type 0
AddsOf row k old new = (v : Value) → slice_get row k ≡ Some v → Adds v old new

abbrev pub BeginsAnew : ℕ → Tally → Tally → Type 0
BeginsAnew k old new = (fold_of new ≡ fold_of old) × Tallied new []
