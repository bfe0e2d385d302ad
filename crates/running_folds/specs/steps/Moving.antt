-- One value more for a fold, and one less.
use Rattle.std.specs.Prelude.{◌≡◌, ℕ, List, [], ◌∷◌, ◌++◌, Option, Some, slice_get}
use Rattle.spl_value.specs.declared.value.Value.{Value}
use Rattle.running_folds.specs.declared.moving.Moving.{Moving}
use Rattle.running_folds.specs.Moving.{Moves, fold_of}

abbrev pub PassesTo : Option Value → Moving → Moving → Type 0
PassesTo o old new = (fold_of new ≡ fold_of old) × ((v : Value) (vs : List Value) → o ≡ Some v → Moves old vs → Moves new (vs ++ v ∷ []))

abbrev pub LeavesTo : Option Value → Moving → Moving → Type 0
LeavesTo o old new = (fold_of new ≡ fold_of old) × ((v : Value) (vs : List Value) → o ≡ Some v → Moves old (v ∷ vs) → Moves new vs)

abbrev pub PassesOf : List Value → ℕ → Moving → Moving → Type 0
PassesOf row k old new = PassesTo (slice_get row k) old new

abbrev pub LeavesOf : List Value → ℕ → Moving → Moving → Type 0
LeavesOf row k old new = LeavesTo (slice_get row k) old new
