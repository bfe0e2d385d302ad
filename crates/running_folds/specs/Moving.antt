-- What is kept for a fold of the values that came and haven't left.
use Rattle.std.specs.Prelude.{◌≡◌, ℕ, Bool, true, false, List, [], ◌∷◌, length, Some, slice_get}
use Rattle.std.specs.List.{AllByRecursion}
use Rattle.spl_value.specs.Wrap.{wrapped}
use Rattle.spl_value.specs.declared.value.Value.{Value}
use Rattle.language_model.specs.declared.checked.Collector.{Collector}
use Rattle.language_model.specs.declared.checked.Collector.TheVariants as K
use Rattle.stream_model.specs.Aggregates.{total}
use Rattle.stream_model.specs.Windows.{near}
use Rattle.tuple_groups.specs.Columns.{column}
use Rattle.tuple_groups.specs.Extremes.{before}
use Rattle.running_folds.specs.declared.moving.Moving.{Moving}
use Rattle.running_folds.specs.declared.moving.Moving.TheVariants as M
use Rattle.running_folds.specs.Folds.{AreRows}

-- no value comes before one that stands in front of it
abbrev pub NoneBehind : {A : Type 0} → (A → A → Bool) → List A → Type 0
NoneBehind before [] = Unit {0}
NoneBehind before (v ∷ vs) = AllByRecursion (λ w. before w v ≡ false) vs × NoneBehind before vs

-- the fold that something is kept for
abbrev pub fold_of : Moving → Collector
fold_of (M.Sum t) = K.Sum t.kind
fold_of (M.Extreme true queue) = K.Max
fold_of (M.Extreme false queue) = K.Min
fold_of M.First = K.First
fold_of M.Last = K.Last
fold_of M.Count = K.Count

-- It is what is kept of these values: of a sum the sum, and of an extreme each value that no later one comes before.
abbrev pub Moves : Moving → List Value → Type 0
Moves (M.Sum t) vs = t.sum ≡ wrapped t.kind (total vs)
Moves (M.Extreme greatest queue) vs = queue.items ≡ near (before greatest) vs
Moves M.First vs = Unit {0}
Moves M.Last vs = Unit {0}
Moves M.Count vs = Unit {0}

-- what is kept for folds of rows, for each of the values of its own argument
pub record AreMoving (moving : List Moving) (rows : List (List Value)) : Type 0 where
  pub long : AreRows (length moving) rows
  pub each : (k : ℕ) (m : Moving) → slice_get moving k ≡ Some m → Moves m (column k rows)
