-- What is kept for a fold of the values that came.
use Rattle.std.specs.Prelude.{◌≡◌, ℕ, pos, true, false, List, [], ◌∷◌, ◌++◌, length, Option, Some, slice_get}
use Rattle.std.specs.Option.{option_to_list}
use Rattle.spl_value.specs.Wrap.{wrapped}
use Rattle.spl_value.specs.declared.types.IntKind.TheVariants as N
use Rattle.spl_value.specs.declared.value.Value.{Value}
use Rattle.spl_value.specs.declared.value.Value.TheVariants as V
use Rattle.language_model.specs.declared.checked.Collector.{Collector}
use Rattle.language_model.specs.declared.checked.Collector.TheVariants as K
use Rattle.stream_model.specs.Aggregates.{last, least_by, total}
use Rattle.tuple_groups.specs.Columns.{column}
use Rattle.tuple_groups.specs.Extremes.{before}
use Rattle.running_folds.specs.declared.tally.Tally.{Tally}
use Rattle.running_folds.specs.declared.tally.Tally.TheVariants as Y
use Rattle.running_folds.specs.Folds.{AreRows}

-- the fold that something is kept for
abbrev pub fold_of : Tally → Collector
fold_of (Y.Sum t) = K.Sum t.kind
fold_of (Y.Extreme true best) = K.Max
fold_of (Y.Extreme false best) = K.Min
fold_of (Y.First first) = K.First
fold_of (Y.Last last) = K.Last
fold_of (Y.Count n) = K.Count

-- it is what is kept of these values
abbrev pub Tallied : Tally → List Value → Type 0
Tallied (Y.Sum t) vs = t.sum ≡ wrapped t.kind (total vs)
Tallied (Y.Extreme greatest best) vs = best ≡ least_by (before greatest) vs
Tallied (Y.First value) vs = value ≡ slice_get vs 0
Tallied (Y.Last value) vs = value ≡ last vs
Tallied (Y.Count n) vs = (n.kind ≡ N.I32) × (n.sum ≡ wrapped n.kind (pos (length vs)))

-- what the fold makes of them, where it makes something
abbrev pub made_of : Tally → Option Value
made_of (Y.Sum t) = Some (V.Int t.sum)
made_of (Y.Extreme greatest best) = best
made_of (Y.First value) = value
made_of (Y.Last value) = value
made_of (Y.Count n) = Some (V.Int n.sum)

-- what each of the folds makes
abbrev pub made_from : List Tally → List Value
made_from [] = []
made_from (t ∷ ts) = option_to_list (made_of t) ++ made_from ts

-- what is kept for folds of rows, for each of the values of its own argument
pub record AreTallied (tallies : List Tally) (rows : List (List Value)) : Type 0 where
  pub long : AreRows (length tallies) rows
  pub each : (k : ℕ) (t : Tally) → slice_get tallies k ≡ Some t → Tallied t (column k rows)
