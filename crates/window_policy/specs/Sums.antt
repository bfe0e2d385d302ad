-- What is kept of the tuples of a key whose contents are folded.
use Rattle.std.specs.Prelude.{◌≡◌, ◌<◌, List, [], length, map, slice_get, Option, None, Some}
use Rattle.std.specs.Option.{option_map}
use Rattle.spl_value.specs.declared.value.Value.{Value}
use Rattle.language_model.specs.declared.checked.Collector.{Collector}
use Rattle.language_model.specs.declared.checked.WindowRule.{WindowRule}
use Rattle.language_model.specs.declared.checked.WindowRule.TheVariants as W
use Rattle.running_folds.specs.Moving.{AreMoving, fold_of as fold_moving}
use Rattle.running_folds.specs.Tallies.{AreTallied, fold_of}
use Rattle.stream_model.specs.Windows.{held, integer_at}
use Rattle.window_policy.specs.declared.sums.Sums.{Sums}
use Rattle.window_policy.specs.Parts.{CountsTo}
use Rattle.window_policy.specs.Running.{last_of, rows_of}

-- the folds of a content that leaves as a whole
pub record HoldsTallies (folds : List Collector) (s : Sums) (ts : List (List Value)) : Type 0 where
  pub folds_are : map fold_of s.tallies.items ≡ folds
  pub tallied : AreTallied s.tallies.items (rows_of (length folds) ts)

-- and those of one whose tuples leave one by one
pub record HoldsMoving (folds : List Collector) (s : Sums) (ts : List (List Value)) : Type 0 where
  pub folds_are : map fold_moving s.moving.items ≡ folds
  pub moving : AreMoving s.moving.items (rows_of (length folds) ts)
  pub rows : s.rows.items ≡ rows_of (length folds) ts

-- what is kept is that of the tuples of a key, the newest first
abbrev pub Holds : WindowRule → List Collector → Sums → List (List Value) → Type 0
Holds (W.TumblingCount n) folds s ts = HoldsTallies folds s (held (W.TumblingCount n) ts) × CountsTo (Some n) s.since (length ts)
Holds (W.TumblingDelta a limit) folds s ts =
    HoldsTallies folds s (held (W.TumblingDelta a limit) ts) × (s.last ≡ last_of (length folds) (held (W.TumblingDelta a limit) ts))
    × (s.start ≡ option_map (integer_at a) (slice_get (held (W.TumblingDelta a limit) ts) 0))
Holds W.TumblingPunct folds s ts = HoldsTallies folds s (held W.TumblingPunct ts) × (s.last ≡ last_of (length folds) (held W.TumblingPunct ts))
Holds (W.SlidingCount n every) folds s ts = HoldsMoving folds s (held (W.SlidingCount n every) ts) × CountsTo every s.since (length ts)
Holds (W.SlidingDelta a limit every) folds s ts = ⊥

-- nothing is kept for a key without tuples
abbrev pub SumsAt : WindowRule → List Collector → Option Sums → List (List Value) → Type 0
SumsAt rule folds None ts = ts ≡ []
SumsAt rule folds (Some s) ts = Holds rule folds s ts × (0 < length ts)
