-- The histories that what an Aggregate keeps of its window represents. Their tuples have the values of their arguments after
-- their own. Where folds are kept, each content is one group.
use Rattle.std.specs.Prelude.{◌≡◌, ◌+◌, ℕ, ⊤, Bool, false, List, [], ◌∷◌, length, map}
use Rattle.spl_value.specs.declared.value.Value.{Value}
use Rattle.language_model.specs.declared.checked.CollectedAttribute.{CollectedAttribute}
use Rattle.language_model.specs.declared.checked.Collector.{Collector}
use Rattle.language_model.specs.declared.checked.WindowRule.{WindowRule}
use Rattle.language_model.specs.declared.checked.WindowRule.TheVariants as W
use Rattle.language_model.specs.Keeping.{AggregateWindow}
use Rattle.language_model.specs.StreamTypes.{Attributes}
use Rattle.stream_model.specs.Stream.{is_empty}
use Rattle.stream_model.specs.Windows.{WindowEvent, Insert, Mark}
use Rattle.window_policy.specs.declared.running.Running.{Running}
use Rattle.window_policy.specs.Running.{HasAttribute}
use Rattle.window_policy.specs.RunningStanding.{Runs}
use Rattle.window_policy.specs.Standing.{Stands}
use Rattle.aggregate_op.specs.declared.clauses.Clauses.{Clauses}
use Rattle.aggregate_op.specs.declared.kept.Kept.{Kept}
use Rattle.aggregate_op.specs.declared.kept.Kept.TheVariants as K

-- the fold of each assignment
abbrev pub folds_of : List CollectedAttribute → List Collector
folds_of output = map (λ (x : CollectedAttribute). x.collector) output

-- folds are kept, and no tuples
abbrev pub are_summed : WindowRule → List ℕ → Bool
are_summed (W.TumblingCount n) group = is_empty group
are_summed (W.TumblingDelta a limit) group = is_empty group
are_summed W.TumblingPunct group = is_empty group
are_summed (W.SlidingCount n every) group = is_empty group
are_summed (W.SlidingDelta a limit every) group = false

-- the window is one of tuples of this width
abbrev pub WindowFits : Clauses → Type 0
WindowFits clauses = (input : Attributes) × AggregateWindow input clauses.window.now.rule × (clauses.width ≡ length input)

-- each tuple that was inserted has so many values
abbrev pub AreLong : ℕ → List WindowEvent → Type 0
AreLong n [] = ⊤
AreLong n (Mark ∷ h) = AreLong n h
AreLong n (Insert k t ∷ h) = (length t ≡ n) × AreLong n h

-- the folds are those of the assignments, and each tuple has the attribute by which the rule compares tuples
pub record SumsStand (clauses : Clauses) (rule : WindowRule) (r : Running) (h : List WindowEvent) : Type 0 where
  pub runs : Runs rule (folds_of clauses.output.now) r h
  pub long : AreLong (clauses.width + length clauses.output.now) h
  pub reaches : (t : List Value) → length t ≡ clauses.width → HasAttribute rule t
  pub together : clauses.group.now ≡ []

abbrev pub KeptStands : Clauses → WindowRule → Kept → List WindowEvent → Type 0
KeptStands clauses rule (K.Whole w) h = Stands rule w h
KeptStands clauses rule (K.Sums r) h = SumsStand clauses rule r h
