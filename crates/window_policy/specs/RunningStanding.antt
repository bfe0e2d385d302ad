-- The histories that a running window represents: those by which it keeps for each key what is kept of its tuples. Their newest event
-- is first, and their tuples have the values of their arguments after their own.
use Rattle.std.specs.Prelude.{◌≡◌, List}
use Rattle.indexmap.specs.IndexMap.{get}
use Rattle.spl_value.specs.declared.value.Value.{Value}
use Rattle.language_model.specs.declared.checked.Collector.{Collector}
use Rattle.language_model.specs.declared.checked.WindowRule.{WindowRule}
use Rattle.stream_model.specs.Windows.{WindowEvent, tuples_with}
use Rattle.stream_model.specs.parts.Windows.{relevant}
use Rattle.window_policy.specs.declared.running.Running.{Running}
use Rattle.key_maps.specs.MapKeys.{equal_key}
use Rattle.window_policy.specs.Running.{IsSummable}
use Rattle.window_policy.specs.Sums.{SumsAt}

pub record Runs (rule : WindowRule) (folds : List Collector) (r : Running) (h : List WindowEvent) : Type 0 where
  pub by : r.rule ≡ rule
  pub folds_are : r.folds ≡ folds
  pub allowed : IsSummable rule
  pub at : (k : List Value) → SumsAt rule folds (get equal_key r.parts k) (tuples_with k (relevant rule h))
