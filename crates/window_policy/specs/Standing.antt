-- The histories that a window represents: those by which it holds for each key what the window of the key holds, and knows the keys
-- that came. Their newest event is first.
use Rattle.std.specs.Prelude.{List, ◌≡◌, is_some}
use Rattle.indexmap.specs.IndexMap.{get}
use Rattle.indexmap.specs.IndexSet.{contains}
use Rattle.spl_value.specs.declared.value.Value.{Value}
use Rattle.language_model.specs.declared.checked.WindowRule.{WindowRule}
use Rattle.stream_model.specs.Windows.{WindowEvent, tuples_with, has_come, flushes_at_markers}
use Rattle.stream_model.specs.parts.Windows.{relevant}
use Rattle.window_policy.specs.declared.window.Window.{Window}
use Rattle.window_policy.specs.Answers.{IsAllowed}
use Rattle.key_maps.specs.MapKeys.{equal_key}
use Rattle.window_policy.specs.Parts.{At, NewestAt, noted_or}

pub record Stands (rule : WindowRule) (w : Window) (h : List WindowEvent) : Type 0 where
  pub by : w.policy.rule ≡ rule
  pub allowed : IsAllowed rule
  pub at : (k : List Value) → At rule (get equal_key w.parts k) (tuples_with k (relevant rule h))
  pub known : (k : List Value) → noted_or (flushes_at_markers rule) (contains equal_key w.known k) (is_some (get equal_key w.parts k)) ≡ has_come k h
  pub newest : NewestAt w.parts w.place h
