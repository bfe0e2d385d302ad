-- What the calls of a window are given and answer, in the words of windows.
use Rattle.std.specs.Prelude.{◌<◌, List}
use Rattle.std.specs.Option.{ForSome}
use Rattle.spl_value.specs.declared.value.Value.{Value}
use Rattle.language_model.specs.declared.checked.WindowRule.{WindowRule}
use Rattle.language_model.specs.declared.checked.WindowRule.TheVariants as W
use Rattle.stream_model.specs.Windows.{Firing, Silent, Flushes, Triggers}
use Rattle.window_policy.specs.declared.fired.Fired.{Fired}
use Rattle.window_policy.specs.declared.fired.Fired.TheVariants.{No, Whole, Stays}
use Rattle.window_policy.specs.declared.fired.FlushedContent.{FlushedContent}

-- the n of a tumbling window and the number of a trigger aren't 0. A sliding window that keeps none is allowed
abbrev pub IsAllowed : WindowRule → Type 0
IsAllowed (W.TumblingCount n) = 0 < n
IsAllowed (W.TumblingDelta a limit) = Unit {0}
IsAllowed W.TumblingPunct = Unit {0}
IsAllowed (W.SlidingCount n every) = ForSome every (λ m. 0 < m)
IsAllowed (W.SlidingDelta a limit every) = ForSome every (λ m. 0 < m)

-- what an insertion answers, where the content after it is that
abbrev pub firing_of : Fired → List (List Value) → Firing
firing_of No held = Silent
firing_of (Whole tuples) held = Flushes tuples
firing_of Stays held = Triggers held

-- a key with its content
abbrev pub entry_of : FlushedContent → List Value × List (List Value)
entry_of e = (e.key, e.tuples)
