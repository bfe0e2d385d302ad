-- Words for parts of the rules of windows: the integer of a value, what counts of a history, and what a tuple fires.
use Rattle.std.specs.Prelude.{ℤ, pos, Bool, List, Option, if◌then◌else◌}
use Rattle.std.specs.Option.{option_map_or}
use Rattle.spl_value.specs.declared.value.Value.{Value}
use Rattle.spl_value.specs.declared.value.Value.TheViews.{out-Value}
use Rattle.language_model.specs.declared.checked.WindowRule.{WindowRule}
use Rattle.stream_model.specs.Windows.{Firing, Silent, Flushes, WindowEvent, fires_after, flushes_at_markers, integer_of, since_mark, tuples_with}

abbrev pub integer_in : Option Value → ℤ
integer_in value = option_map_or (λ v. integer_of (out-Value v)) value (pos 0)

-- where window markers flush, what came after the last one counts, and else everything
abbrev pub relevant : WindowRule → List WindowEvent → List WindowEvent
relevant rule h = if flushes_at_markers rule then since_mark h else h

abbrev pub flush_if : Bool → List (List Value) → Firing
flush_if b ts = if b then Flushes ts else Silent

-- what a tuple fires that is inserted under a key after a history
abbrev pub tuple_fires : WindowRule → List Value → List Value → List WindowEvent → Firing
tuple_fires rule k t h = fires_after rule t (tuples_with k h)
