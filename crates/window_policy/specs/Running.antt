-- What a running window is given and answers: the folds over the arguments of a content, and its last tuple. The tuples
-- of its history have the values of their arguments after their own.
use Rattle.std.specs.Prelude.{◌<◌, ◌-◌, ⊤, ℕ, List, [], length, map, take, drop}
use Rattle.std.specs.Option.{ForSome, option_map_or}
use Rattle.circular_buffer.specs.Buffer.{last_item}
use Rattle.spl_value.specs.declared.value.Value.{Value}
use Rattle.language_model.specs.declared.checked.Collector.{Collector}
use Rattle.language_model.specs.declared.checked.WindowRule.{WindowRule}
use Rattle.language_model.specs.declared.checked.WindowRule.TheVariants as W
use Rattle.running_folds.specs.Folds.{answers}
use Rattle.window_policy.specs.declared.summed.Summed.{Summed}
use Rattle.window_policy.specs.declared.summed.SummedContent.{SummedContent}

-- Its window isn't sliding with delta. The n of a tumbling window, the number of a trigger and what a window with a
-- trigger keeps aren't 0.
abbrev pub IsSummable : WindowRule → Type 0
IsSummable (W.TumblingCount n) = 0 < n
IsSummable (W.TumblingDelta a limit) = ⊤
IsSummable W.TumblingPunct = ⊤
IsSummable (W.SlidingCount n every) = ForSome every (λ m. (0 < m) × (0 < n))
IsSummable (W.SlidingDelta a limit every) = ⊥

-- a tuple has the attribute by which the rule compares tuples
abbrev pub HasAttribute : WindowRule → List Value → Type 0
HasAttribute (W.TumblingDelta a limit) t = a < length t
HasAttribute (W.SlidingDelta a limit every) t = a < length t
HasAttribute (W.TumblingCount n) t = ⊤
HasAttribute W.TumblingPunct t = ⊤
HasAttribute (W.SlidingCount n every) t = ⊤

-- the values of a tuple's m arguments, which are the last ones, and the tuple before them
abbrev pub arguments_of : ℕ → List Value → List Value
arguments_of m t = drop (length t - m) t

abbrev pub tuple_of : ℕ → List Value → List Value
tuple_of m t = take (length t - m) t

abbrev pub rows_of : ℕ → List (List Value) → List (List Value)
rows_of m ts = map (arguments_of m) ts

abbrev pub last_of : ℕ → List (List Value) → List Value
last_of m ts = option_map_or (tuple_of m) (last_item ts) []

-- what each fold makes of the values of its argument in a content, and the content's last tuple
abbrev pub summed : List Collector → List (List Value) → List Value × List Value
summed folds ts = (answers folds (rows_of (length folds) ts), last_of (length folds) ts)

abbrev pub summed_of : Summed → List Value × List Value
summed_of s = (s.answers, s.last)

-- the same of a key with its content
abbrev pub content_summed : List Collector → List Value × List (List Value) → List Value × (List Value × List Value)
content_summed folds e = (e.0, summed folds e.1)

abbrev pub content_summed_of : SummedContent → List Value × (List Value × List Value)
content_summed_of e = (e.key, summed_of e.summed)
