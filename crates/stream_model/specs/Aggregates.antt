-- What an Aggregate gives for the contents with which an item of its port fires, by the items that came on it before,
-- the newest first.
use Rattle.std.specs.Prelude.{ℕ, ◌+◌, ℤ, pos, ◌+ℤ◌, Bool, true, false, List, [], ◌∷◌, ◌++◌, length, Option, None, Some, slice_get, if◌then◌else◌}
use Rattle.std.specs.List.{filter_map}
use Rattle.std.specs.Option.{option_and_then, option_map, option_map_or}
use Rattle.std.specs.Ordering.{is_lt}
use Rattle.spl_value.specs.Order.{value_cmp}
use Rattle.spl_value.specs.Wrap.{wrapped}
use Rattle.spl_value.specs.declared.item.Item.{Item}
use Rattle.spl_value.specs.declared.item.Item.TheVariants as I
use Rattle.spl_value.specs.declared.types.IntKind.TheVariants as N
use Rattle.spl_value.specs.declared.value.Value.{Value}
use Rattle.spl_value.specs.declared.value.Value.TheVariants as V
use Rattle.spl_value.specs.declared.value.Value.TheViews.{out-Value}
use Rattle.spl_tree.specs.declared.body.Function.{Function}
use Rattle.language_model.specs.declared.checked.CollectedAttribute.{CollectedAttribute}
use Rattle.language_model.specs.declared.checked.Collector.{Collector}
use Rattle.language_model.specs.declared.checked.Collector.TheVariants as K
use Rattle.language_model.specs.declared.checked.Policy.{Policy}
use Rattle.language_model.specs.declared.checked.WindowRule.{WindowRule}
use Rattle.language_model.specs.declared.checked.WindowRule.TheVariants as W
use Rattle.language_model.specs.declared.env.Env.{Env}
use Rattle.language_model.specs.declared.outs.Output.{Output}
use Rattle.language_model.specs.Evaluation.{world_of, tuple_of}
use Rattle.language_model.specs.Functions.{value}
use Rattle.language_model.specs.Outcomes.{Outcome, Done, followed, need}
use Rattle.stream_model.specs.Bodies.{Makes, most_turns, done_or, on_first, at_tuple}
use Rattle.stream_model.specs.Groups.{groups}
use Rattle.stream_model.specs.Windows.{integer_of, partition_key, fired_at}

-- ---- arguments

-- the values of the arguments of all assignments, in their order, where there are arguments
abbrev pub arguments : List Function → List CollectedAttribute → Env → ℕ → Outcome (List (Option Value))
arguments functions [] env turns = Done [] turns
arguments functions (x ∷ xs) env turns =
    followed (option_map_or (λ code. followed (value functions code (world_of env) turns)
    (λ v turns. Done (Some v) turns)) x.argument (Done None turns))
    (λ a turns. followed (arguments functions xs env turns) (λ more turns. Done (a ∷ more) turns))

-- the values of the argument of the assignment with this number, tuple by tuple, as they were evaluated when it came:
-- none where that faulted
abbrev pub values_of : List Function → List CollectedAttribute → ℕ → List (List Value) → List Value
values_of functions output k ts =
    filter_map (λ t. option_and_then (λ a. a) (slice_get
    (done_or (λ values. values) (arguments functions output (at_tuple t) most_turns) []) k)) ts

-- ---- what is made of values

-- a value comes before another in the order of values
abbrev pub is_below : Value → Value → Bool
is_below v w = is_lt (value_cmp v w)

-- the value that no other one is before
abbrev pub least_by : (Value → Value → Bool) → List Value → Option Value
least_by before [] = None
least_by before (v ∷ vs) = Some (option_map_or (λ w. if before w v then w else v) (least_by before vs) v)

abbrev pub total : List Value → ℤ
total [] = pos 0
total (v ∷ vs) = integer_of (out-Value v) +ℤ total vs

abbrev pub last : List Value → Option Value
last [] = None
last (v ∷ []) = Some v
last (v ∷ w ∷ vs) = last (w ∷ vs)

-- what a collector makes of the values of its argument for n tuples: a sum wraps in its type, and so does the number of
-- tuples in int32
abbrev pub collected : Collector → ℕ → List Value → Option Value
collected (K.Sum kind) n vs = Some (V.Int (wrapped kind (total vs)))
collected K.Min n vs = least_by is_below vs
collected K.Max n vs = least_by (λ v w. is_below w v) vs
collected K.First n vs = slice_get vs 0
collected K.Last n vs = last vs
collected K.Count n vs = Some (V.Int (wrapped N.I32 (pos n)))

-- ---- the tuple of a group

-- the attributes that the assignments from number k on get of the tuples of a group, with their places
abbrev pub attributes_from : List Function → List CollectedAttribute → List (List Value) → ℕ → List CollectedAttribute
    → Option (List (ℕ × Value))
attributes_from functions output ts k [] = Some []
attributes_from functions output ts k (x ∷ xs) =
    option_and_then (λ v. option_map (λ fs. (x.attribute, v) ∷ fs) (attributes_from functions output ts (k + 1) xs))
    (collected x.collector (length ts) (values_of functions output k ts))

-- ---- contents

-- the tuple of each group
abbrev pub tuples_of : List Function → List CollectedAttribute → List (List Value × List (List Value))
    → Option (List Output)
tuples_of functions output [] = Some []
tuples_of functions output (g ∷ gs) =
    option_and_then (λ t. option_map (λ outs. on_first (I.Tuple t) ++ outs) (tuples_of functions output gs))
    (option_and_then tuple_of (attributes_from functions output g.1 0 output))

-- a window that slides passes window markers, and one that tumbles gives one after each content
abbrev pub slides : WindowRule → Bool
slides (W.TumblingCount n) = false
slides (W.TumblingDelta a limit) = false
slides W.TumblingPunct = false
slides (W.SlidingCount n every) = true
slides (W.SlidingDelta a limit every) = true

-- for each content a tuple of each group, by ascending key, and a window marker where the window tumbles
abbrev pub contents_give : List Function → List ℕ → List CollectedAttribute → WindowRule → List (List (List Value))
    → Option (List Output)
contents_give functions group output rule [] = Some []
contents_give functions group output rule (ts ∷ contents) =
    option_and_then
    (λ outs. option_map (λ more. outs ++ (if slides rule then [] else on_first I.Window) ++ more)
    (contents_give functions group output rule contents))
    (tuples_of functions output (groups group ts))

-- what the contents give with which an item fires
abbrev pub fired_give : List Function → Policy → List ℕ → List ℕ → List CollectedAttribute → List Item → Item
    → Option (List Output)
fired_give functions window partition group output earlier x =
    contents_give functions group output window.rule (fired_at window.rule (partition_key window partition) x earlier)

-- ---- the body

-- The arguments are evaluated at each tuple, also where it doesn't fire.
abbrev pub aggregate_body : List Function → Policy → List ℕ → List ℕ → List CollectedAttribute → List Item → Item
    → Makes
aggregate_body functions window partition group output earlier (I.Tuple t) =
    followed (arguments functions output (at_tuple t) most_turns) (λ values turns.
    need (fired_give functions window partition group output earlier (I.Tuple t)) (λ outs. Done outs turns))
aggregate_body functions window partition group output earlier I.Window =
    need (fired_give functions window partition group output earlier I.Window) (λ outs.
    Done (outs ++ (if slides window.rule then on_first I.Window else [])) most_turns)
aggregate_body functions window partition group output earlier I.Final = Done [] most_turns
aggregate_body functions window partition group output earlier (I.Bad f) = Done [] most_turns
