-- Words for parts of the rules of an Aggregate: the values of its arguments, what is made of values, and the markers that it gives.
use Rattle.std.specs.Prelude.{ℕ, Bool, List, [], Option, None, Some, slice_get, if◌then◌else◌}
use Rattle.std.specs.Option.{option_map_or}
use Rattle.spl_value.specs.declared.item.Item.TheVariants as I
use Rattle.spl_value.specs.declared.value.Value.{Value}
use Rattle.spl_tree.specs.declared.body.Function.{Function}
use Rattle.spl_tree.specs.declared.code.Code.{Code}
use Rattle.spl_tree.specs.declared.code.Slot.{Slot}
use Rattle.language_model.specs.declared.checked.CollectedAttribute.{CollectedAttribute}
use Rattle.language_model.specs.declared.checked.WindowRule.{WindowRule}
use Rattle.language_model.specs.declared.env.Env.{Env}
use Rattle.language_model.specs.declared.outs.Output.{Output}
use Rattle.language_model.specs.Evaluation.{world_of}
use Rattle.language_model.specs.Functions.{value}
use Rattle.language_model.specs.Outcomes.{Outcome, Done, followed}
use Rattle.stream_model.specs.Bodies.{most_turns, done_or, on_first, at_tuple}
use Rattle.stream_model.specs.Aggregates.{arguments, slides}

-- the value of an argument, where there is one
abbrev pub argument : List Function → Option (Code Slot) → Env → ℕ → Outcome (Option Value)
argument functions code env turns =
    option_map_or (λ code. followed (value functions code (world_of env) turns) (λ v turns. Done (Some v) turns)) code (Done None turns)

-- the values of the arguments of a tuple, as they were evaluated when it came: none where that faulted
abbrev pub arguments_of : List Function → List CollectedAttribute → List Value → List (Option Value)
arguments_of functions output t = done_or (λ values. values) (arguments functions output (at_tuple t) most_turns) []

abbrev pub first_of_two : (Value → Value → Bool) → Value → Option Value → Value
first_of_two before v other = option_map_or (λ w. if before w v then w else v) other v

abbrev pub first : List Value → Option Value
first vs = slice_get vs 0

abbrev pub marker_after : WindowRule → List Output
marker_after rule = if slides rule then [] else on_first I.Window

abbrev pub marker_passed : WindowRule → List Output
marker_passed rule = if slides rule then on_first I.Window else []
