-- What an Aggregate gives for contents by what the folds of its assignments make of them.
use Rattle.std.specs.Prelude.{ℕ, List, [], ◌∷◌, ◌++◌, length, Option, Some}
use Rattle.std.specs.Option.{option_and_then, option_map}
use Rattle.spl_value.specs.declared.item.Item.TheVariants as I
use Rattle.spl_value.specs.declared.value.Value.{Value}
use Rattle.language_model.specs.declared.checked.CollectedAttribute.{CollectedAttribute}
use Rattle.language_model.specs.declared.outs.Output.{Output}
use Rattle.language_model.specs.Evaluation.{tuple_from}
use Rattle.stream_model.specs.parts.Aggregates.{marker_after}
use Rattle.stream_model.specs.Bodies.{on_first}
use Rattle.window_policy.specs.declared.summed.Summed.{Summed}
use Rattle.window_policy.specs.declared.summed.SummedContent.{SummedContent}
use Rattle.aggregate_op.specs.declared.clauses.Clauses.{Clauses}

-- the attributes of assignments, each with the answer of its fold
abbrev pub fields_of : List CollectedAttribute → List Value → List (ℕ × Value)
fields_of [] answers = []
fields_of (x ∷ xs) [] = []
fields_of (x ∷ xs) (v ∷ answers) = (x.attribute, v) ∷ fields_of xs answers

-- the tuple of a content
abbrev pub tuple_with : List CollectedAttribute → List Value → Option (List Value)
tuple_with output answers = tuple_from 0 (length output) (fields_of output answers)

-- what a content gives
abbrev pub answers_given : Clauses → List Value → Option (List Output)
answers_given clauses answers = option_map (λ t. on_first (I.Tuple t) ++ marker_after clauses.window.now.rule) (tuple_with clauses.output.now answers)

-- what contents give
abbrev pub sums_given : Clauses → List (List Value) → Option (List Output)
sums_given clauses [] = Some []
sums_given clauses (answers ∷ contents) =
    option_and_then (λ outs. option_map (λ more. outs ++ more) (sums_given clauses contents)) (answers_given clauses answers)

-- the answers of a content
abbrev pub answers_in : Summed → List Value
answers_in s = s.answers

abbrev pub made_by : SummedContent → List Value
made_by e = e.summed.answers
