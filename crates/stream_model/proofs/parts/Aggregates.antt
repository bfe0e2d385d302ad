-- Words for parts of the rules of an Aggregate, by which proofs speak of them.
use Rattle.std.specs.Prelude.{List, [], Option}
use Rattle.std.specs.Option.{option_and_then}
use Rattle.spl_value.specs.declared.value.Value.{Value}
use Rattle.spl_tree.specs.declared.body.Function.{Function}
use Rattle.language_model.specs.declared.checked.CollectedAttribute.{CollectedAttribute}
use Rattle.language_model.specs.Evaluation.{tuple_of}
use Rattle.language_model.specs.Outcomes.{Outcome}
use Rattle.stream_model.specs.Bodies.{done_or}
use Rattle.stream_model.specs.Aggregates.{attributes_from}

abbrev pub done_or_none : Outcome (List (Option Value)) → List (Option Value)
done_or_none outcome = done_or (λ values. values) outcome []

abbrev pub group_tuple : List Function → List CollectedAttribute → List (List Value) → Option (List Value)
group_tuple functions output ts = option_and_then tuple_of (attributes_from functions output ts 0 output)
