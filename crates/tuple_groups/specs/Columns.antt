-- What collectors make of the values that stand at places of tuples: each assignment of an Aggregate has a place of its own.
use Rattle.std.specs.Prelude.{◌+◌, ℕ, List, [], ◌∷◌, length, Option, Some, slice_get}
use Rattle.std.specs.List.{filter_map}
use Rattle.std.specs.Option.{option_and_then, option_map}
use Rattle.spl_value.specs.declared.value.Value.{Value}
use Rattle.language_model.specs.declared.checked.CollectedAttribute.{CollectedAttribute}
use Rattle.language_model.specs.Evaluation.{tuple_of}
use Rattle.stream_model.specs.Aggregates.{collected}

-- the values at a place
abbrev pub column : ℕ → List (List Value) → List Value
column p us = filter_map (λ u. slice_get u p) us

-- the attributes that assignments get of the tuples of a group, where the first assignment's values stand at this place
abbrev pub fields_at : ℕ → List CollectedAttribute → List (List Value) → Option (List (ℕ × Value))
fields_at p [] us = Some []
fields_at p (x ∷ xs) us =
    option_and_then (λ v. option_map (λ fs. (x.attribute, v) ∷ fs) (fields_at (p + 1) xs us)) (collected x.collector (length us) (column p us))

-- the tuple of a group
abbrev pub tuple_at : ℕ → List CollectedAttribute → List (List Value) → Option (List Value)
tuple_at p output us = option_and_then tuple_of (fields_at p output us)
