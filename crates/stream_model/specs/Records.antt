-- Arrival records that are whole: each entry names an input and finds an item, and the operator ends at the last entry
-- and not before. Records are asked for operators with several connections alone: one without a connection has none
-- that is whole, since an empty record ends no operator.
use Prim.Native.Nat.{zero, suc}
use Rattle.std.specs.Prelude.{ℕ, ◌==◌, nat_lt, Bool, false, ◌&&◌, List, [], ◌∷◌, ◌++◌, map, length, if◌then◌else◌}
use Rattle.std.specs.List.{list_all}
use Rattle.stream_model.specs.Stream.{Event, is_empty}
use Rattle.stream_model.specs.Inputs.{inputs_of}
use Rattle.stream_model.specs.Operators.{Operator, ports}
use Rattle.stream_model.specs.Stages.{Stage, start, next}
use Rattle.stream_model.specs.Meaning.{Lists, arrive}

-- an operator that hasn't ended ends at the last of these events, and not before
abbrev pub ends_at_last : Stage → List Event → Bool
ends_at_last s [] = false
ends_at_last s (e ∷ events) = if (next s e).over then is_empty events else ends_at_last (next s e) events

-- the record of an operator is whole for the lists of its inputs: each entry names an input and finds an item in its
-- list, and the operator ends at the last one
abbrev pub is_whole : Operator → Lists → List ℕ → Bool
is_whole op lists entries =
    list_all (λ i. nat_lt i (length (ports op))) entries && (length (arrive lists entries) == length entries)
    && ends_at_last (start op) (arrive lists entries)

-- of these events those up to the first that ends an operator, which hasn't ended before
abbrev pub up_to_end : Stage → List Event → List Event
up_to_end s [] = []
up_to_end s (e ∷ events) = e ∷ (if (next s e).over then [] else up_to_end (next s e) events)

-- an entry for each item of the first of n inputs, from input i on, then for each of the next, and so on
abbrev pub inputs_from : Lists → ℕ → ℕ → List ℕ
inputs_from lists i zero = []
inputs_from lists i (suc n) = map (λ x. i) (lists i) ++ inputs_from lists (suc i) n

-- an entry for each item of all inputs of an operator, one input after the other
abbrev pub all_items : Operator → Lists → List ℕ
all_items op lists = inputs_from lists 0 (length (ports op))

-- the record that takes input after input until the operator ends
abbrev pub input_after_input : Operator → Lists → List ℕ
input_after_input op lists = inputs_of (up_to_end (start op) (arrive lists (all_items op lists)))
