-- The inputs of events that a run records, by the operators' numbers.
use Rattle.std.specs.Prelude.{ℕ, suc, List, [], ◌∷◌, slice_get, Option, Some, None}
use Rattle.std.specs.Option.{unwrap_or}
use Rattle.stream_model.specs.declared.record.ArrivalList.{ArrivalList}

-- those of the operator with this number, where it has some recorded
abbrev pub recorded_at : List (Option (List ℕ)) → ℕ → Option (List ℕ)
recorded_at recorded n = unwrap_or (slice_get recorded n) None

-- none where nothing is recorded
abbrev pub entries_at : List (Option (List ℕ)) → ℕ → List ℕ
entries_at recorded n = unwrap_or (recorded_at recorded n) []

-- the lists of the record, of operators from number n on
abbrev pub lists_from : ℕ → List (Option (List ℕ)) → List ArrivalList
lists_from n [] = []
lists_from n (None ∷ recorded) = lists_from (suc n) recorded
lists_from n (Some inputs ∷ recorded) = record { op = n; inputs = inputs } ∷ lists_from (suc n) recorded
