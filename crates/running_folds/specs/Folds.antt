-- What folds make of the arguments of tuples. A row has the arguments of one tuple, one for each fold, and rows have the
-- oldest tuple's first.
use Rattle.std.specs.Prelude.{◌≡◌, ℕ, ◌+◌, List, [], ◌∷◌, ◌++◌, length, Option}
use Rattle.std.specs.List.{AllByRecursion}
use Rattle.std.specs.Option.{option_to_list}
use Rattle.spl_value.specs.declared.value.Value.{Value}
use Rattle.language_model.specs.declared.checked.Collector.{Collector}
use Rattle.stream_model.specs.Aggregates.{collected}
use Rattle.tuple_groups.specs.Columns.{column}

-- a fold over the values of an argument, one of each tuple
abbrev pub folded : Collector → List Value → Option Value
folded fold vs = collected fold (length vs) vs

-- the folds from number k on, each over its own argument. Each makes something of one row or more
abbrev pub answers_from : ℕ → List Collector → List (List Value) → List Value
answers_from k [] rows = []
answers_from k (fold ∷ folds) rows = option_to_list (collected fold (length rows) (column k rows)) ++ answers_from (k + 1) folds rows

abbrev pub answers : List Collector → List (List Value) → List Value
answers folds rows = answers_from 0 folds rows

-- each row has so many values
abbrev pub AreRows : ℕ → List (List Value) → Type 0
AreRows n rows = AllByRecursion (λ (row : List Value). length row ≡ n) rows
