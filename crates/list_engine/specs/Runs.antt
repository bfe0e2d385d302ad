-- When the lists of a run can be computed, from fresh operators and the rows of its sources, and the result of the run.
use Rattle.std.specs.Prelude.{◌≡◌, ℕ, Bool, true, false, List, [], length, Option, Some, None, slice_get}
use Rattle.spl_value.specs.declared.item.Item.{Item}
use Rattle.language_model.specs.declared.checked.CheckedClauses.{CheckedClauses}
use Rattle.language_model.specs.declared.checked.CheckedClauses.TheVariants as A
use Rattle.stream_model.specs.Arrivals.{entries_in}
use Rattle.stream_model.specs.Meaning.{Graph, Meaning, meaning}
use Rattle.stream_model.specs.Operators.{Operator}
use Rattle.stream_model.specs.Runs.{rows_at}
use Rattle.stream_model.specs.Stream.{Event}
use Rattle.list_engine.specs.declared.run.Run.{Run}

abbrev pub is_source : CheckedClauses → Bool
is_source (A.FileSource file strict) = true
is_source _ = false

-- ---- what is given

-- there is an operator for each of the graph but its sources, and it is fresh: it stands for no event
pub record AreOperators {S : Type 0} (spec : S → Operator) (stands : S → List Event → Type 0) (g : Graph) (operators : List (Option S)) : Type 0 where
  pub count : length operators ≡ length g.ops
  pub sources : (n : ℕ) (op : Operator) → slice_get g.ops n ≡ Some op → is_source op.clauses ≡ true → slice_get operators n ≡ Some None
  pub others : (n : ℕ) (op : Operator) → slice_get g.ops n ≡ Some op → is_source op.clauses ≡ false
      → (s : S) × (slice_get operators n ≡ Some (Some s)) × (spec s ≡ op) × stands s []

-- ---- the result

-- the meaning of the graph for these rows, under the record that a run returned
abbrev pub meant : Graph → List (List Item) → Run → Meaning
meant g rows run = meaning g (rows_at rows) (entries_in run.arrivals.lists)
