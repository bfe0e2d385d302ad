-- The operators of a checked graph before anything came.
use Rattle.std.specs.Prelude.{◌≡◌, ⊤, ℕ, Bool, true, false, List, [], Option, Some, None, slice_get}
use Rattle.language_model.specs.declared.checked.CheckedClauses.{CheckedClauses}
use Rattle.language_model.specs.CheckedGraph.{CheckedGraph}
use Rattle.stream_model.specs.CheckedMeaning.{graph_of}
use Rattle.stream_model.specs.Operators.{Operator}
use Rattle.stream_model.specs.Stream.{Event}
use Rattle.list_engine.specs.Runs.{is_source}

-- a source has no state; any other operator's is that of the graph's operator with this number, and stands for no event
abbrev pub FreshAs : {S : Type 0} → (S → Operator) → (S → List Event → Type 0) → CheckedGraph → ℕ → Bool → Option S → Type 0
FreshAs spec stands c n true None = ⊤
FreshAs spec stands c n true (Some s) = ⊥
FreshAs spec stands c n false None = ⊥
FreshAs spec stands c n false (Some s) = (slice_get (graph_of c).ops n ≡ Some (spec s)) × stands s []

-- by the clauses that the operator with this number has
abbrev pub IsFresh : {S : Type 0} → (S → Operator) → (S → List Event → Type 0) → CheckedGraph → ℕ → Option S → Type 0
IsFresh spec stands c n operator = (part : CheckedClauses) → slice_get c.parts n ≡ Some part → FreshAs spec stands c n (is_source part) operator
