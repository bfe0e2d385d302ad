-- How far a run has come, while some operators are still to be run.
use Rattle.std.specs.Prelude.{◌≡◌, ◌<◌, ◌||◌, not, ℕ, Bool, true, false, List, [], ◌∷◌, ◌++◌, length, Option, Some, None, is_some, slice_get}
use Rattle.std.specs.List.{Contains}
use Rattle.spl_value.specs.declared.item.Item.{Item}
use Rattle.language_model.specs.CheckedGraph.{CheckedGraph}
use Rattle.stream_model.specs.Arrivals.{has_several}
use Rattle.stream_model.specs.CheckedMeaning.{graph_of, schema_at}
use Rattle.stream_model.specs.Ends.{is_read}
use Rattle.stream_model.specs.parts.Ends.{operator_fault}
use Rattle.stream_model.specs.Laws.{is_made}
use Rattle.stream_model.specs.Meaning.{Graph, Entries, Meaning, lists_at, meaning}
use Rattle.stream_model.specs.Operators.{Operator, connections}
use Rattle.stream_model.specs.Stages.{out}
use Rattle.stream_model.specs.Stream.{Event, is_closed, TuplesFit}
use Rattle.list_engine.specs.declared.run_order.Order.{Order}
use Rattle.list_engine.specs.declared.run_order.RunAnswer.{RunAnswer}
use Rattle.list_engine.specs.declared.state.State.{State}
use Rattle.list_engine.specs.RunOrders.{Follows, StopsRun}
use Rattle.list_engine.specs.Runs.{is_source}
use Rattle.stream_model.specs.Runs.{RowsFit, is_whole_at, rows_at}
use Rattle.list_engine.specs.steps.Faults.{fault_at}
use Rattle.list_engine.specs.steps.Reading.{ops_at}
use Rattle.list_engine.specs.steps.Recording.{entries_at, recorded_at}

-- ---- the operators

-- the operator with this number is a source
abbrev pub IsSource : CheckedGraph → ℕ → Type 0
IsSource c n = (g : Graph) → graph_of c ≡ g → (o : Operator) × (slice_get g.ops n ≡ Some o) × (is_source o.clauses ≡ true)

-- it is another one, and for it there is this fresh operator
abbrev pub IsOther : {S : Type 0} → (S → Operator) → (S → List Event → Type 0) → CheckedGraph → ℕ → S → Type 0
IsOther spec stands c n s =
    (g : Graph) → graph_of c ≡ g → (o : Operator) × (slice_get g.ops n ≡ Some o) × (is_source o.clauses ≡ false) × (spec s ≡ o) × stands s []

-- there is a fresh operator for each of these numbers but those of sources
pub record AreLeft {S : Type 0} (spec : S → Operator) (stands : S → List Event → Type 0) (g : Graph) (rest : List ℕ) (operators : List (Option S)) : Type 0 where
  pub count : length operators ≡ length g.ops
  pub sources : (n : ℕ) (o : Operator) → Contains rest n → slice_get g.ops n ≡ Some o → is_source o.clauses ≡ true → slice_get operators n ≡ Some None
  pub others : (n : ℕ) (o : Operator) → Contains rest n → slice_get g.ops n ≡ Some o → is_source o.clauses ≡ false
      → (s : S) × (slice_get operators n ≡ Some (Some s)) × (spec s ≡ o) × stands s []

---- their results

-- nobody reads the stream, or one of the operators that are still to be run does
abbrev pub stays : Graph → List ℕ → ℕ → Bool
stays g rest s = not (is_read g.ops s) || is_read (ops_at g rest) s

-- Where these operators were run and the rest is still to be run, what is kept is that of the meaning: each stream that is made and that
-- stays, and of each operator without output ports what it gave and its fault. Each stream that is made is closed and fits, and each record is whole.
pub record Means (c : CheckedGraph) (g : Graph) (m : Meaning) (entries : Entries) (before rest : List ℕ) (state : State) : Type 0 where
  pub kept : (s : ℕ) → s < length c.graph.streams → is_made (ops_at g rest) s ≡ false → stays g rest s ≡ true → slice_get state.streams s ≡ Some (m.streams s)
  pub closed : (s : ℕ) → s < length c.graph.streams → is_made (ops_at g rest) s ≡ false → is_closed (m.streams s) ≡ true
  pub fit : (s : ℕ) → s < length c.graph.streams → is_made (ops_at g rest) s ≡ false → TuplesFit (schema_at c s) (m.streams s)
  pub sinks : (n : ℕ) (o : Operator) → Contains before n → slice_get g.ops n ≡ Some o → o.outs ≡ [] → rows_at state.sinks n ≡ out o 0 (m.events o.number)
  pub faults : (n : ℕ) (o : Operator) → Contains before n → slice_get g.ops n ≡ Some o → o.outs ≡ [] → fault_at state.faults n ≡ operator_fault o (m.events o.number)
  pub whole : (n : ℕ) (o : Operator) → Contains before n → slice_get g.ops n ≡ Some o → has_several (connections o) ≡ true
      → is_whole_at m entries o ≡ true

-- the record of each of these operators that has several connections is the one that is kept
abbrev pub Agrees : Graph → List ℕ → List (Option (List ℕ)) → Entries → Type 0
Agrees g before recorded entries = (n : ℕ) (o : Operator) → Contains before n → slice_get g.ops n ≡ Some o → has_several (connections o) ≡ true → entries n ≡ entries_at recorded n

-- and as the order says
abbrev pub InOrder : Order → Graph → Meaning → List ℕ → Entries → Type 0
InOrder order g m before entries = (n : ℕ) (o : Operator) → Contains before n → slice_get g.ops n ≡ Some o → has_several (connections o) ≡ true
    → Follows order o (lists_at m.streams (connections o)) (entries o.number)

-- a list for each stream, and a place for each operator
pub record HasPlaces (c : CheckedGraph) (state : State) : Type 0 where
  pub streams : length state.streams ≡ length c.graph.streams
  pub rows : length state.rows ≡ length c.graph.ops
  pub sinks : length state.sinks ≡ length c.graph.ops
  pub faults : length state.faults ≡ length c.graph.ops
  pub inputs : length state.inputs ≡ length c.graph.ops

-- the operators with the numbers of the rest are still to be run, on these rows
pub record LeftToRun (c : CheckedGraph) (order : Order) (g : Graph) (rows : List (List Item)) (rest : List ℕ) (state : State) : Type 0 where
  pub before : List ℕ
  pub split : g.topo ≡ before ++ rest
  pub places : HasPlaces c state
  pub left : (n : ℕ) → Contains rest n → rows_at state.rows n ≡ rows_at rows n
  pub recorded : (n : ℕ) (o : Operator) → Contains before n → slice_get g.ops n ≡ Some o → is_some (recorded_at state.inputs n) ≡ has_several (connections o)
  pub means : (entries : Entries) → Agrees g before state.inputs entries → Means c g (meaning g (rows_at rows) entries) entries before rest state
  pub ordered : (entries : Entries) → Agrees g before state.inputs entries → InOrder order g (meaning g (rows_at rows) entries) before entries

-- the operator with this number is the next to be run
abbrev pub Ready : CheckedGraph → Order → ℕ → List ℕ → State → Type 0
Ready c order n later state = (rows : List (List Item)) × ((g : Graph) → graph_of c ≡ g → RowsFit g rows × LeftToRun c order g rows (n ∷ later) state)

-- it was run
abbrev pub Advances : CheckedGraph → Order → ℕ → List ℕ → State → State → Type 0
Advances c order n later old new =
    (g : Graph) (rows : List (List Item)) → graph_of c ≡ g → RowsFit g rows → LeftToRun c order g rows (n ∷ later) old → LeftToRun c order g rows later new

-- the run stops there
abbrev pub StopsAt : CheckedGraph → Order → ℕ → List ℕ → State → RunAnswer → Type 0
StopsAt c order n later state answer =
    (g : Graph) (rows : List (List Item)) → graph_of c ≡ g → LeftToRun c order g rows (n ∷ later) state → StopsRun answer order g (rows_at rows)
