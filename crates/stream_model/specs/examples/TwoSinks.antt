-- Graphs of sources and sinks, for examples of how runs end.
use Rattle.std.specs.Prelude.{ℕ, ◌==◌, true, List, [], ◌∷◌, if◌then◌else◌, Option}
use Rattle.spl_value.specs.declared.item.Fault.{Fault}
use Rattle.spl_value.specs.declared.item.FaultKind.TheVariants as K
use Rattle.spl_value.specs.declared.item.Item.{Item}
use Rattle.language_model.specs.declared.checked.CheckedClauses.TheVariants as P
use Rattle.stream_model.specs.Operators.{Operator}
use Rattle.stream_model.specs.examples.SomeOperators.{operator_of}
use Rattle.stream_model.specs.Meaning.{Graph, Lists, meaning}
use Rattle.stream_model.specs.Ends.{run_fault}

-- a source that makes a stream, and a sink that reads one
abbrev pub source : ℕ → ℕ → Operator
source n s = operator_of n (P.FileSource [] true) [] (s ∷ [])

abbrev pub sink : ℕ → ℕ → Operator
sink n s = operator_of n (P.FileSink []) ((s ∷ []) ∷ []) []

-- two sources, and sinks of the second one's stream and of the first one's
abbrev pub two_sinks : Graph
two_sinks = record { ops = source 0 0 ∷ source 1 1 ∷ sink 2 1 ∷ sink 3 0 ∷ []; topo = 0 ∷ 1 ∷ 2 ∷ 3 ∷ [] }

-- two sources, and a sink of the second one's stream
abbrev pub unread_source : Graph
unread_source = record { ops = source 0 0 ∷ source 1 1 ∷ sink 2 1 ∷ []; topo = 0 ∷ 1 ∷ 2 ∷ [] }

abbrev pub bad_row : ℕ → Fault
bad_row n = record { op = n; kind = K.BadRow; line = 1 }

-- the rows of the first source and of all others
abbrev pub rows_of_two : (first second : List Item) → Lists
rows_of_two first second n = if n == 0 then first else second

-- the fault of a run of these rows, where no operator has several connections
abbrev pub fault_of_run : Graph → (first second : List Item) → Option Fault
fault_of_run g first second = run_fault g (meaning g (rows_of_two first second) (λ n. []))
