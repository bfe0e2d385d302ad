-- Laws of the graphs of checked programs, and of what they mean under records.
use Rattle.std.specs.Prelude.{◌≡◌, ℕ, true, Some, slice_get}
use Rattle.language_model.specs.CheckedGraph.{CheckedGraph}
use Rattle.language_model.specs.Keeping.{Keeps}
use Rattle.stream_model.specs.Arrivals.{has_several}
use Rattle.stream_model.specs.CheckedMeaning.{graph_of}
use Rattle.stream_model.specs.Laws.{IsNumbered, IsOrdered}
use Rattle.stream_model.specs.Meaning.{Graph, Lists, Entries, in_topo, meaning}
use Rattle.stream_model.specs.Operators.{Operator, connections}

-- the operators of a checked graph can be taken in its order, and have the numbers of their places
abbrev pub OrderedLaw : Type 0
OrderedLaw = (c : CheckedGraph) (g : Graph) → Keeps c → graph_of c ≡ g → IsOrdered (in_topo g) × IsNumbered g

-- what a graph means under a record depends on the entries of its operators with several connections alone
abbrev pub SameRecordsLaw : Type 0
SameRecordsLaw = (g : Graph) (rows : Lists) (first second : Entries) → IsNumbered g
    → ((n : ℕ) (op : Operator) → slice_get g.ops n ≡ Some op → has_several (connections op) ≡ true
    → first op.number ≡ second op.number)
    → meaning g rows first ≡ meaning g rows second
