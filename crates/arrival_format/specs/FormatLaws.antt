-- Laws of the texts of arrival records.
use Rattle.std.specs.Prelude.{◌≡◌, ◌≤◌, ◌^◌, ◌⊎◌, ℕ, true, List, map, length, slice_get, Some, Result, Ok, Err}
use Rattle.language_model.specs.CheckedGraph.{CheckedGraph}
use Rattle.language_model.specs.Keeping.{Keeps}
use Rattle.stream_model.specs.declared.record.Arrivals.{Arrivals}
use Rattle.stream_model.specs.Arrivals.{entries_in, has_several, several}
use Rattle.stream_model.specs.CheckedMeaning.{graph_of}
use Rattle.stream_model.specs.Meaning.{Lists}
use Rattle.stream_model.specs.Operators.{Operator, connections}
use Rattle.stream_model.specs.Records.{is_whole}
use Rattle.arrival_format.specs.declared.answer.ArrivalsAnswer.{ArrivalsAnswer}
use Rattle.arrival_format.specs.declared.answer.ArrivalsAnswer.TheVariants as A
use Rattle.arrival_format.specs.ArrivalTexts.{FitsGraph, Reads, Spells, arrivals_text}

-- bytes spell at most one record, whatever bytes the operators' names have
abbrev pub OneRecordLaw : Type 0
OneRecordLaw = (c : CheckedGraph) (bytes : List ℕ) (one other : Arrivals) → Keeps c → Spells c bytes one → Spells c bytes other → one ≡ other

-- bytes have an answer: the record that they spell, or that they spell none
abbrev pub IsRead : CheckedGraph → List ℕ → Type 0
IsRead c bytes = (x : Result Arrivals ArrivalsAnswer) × Reads c bytes x × (x ≡ Err A.Memory → ⊥)

-- so all bytes do
abbrev pub SomeReadLaw : Type 0
SomeReadLaw = (c : CheckedGraph) (bytes : List ℕ) → IsRead c bytes

-- what is read of the text of a record is that record, where the text isn't too long and there is memory
abbrev pub ReadBackLaw : Type 0
ReadBackLaw = (c : CheckedGraph) (arrivals : Arrivals) (answer : Result Arrivals ArrivalsAnswer) → Keeps c → FitsGraph (graph_of c) arrivals
    → length (arrivals_text c arrivals) ≤ 2 ^ 32 → Reads c (arrivals_text c arrivals) answer → (answer ≡ Ok arrivals) ⊎ (answer ≡ Err A.Memory)

-- A record fits the graph where it has a list for each operator with several connections, and each list is whole for some lists of the
-- operator's inputs.
abbrev pub WholeRecordLaw : Type 0
WholeRecordLaw = (c : CheckedGraph) (arrivals : Arrivals) (lists : Operator → Lists) → Keeps c → map (λ l. l.op) arrivals.lists ≡ several (graph_of c)
    → ((n : ℕ) (op : Operator) → slice_get (graph_of c).ops n ≡ Some op → has_several (connections op) ≡ true
    → is_whole op (lists op) (entries_in arrivals.lists op.number) ≡ true) → FitsGraph (graph_of c) arrivals
