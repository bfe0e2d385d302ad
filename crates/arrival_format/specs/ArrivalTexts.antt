-- Arrival records as text: the line `arrivals 1`, and then a line for each operator with several connections, in the
-- order of the operators. It has the operator's name and the numbers of its inputs, each after a blank. Each line ends
-- with a line feed.
use Rattle.std.specs.Prelude.{◌≡◌, ◌<◌, ◌≤◌, ◌^◌, ⊤, ℕ, List, [], ◌∷◌, ◌++◌, map, length, codes, slice_get, Result, Ok, Err}
use Rattle.std.specs.Fmt.{decimal}
use Rattle.std.specs.List.{AllByRecursion, flat_map}
use Rattle.std.specs.Option.{option_map_or}
use Rattle.language_model.specs.CheckedGraph.{CheckedGraph}
use Rattle.stream_model.specs.declared.record.ArrivalList.{ArrivalList}
use Rattle.stream_model.specs.declared.record.Arrivals.{Arrivals}
use Rattle.stream_model.specs.Arrivals.{several}
use Rattle.stream_model.specs.CheckedMeaning.{graph_of}
use Rattle.stream_model.specs.Meaning.{Graph}
use Rattle.stream_model.specs.Operators.{connections}
use Rattle.arrival_format.specs.declared.answer.ArrivalsAnswer.{ArrivalsAnswer}
use Rattle.arrival_format.specs.declared.answer.ArrivalsAnswer.TheVariants as A

-- ---- the text of a record

-- the name of the operator with this number; nothing where there is no such operator
abbrev pub name_at : CheckedGraph → ℕ → List ℕ
name_at c n = option_map_or (λ op. op.name) (slice_get c.graph.ops n) []

-- numbers without leading zeros, each after a blank
abbrev pub inputs_text : List ℕ → List ℕ
inputs_text inputs = flat_map (λ i. 32 ∷ decimal i) inputs

abbrev pub line_text : CheckedGraph → ArrivalList → List ℕ
line_text c l = name_at c l.op ++ inputs_text l.inputs ++ codes "\n"

abbrev pub arrivals_text : CheckedGraph → Arrivals → List ℕ
arrivals_text c arrivals = codes "arrivals 1\n" ++ flat_map (line_text c) arrivals.lists

-- ---- what is spelled

-- how many connections the operator with this number has; none where there is no such operator
abbrev pub connection_count : Graph → ℕ → ℕ
connection_count g n = option_map_or (λ op. length (connections op)) (slice_get g.ops n) 0

-- one number or more, each below this one
pub record AreInputs (count : ℕ) (inputs : List ℕ) : Type 0 where
  pub some : 0 < length inputs
  pub below : AllByRecursion (λ i. i < count) inputs

-- a list of inputs for each operator with several connections, in the order of the operators
pub record FitsGraph (g : Graph) (arrivals : Arrivals) : Type 0 where
  pub lists : map (λ l. l.op) arrivals.lists ≡ several g
  pub inputs : AllByRecursion (λ l. AreInputs (connection_count g l.op) l.inputs) arrivals.lists

-- at most 2^32 bytes spell a record: they are its text
pub record Spells (c : CheckedGraph) (bytes : List ℕ) (arrivals : Arrivals) : Type 0 where
  pub made : FitsGraph (graph_of c) arrivals
  pub text : bytes ≡ arrivals_text c arrivals
  pub short : length bytes ≤ 2 ^ 32

-- what is answered to bytes: the record that they spell, or that they spell none
abbrev pub Reads : CheckedGraph → List ℕ → Result Arrivals ArrivalsAnswer → Type 0
Reads c bytes (Ok arrivals) = Spells c bytes arrivals
Reads c bytes (Err A.Bad) = (arrivals : Arrivals) → Spells c bytes arrivals → ⊥
Reads c bytes (Err A.Memory) = ⊤
