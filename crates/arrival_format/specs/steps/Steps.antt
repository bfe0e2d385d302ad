-- The parts of a text, and what is left after them.
use Prim.Native.Nat.{suc}
use Rattle.std.specs.Prelude.{◌≡◌, ◌<◌, ◌+◌, ℕ, List, [], ◌∷◌, ◌++◌, map, drop, Some, None, if◌then◌else◌}
use Rattle.std.specs.Fmt.{decimal}
use Rattle.std.specs.List.{AllByRecursion, cons_option, concat, flat_map}
use Rattle.spl_tree.specs.declared.graph.Op.{Op}
use Rattle.language_model.specs.CheckedGraph.{CheckedGraph}
use Rattle.stream_model.specs.declared.record.ArrivalList.{ArrivalList}
use Rattle.stream_model.specs.Arrivals.{has_several, several}
use Rattle.stream_model.specs.CheckedMeaning.{graph_of}
use Rattle.arrival_format.specs.ArrivalTexts.{AreInputs, connection_count, inputs_text, line_text}

abbrev pub NoDigitFirst : List ℕ → Type 0
NoDigitFirst bytes = (d : ℕ) (rest : List ℕ) → d < 10 → bytes ≡ (48 + d) ∷ rest → ⊥

-- bytes begin with a number below the bound, and no digit follows it
pub record BeginsWithNumber (bytes : List ℕ) (bound number : ℕ) (rest : List ℕ) : Type 0 where
  pub below : number < bound
  pub text : bytes ≡ decimal number ++ rest
  pub ended : NoDigitFirst rest

-- a line goes on with these numbers to its end
pub record IsLineEnd (bytes : List ℕ) (bound : ℕ) (inputs rest : List ℕ) : Type 0 where
  pub inputs_are : AreInputs bound inputs
  pub text : bytes ≡ inputs_text inputs ++ 10 ∷ rest

-- bytes begin with the line of this name and these numbers
pub record IsLine (name : List ℕ) (bound : ℕ) (bytes inputs rest : List ℕ) : Type 0 where
  pub inputs_are : AreInputs bound inputs
  pub text : bytes ≡ name ++ (inputs_text inputs ++ 10 ∷ rest)

-- the numbers of the operators with several connections, where the first of these has number n
abbrev pub several_from : ℕ → List Op → List ℕ
several_from n [] = []
several_from n (op ∷ ops) = cons_option (if has_several (concat op.ins) then Some n else None) (several_from (suc n) ops)

-- bytes are the lines of a record
pub record AreLines (c : CheckedGraph) (bytes : List ℕ) (lists : List ArrivalList) : Type 0 where
  pub ops : map (λ l. l.op) lists ≡ several (graph_of c)
  pub inputs : AllByRecursion (λ l. AreInputs (connection_count (graph_of c) l.op) l.inputs) lists
  pub text : bytes ≡ flat_map (line_text c) lists

-- the lines of the operators before this number are read, and the rest is left
pub record AreReadUpTo (c : CheckedGraph) (n : ℕ) (bytes : List ℕ) (lists : List ArrivalList) (rest : List ℕ) : Type 0 where
  pub ops : several (graph_of c) ≡ map (λ l. l.op) lists ++ several_from n (drop n c.graph.ops)
  pub inputs : AllByRecursion (λ l. AreInputs (connection_count (graph_of c) l.op) l.inputs) lists
  pub text : bytes ≡ flat_map (line_text c) lists ++ rest
