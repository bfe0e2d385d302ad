-- Tables of the streams that the names of bodies mean, and what is numbered by them.
use Rattle.std.specs.Prelude.{ℕ, suc, ◌+◌, List, [], ◌∷◌, map, filter_map, Option, slice_get}
use Rattle.std.specs.Option.{option_and_then, option_map_or}
use Rattle.spl_tree.specs.declared.graph.Expansion.{Expansion}
use Rattle.spl_tree.specs.declared.graph.InputStreams.{InputStreams}
use Rattle.spl_tree.specs.declared.graph.Op.{Op}
use Rattle.language_model.specs.declared.expansion.Operation.{Operation}
use Rattle.language_model.specs.declared.expansion.Source.{Source}
use Rattle.language_model.specs.Numbering.{numbers_from}
use Rattle.composite_tables.specs.declared.made.Body.{Body}
use Rattle.composite_tables.specs.declared.made.Input.{Input}

-- for each body, by their numbers, the streams of the names of its graph
abbrev pub Table : Type 0
Table = List (List (Option ℕ))

abbrev pub stream_in : Table → Source → Option ℕ
stream_in table x = option_and_then (λ row. option_and_then (λ s. s) (slice_get row x.place)) (slice_get table x.expansion)

-- an operator, its first stream at a number
abbrev pub op_in : Table → ℕ → Operation → Op
op_in table first op =
    record {
      name = op.name;
      kind = op.kind;
      ins = map (filter_map (stream_in table)) op.ins;
      outs = numbers_from first op.outputs;
      site = op.site;
      at = op.at;
    }

-- operators one after another, the first stream at a number
abbrev pub ops_in : Table → ℕ → List Operation → List Op
ops_in table first [] = []
ops_in table first (op ∷ ops) = op_in table first op ∷ ops_in table (first + op.outputs) ops

abbrev pub row_in : {A : Type 0} → List (List A) → ℕ → List A
row_in rows number = option_map_or (λ row. row) (slice_get rows number) []

abbrev pub input_in : Table → Input → InputStreams
input_in table i = record { count = i.count; first = option_map_or (λ s. s) (option_and_then (stream_in table) i.first) 0 }

-- the body of a number, the rows of the inputs given
abbrev pub expansion_in : Table → List (List Input) → ℕ → Body → Expansion
expansion_in table rows number b =
    record {
      composite = b.composite;
      site = b.site;
      streams = filter_map (λ s. s) (row_in table number);
      inputs = map (input_in table) (row_in rows number);
    }

abbrev pub expansions_in : Table → List (List Input) → ℕ → List Body → List Expansion
expansions_in table rows number [] = []
expansions_in table rows number (b ∷ bs) = expansion_in table rows number b ∷ expansions_in table rows (suc number) bs
