-- Words for parts of the rules of the flat graph.
use Rattle.std.specs.Prelude.{ℕ, List, [], flat_map, Option, slice_get, Ok, Err}
use Rattle.std.specs.Option.{option_map_or}
use Rattle.spl_tree.specs.declared.expression.Placed.{Placed}
use Rattle.spl_tree.specs.declared.graph.Expansion.{Expansion}
use Rattle.spl_tree.specs.declared.graph.Graph.{Graph}
use Rattle.spl_tree.specs.declared.graph.Op.{Op}
use Rattle.spl_tree.specs.declared.unit.Definition.{Definition}
use Rattle.spl_tree.specs.Trees.{placed}
use Rattle.language_model.specs.declared.expansion.ExpansionError.TheVariants as E
use Rattle.language_model.specs.Refusals.{named_refusal}
use Rattle.language_model.specs.Declarations.{repeated}
use Rattle.language_model.specs.Expansion.{Made, Expanded}
use Rattle.language_model.specs.Numbering.{ops_from, streams_from, expansions_from}
use Rattle.language_model.specs.SinkFiles.{OpFile, op_file, is_had}

-- the operator at a number, at its invocation, by its first stream
abbrev pub label_at : Made → ℕ → Placed (List ℕ)
label_at made n = option_map_or (λ o. placed o.at o.label) (slice_get made.ops n) (placed 0 [])

abbrev pub graph_of : Made → List ℕ → Graph
graph_of made topo =
    record { ops = ops_from made 0 made.ops; streams = streams_from 0 made.ops; expansions = expansions_from made 0 made.expansions; topo = topo }

-- the first operator that can't be taken is refused
abbrev pub if_all_taken : Made → List ℕ → Option ℕ → Expanded Graph
if_all_taken made topo untaken = option_map_or (λ n. Err (named_refusal E.Loop (label_at made n))) untaken (Ok (graph_of made topo))

-- the files of sources and sinks that are in use already
abbrev pub files_had : List Definition → List (List ℕ) → List Expansion → List Op → List OpFile
files_had unit names expansions ops = repeated (is_had names) (flat_map (op_file unit expansions) ops)

abbrev pub if_none_had : Graph → Option (Placed (List ℕ)) → Expanded Graph
if_none_had g had = option_map_or (λ file. Err (named_refusal E.SameFile file)) had (Ok g)
