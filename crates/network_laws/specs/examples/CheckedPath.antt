-- The same source, filter and sink as a checked program, and its plan; and a plan of a program with two filters in a row.
use Rattle.std.specs.Prelude.{true, List, [], ◌∷◌, None, codes}
use Rattle.spl_tree.specs.declared.graph.OpKind.TheVariants as O
use Rattle.language_model.specs.declared.checked.CheckedClauses.TheVariants as A
use Rattle.language_model.specs.CheckedGraph.{CheckedGraph}
use Rattle.stream_model.specs.declared.plan.Merge.TheVariants as M
use Rattle.stream_model.specs.declared.plan.Region.{Region}
use Rattle.stream_model.specs.examples.CheckedGraphs.{op_of, texts}

abbrev pub checked_path : CheckedGraph
checked_path = record {
  graph = record {
    ops = op_of O.FileSource [] (0 ∷ []) ∷ op_of O.Filter ((0 ∷ []) ∷ []) (1 ∷ []) ∷ op_of O.FileSink ((1 ∷ []) ∷ []) [] ∷ [];
    streams = record { maker = 0; port = 0 } ∷ record { maker = 1; port = 0 } ∷ [];
    expansions = [];
    topo = 0 ∷ 1 ∷ 2 ∷ [];
  };
  schemas = texts ∷ texts ∷ [];
  functions = [];
  parts = A.FileSource (codes "in") true ∷ A.Filter None ∷ A.FileSink (codes "out") ∷ [];
}

-- the filter is a region, which merges by turns
abbrev pub path_plan : List Region
path_plan = record { ops = 1 ∷ []; key = []; merge = M.Turns } ∷ []

-- of a program with two filters in a row, of which the first has a condition: they are one region, which merges by pulses
abbrev pub chain_plan : List Region
chain_plan = record { ops = 1 ∷ 2 ∷ []; key = []; merge = M.Pulses } ∷ []
