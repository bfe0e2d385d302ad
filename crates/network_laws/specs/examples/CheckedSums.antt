-- The source, the Filter, the Aggregate by keys and the sink as a checked program, and its plan.
use Rattle.std.specs.Prelude.{true, List, [], ◌∷◌, None, codes}
use Rattle.spl_tree.specs.declared.graph.OpKind.TheVariants as O
use Rattle.language_model.specs.declared.checked.CheckedClauses.TheVariants as A
use Rattle.language_model.specs.declared.checked.WindowRule.TheVariants as W
use Rattle.language_model.specs.CheckedGraph.{CheckedGraph}
use Rattle.stream_model.specs.declared.plan.Region.{Region}
use Rattle.stream_model.specs.examples.CheckedGraphs.{op_of}
use Rattle.stream_model.specs.examples.SomeRegions.{abv, partitioned, three}
use Rattle.region_laws.specs.examples.SomeReplicas.{keyed_region}
use Rattle.network_laws.specs.examples.KeyedNet.{abs}

abbrev pub checked_sums : CheckedGraph
checked_sums = record {
  graph = record {
    ops = op_of O.FileSource [] (0 ∷ []) ∷ op_of O.Filter ((0 ∷ []) ∷ []) (1 ∷ []) ∷ op_of O.Aggregate ((1 ∷ []) ∷ []) (2 ∷ [])
        ∷ op_of O.FileSink ((2 ∷ []) ∷ []) [] ∷ [];
    streams = record { maker = 0; port = 0 } ∷ record { maker = 1; port = 0 } ∷ record { maker = 2; port = 0 } ∷ [];
    expansions = [];
    topo = 0 ∷ 1 ∷ 2 ∷ 3 ∷ [];
  };
  schemas = abv ∷ abv ∷ abs ∷ [];
  functions = [];
  parts = A.FileSource (codes "t") true ∷ A.Filter None ∷ partitioned (W.TumblingCount 2) (0 ∷ 1 ∷ []) three
      ∷ A.FileSink (codes "o") ∷ [];
}

-- the Filter and the Aggregate are a region by the keys, which merges by pulses
abbrev pub sums_plan : List Region
sums_plan = keyed_region ∷ []
