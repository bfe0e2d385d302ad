-- Checked graphs, and regions of them, for worked cases of their texts.
use Rattle.std.specs.Prelude.{ℕ, List, [], ◌∷◌, codes}
use Rattle.spl_value.specs.declared.types.IntKind.TheVariants as N
use Rattle.spl_value.specs.declared.types.SplType.TheVariants as T
use Rattle.spl_tree.specs.declared.graph.Op.{Op}
use Rattle.spl_tree.specs.declared.graph.OpKind.{OpKind}
use Rattle.spl_tree.specs.declared.graph.OpKind.TheVariants as O
use Rattle.language_model.specs.CheckedGraph.{CheckedGraph}
use Rattle.language_model.specs.StreamTypes.{Attributes}
use Rattle.stream_model.specs.declared.plan.Merge.{Merge}
use Rattle.stream_model.specs.declared.plan.Region.{Region}

-- ---- graphs

abbrev pub numbers : List (List ℕ) → Attributes
numbers [] = []
numbers (name ∷ names) = record { name = name; kind = T.Int N.I64 } ∷ numbers names

abbrev pub op_of : List ℕ → OpKind → List (List ℕ) → List ℕ → Op
op_of name kind ins outs = record { name = name; kind = kind; ins = ins; outs = outs; site = record { expansion = 0; invocation = 0 }; at = 0 }

-- these operators in this topological order, and streams of these attributes
abbrev pub graph_with : List Op → List ℕ → List Attributes → CheckedGraph
graph_with ops topo schemas =
    record {
      graph = record { ops = ops; streams = []; expansions = []; topo = topo };
      schemas = schemas;
      functions = [];
      parts = [];
    }

-- a source, a Functor and an Aggregate that each read the one before, and a sink
abbrev pub row : CheckedGraph
row = graph_with
    (op_of (codes "In") O.FileSource [] (0 ∷ [])
    ∷ op_of (codes "F") O.Functor ((0 ∷ []) ∷ []) (1 ∷ [])
    ∷ op_of (codes "A") O.Aggregate ((1 ∷ []) ∷ []) (2 ∷ [])
    ∷ op_of (codes "Out") O.FileSink ((2 ∷ []) ∷ []) [] ∷ [])
    (0 ∷ 1 ∷ 2 ∷ 3 ∷ [])
    (numbers (codes "a" ∷ codes "b" ∷ codes "v" ∷ []) ∷ numbers (codes "k" ∷ codes "v" ∷ []) ∷ numbers (codes "k" ∷ []) ∷ [])

-- a source that two Filters read; a Functor and an Aggregate follow the first; both ways end in sinks
abbrev pub two_ways : CheckedGraph
two_ways = graph_with
    (op_of (codes "In") O.FileSource [] (0 ∷ [])
    ∷ op_of (codes "C1.Good") O.Filter ((0 ∷ []) ∷ []) (1 ∷ [])
    ∷ op_of (codes "C2.Good") O.Filter ((0 ∷ []) ∷ []) (2 ∷ [])
    ∷ op_of (codes "V") O.Functor ((1 ∷ []) ∷ []) (3 ∷ [])
    ∷ op_of (codes "A") O.Aggregate ((3 ∷ []) ∷ []) (4 ∷ [])
    ∷ op_of (codes "AllOut") O.FileSink ((4 ∷ []) ∷ []) []
    ∷ op_of (codes "BigOut") O.FileSink ((2 ∷ []) ∷ []) [] ∷ [])
    (0 ∷ 1 ∷ 2 ∷ 3 ∷ 4 ∷ 5 ∷ 6 ∷ [])
    (numbers (codes "ts" ∷ codes "sym" ∷ []) ∷ numbers (codes "ts" ∷ codes "sym" ∷ []) ∷ numbers (codes "ts" ∷ codes "sym" ∷ [])
    ∷ numbers (codes "sym" ∷ []) ∷ numbers (codes "sym" ∷ []) ∷ [])

-- a sink that is declared before the source whose stream it reads
abbrev pub sink_first : CheckedGraph
sink_first = graph_with
    (op_of (codes "Out") O.FileSink ((0 ∷ []) ∷ []) [] ∷ op_of (codes "In") O.FileSource [] (0 ∷ []) ∷ [])
    (1 ∷ 0 ∷ [])
    (numbers (codes "a" ∷ []) ∷ [])

-- ---- regions

-- of these operators, with this key and merge
abbrev pub region_with : List ℕ → List ℕ → Merge → Region
region_with ops key merge = record { ops = ops; key = key; merge = merge }
