-- A checked graph with an operator of two connections, and records for it.
use Rattle.std.specs.Prelude.{ℕ, true, List, [], ◌∷◌, codes}
use Rattle.spl_tree.specs.declared.graph.Op.{Op}
use Rattle.spl_tree.specs.declared.graph.OpKind.{OpKind}
use Rattle.spl_tree.specs.declared.graph.OpKind.TheVariants as O
use Rattle.spl_value.specs.declared.types.IntKind.TheVariants as N
use Rattle.spl_value.specs.declared.types.SplType.TheVariants as T
use Rattle.language_model.specs.declared.checked.CheckedClauses.TheVariants as P
use Rattle.language_model.specs.CheckedGraph.{CheckedGraph}
use Rattle.language_model.specs.StreamTypes.{Attributes}
use Rattle.stream_model.specs.declared.record.Arrivals.{Arrivals}

abbrev pub op_named : List ℕ → OpKind → List (List ℕ) → List ℕ → Op
op_named name kind ins outs = record { name = name; kind = kind; ins = ins; outs = outs; site = record { expansion = 0; invocation = 0 }; at = 0 }

abbrev pub numbers : Attributes
numbers = record { name = codes "n"; kind = T.Int N.I64 } ∷ []

-- two sources, a Union of both, and a sink
abbrev pub two_streams : CheckedGraph
two_streams =
    record {
      graph = record {
        ops = op_named (codes "A") O.FileSource [] (0 ∷ []) ∷ op_named (codes "B") O.FileSource [] (1 ∷ [])
            ∷ op_named (codes "U") O.Union ((0 ∷ []) ∷ (1 ∷ []) ∷ []) (2 ∷ []) ∷ op_named (codes "Out") O.FileSink ((2 ∷ []) ∷ []) [] ∷ [];
        streams = record { maker = 0; port = 0 } ∷ record { maker = 1; port = 0 } ∷ record { maker = 2; port = 0 } ∷ [];
        expansions = [];
        topo = 0 ∷ 1 ∷ 2 ∷ 3 ∷ [];
      };
      schemas = numbers ∷ numbers ∷ numbers ∷ [];
      functions = [];
      parts = P.FileSource (codes "a.csv") true ∷ P.FileSource (codes "b.csv") true ∷ P.Union ((0 ∷ []) ∷ (0 ∷ []) ∷ []) ∷ P.FileSink (codes "o.csv") ∷ [];
    }

-- a record of the inputs of the Union alone
abbrev pub of_union : List ℕ → Arrivals
of_union inputs = record { lists = record { op = 2; inputs = inputs } ∷ [] }
