-- A worked graph: a source of texts, and a sink that reads it.
use Rattle.std.specs.Prelude.{true, [], ◌∷◌, codes}
use Rattle.spl_tree.specs.declared.graph.OpKind.TheVariants as O
use Rattle.language_model.specs.declared.checked.CheckedClauses.TheVariants as A
use Rattle.language_model.specs.CheckedGraph.{CheckedGraph}
use Rattle.stream_model.specs.Meaning.{Graph}
use Rattle.stream_model.specs.Operators.{Operator}
use Rattle.stream_model.specs.examples.CheckedGraphs.{op_of, texts}

abbrev pub copying : CheckedGraph
copying =
    record {
      graph = record {
        ops = op_of O.FileSource [] (0 ∷ []) ∷ op_of O.FileSink ((0 ∷ []) ∷ []) [] ∷ [];
        streams = record { maker = 0; port = 0 } ∷ [];
        expansions = [];
        topo = 0 ∷ 1 ∷ [];
      };
      schemas = texts ∷ [];
      functions = [];
      parts = A.FileSource (codes "in") true ∷ A.FileSink (codes "out") ∷ [];
    }

-- its sink
abbrev pub writer : Operator
writer =
    record {
      number = 1;
      clauses = A.FileSink (codes "out");
      functions = [];
      types = record { ins = texts ∷ []; outs = [] };
      ins = (0 ∷ []) ∷ [];
      outs = [];
    }

-- its operators
abbrev pub copying_graph : Graph
copying_graph =
    record {
      ops = record { number = 0; clauses = A.FileSource (codes "in") true; functions = []; types = record { ins = []; outs = texts ∷ [] }; ins = []; outs = 0 ∷ [] } ∷ writer ∷ [];
      topo = 0 ∷ 1 ∷ [];
    }
