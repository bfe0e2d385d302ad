-- A program with an Aggregate over a window for each symbol, as a tree, with its graph and its checked graph:
--
--   composite Main {
--     graph
--       stream<int64 second, rstring symbol, int32 price, boolean open> T = FileSource() { param file: "t.csv"; format: csv; }
--       stream<boolean open, int32 sum, int32 n, rstring symbol> A = Aggregate(T) {
--         window T: sliding, count(2), count(1), partitioned;
--         param groupBy: open, second; partitionBy: symbol;
--         output A: n = Count(), sum = Sum(price);
--       }
--       () as Out = FileSink(A) { param file: "o.csv"; format: csv; }
--   }
use Rattle.std.specs.Prelude.{true, List, [], ◌∷◌, Some, None, codes}
use Rattle.spl_value.specs.declared.types.IntKind.TheVariants as N
use Rattle.spl_value.specs.declared.types.SplType.TheVariants as S
use Rattle.spl_tree.specs.declared.graph.Graph.{Graph}
use Rattle.spl_tree.specs.declared.graph.OpKind.TheVariants as O
use Rattle.spl_tree.specs.declared.unit.Definition.{Definition}
use Rattle.spl_tree.specs.declared.unit.Definition.TheVariants as U
use Rattle.spl_tree.specs.declared.unit.Invocation.{Invocation}
use Rattle.spl_tree.specs.declared.unit.OutputAssignments.{OutputAssignments}
use Rattle.spl_tree.specs.declared.unit.Parameter.{Parameter}
use Rattle.spl_tree.specs.declared.unit.PortWindow.{PortWindow}
use Rattle.spl_tree.specs.Trees.{placed}
use Rattle.language_model.specs.declared.checked.CollectedAttribute.{CollectedAttribute}
use Rattle.language_model.specs.declared.checked.Collector.TheVariants as G
use Rattle.language_model.specs.declared.checked.CheckedClauses.TheVariants as A
use Rattle.language_model.specs.declared.checked.Policy.{Policy}
use Rattle.language_model.specs.declared.checked.WindowRule.TheVariants as W
use Rattle.language_model.specs.examples.FlatGraphs.{composite_of_graph, name_at, op_at}
use Rattle.language_model.specs.CheckedGraph.{CheckedGraph}
use Rattle.language_model.specs.StreamTypes.{Attributes}
use Rattle.checked_literals.specs.examples.Codes.{attribute}
use Rattle.checked_literals.specs.examples.Shapes.{attribute_at, boolean_at, call_at, field_at, int32_at, int64_at, rstring_at, file_parameters, number_at, output_of, port_at, source_at, sink_at, window_at, window_word_at, word_at}

-- ---- the tree

abbrev pub source : Invocation
source = source_at 29 (output_of 36 (
    attribute_at (int64_at 36) 42 (codes "second")
    ∷ attribute_at (rstring_at 50) 58 (codes "symbol")
    ∷ attribute_at (int32_at 66) 72 (codes "price")
    ∷ attribute_at (boolean_at 79) 87 (codes "open") ∷ []) 93 (codes "T")) 97
    (file_parameters 118 124 (codes "t.csv") 133 141)

-- sliding, count(2), count(1), partitioned
abbrev pub window : PortWindow
window =
    record {
      port = name_at 241 (codes "T");
      parts =
          window_word_at 244 (codes "sliding")
          ∷ window_at 253 (codes "count") (number_at 259 N.I32 2 ∷ [])
          ∷ window_at 263 (codes "count") (number_at 269 N.I32 1 ∷ [])
          ∷ window_word_at 273 (codes "partitioned") ∷ [];
    }

abbrev pub parameters : List Parameter
parameters =
    record { name = name_at 298 (codes "groupBy"); values = word_at 307 (codes "open") ∷ word_at 313 (codes "second") ∷ [] }
    ∷ record { name = name_at 321 (codes "partitionBy"); values = word_at 334 (codes "symbol") ∷ [] } ∷ []

-- n = Count(), sum = Sum(price)
abbrev pub output : OutputAssignments
output =
    record {
      stream = name_at 355 (codes "A");
      assignments =
          field_at 358 (codes "n") (call_at 362 (codes "Count") [])
          ∷ field_at 371 (codes "sum") (call_at 377 (codes "Sum") (word_at 381 (codes "price") ∷ [])) ∷ [];
    }

abbrev pub aggregate : Invocation
aggregate =
    record {
      at = 152;
      outputs =
          output_of 159 (
          attribute_at (boolean_at 159) 167 (codes "open")
          ∷ attribute_at (int32_at 173) 179 (codes "sum")
          ∷ attribute_at (int32_at 184) 190 (codes "n")
          ∷ attribute_at (rstring_at 193) 201 (codes "symbol") ∷ []) 209 (codes "A")
          ∷ [];
      alias = None;
      operator = name_at 213 (codes "Aggregate");
      inputs = port_at 223 (codes "T") ∷ [];
      clauses = record {
        logic = None;
        window = Some (placed 234 (window ∷ []));
        parameters = parameters;
        output = Some (placed 348 (output ∷ []));
        config = [];
      };
    }

abbrev pub sink : Invocation
sink = sink_at 399 405 (codes "Out") 411 (port_at 420 (codes "A")) (file_parameters 431 437 (codes "o.csv") 446 454)

abbrev pub summed : List Definition
summed = U.Composite (composite_of_graph (name_at 10 (codes "Main")) (source ∷ aggregate ∷ sink ∷ [])) ∷ []

-- ---- the graph

abbrev pub summed_graph : Graph
summed_graph =
    record {
      ops =
          op_at (codes "T") O.FileSource [] (0 ∷ []) 0 0 29
          ∷ op_at (codes "A") O.Aggregate ((0 ∷ []) ∷ []) (1 ∷ []) 0 1 152
          ∷ op_at (codes "Out") O.FileSink ((1 ∷ []) ∷ []) [] 0 2 399 ∷ [];
      streams = record { maker = 0; port = 0 } ∷ record { maker = 1; port = 0 } ∷ [];
      expansions = record { composite = 0; site = None; streams = 0 ∷ 1 ∷ []; inputs = [] } ∷ [];
      topo = 0 ∷ 1 ∷ 2 ∷ [];
    }

-- ---- the checked graph

abbrev pub trades : Attributes
trades =
    record { name = codes "second"; kind = S.Int N.I64 }
    ∷ record { name = codes "symbol"; kind = S.Text }
    ∷ record { name = codes "price"; kind = S.Int N.I32 }
    ∷ record { name = codes "open"; kind = S.Bool } ∷ []

abbrev pub sums : Attributes
sums =
    record { name = codes "open"; kind = S.Bool }
    ∷ record { name = codes "sum"; kind = S.Int N.I32 }
    ∷ record { name = codes "n"; kind = S.Int N.I32 }
    ∷ record { name = codes "symbol"; kind = S.Text } ∷ []

abbrev pub last_two : Policy
last_two = record { partitioned = true; rule = W.SlidingCount 2 (Some 1) }

-- the attributes that are assigned in the order of the text, and then those of the last tuple in the order of the output. Places of
-- output attributes are those in `sums`, and those of arguments in `trades`
abbrev pub collected : List CollectedAttribute
collected =
    record { attribute = 2; collector = G.Count; argument = None }
    ∷ record { attribute = 1; collector = G.Sum N.I32; argument = Some (attribute 2) }
    ∷ record { attribute = 0; collector = G.Last; argument = Some (attribute 3) }
    ∷ record { attribute = 3; collector = G.Last; argument = Some (attribute 1) } ∷ []

-- a partition for each symbol, and in it a group for each `open` with `second`, in the order of the text
abbrev pub summed_checked : CheckedGraph
summed_checked =
    record {
      graph = summed_graph;
      schemas = trades ∷ sums ∷ [];
      functions = [];
      parts = A.FileSource (codes "t.csv") true ∷ A.Aggregate last_two (1 ∷ []) (3 ∷ 0 ∷ []) collected ∷ A.FileSink (codes "o.csv") ∷ [];
    }
