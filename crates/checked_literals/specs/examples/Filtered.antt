-- The first program, as a tree, with its graph and its checked graph:
--
--   composite Main {
--     graph
--       stream<int64 price> T = FileSource() { param file: "t.csv"; format: csv; }
--       stream<int64 price> B = Filter(T) { param filter: price > 10l; }
--       () as Out = FileSink(B) { param file: "o.csv"; format: csv; }
--   }
use Rattle.std.specs.Prelude.{◌++◌, ℕ, true, List, [], ◌∷◌, Some, None, codes}
use Rattle.spl_value.specs.declared.types.IntKind.TheVariants as N
use Rattle.spl_value.specs.declared.types.SplType.TheVariants as S
use Rattle.spl_tree.specs.declared.code.BinaryCode.TheVariants as D
use Rattle.spl_tree.specs.declared.code.Code.{Code}
use Rattle.spl_tree.specs.declared.code.Code.TheVariants as C
use Rattle.spl_tree.specs.declared.code.OrderOperator.TheVariants.{Greater}
use Rattle.spl_tree.specs.declared.code.Slot.{Slot}
use Rattle.spl_tree.specs.declared.expression.BinaryOperator.TheVariants as B
use Rattle.spl_tree.specs.declared.expression.ExprKind.TheVariants as E
use Rattle.spl_tree.specs.declared.graph.Graph.{Graph}
use Rattle.spl_tree.specs.declared.graph.OpKind.TheVariants as O
use Rattle.spl_tree.specs.declared.unit.Definition.{Definition}
use Rattle.spl_tree.specs.declared.unit.Definition.TheVariants as U
use Rattle.spl_tree.specs.declared.unit.Invocation.{Invocation}
use Rattle.spl_tree.specs.Trees.{Expr, placed}
use Rattle.language_model.specs.declared.checked.CheckedClauses.TheVariants as A
use Rattle.language_model.specs.examples.FlatGraphs.{composite_of_graph, name_at, op_at}
use Rattle.language_model.specs.CheckedGraph.{CheckedGraph}
use Rattle.language_model.specs.StreamTypes.{Attributes}
use Rattle.checked_literals.specs.examples.Codes.{attribute, number}
use Rattle.checked_literals.specs.examples.Shapes.{attribute_at, int64_at, file_parameters, number_at, output_of, port_at, source_at, sink_at, with_parameters}

-- ---- the text

abbrev pub filtered_text : List ℕ
filtered_text =
    codes "composite Main {\n"
    ++ codes "  graph\n"
    ++ codes "    stream<int64 price> T = FileSource() { param file: \"t.csv\"; format: csv; }\n"
    ++ codes "    stream<int64 price> B = Filter(T) { param filter: price > 10l; }\n"
    ++ codes "    () as Out = FileSink(B) { param file: \"o.csv\"; format: csv; }\n"
    ++ codes "}"

-- ---- the tree

abbrev pub source : Invocation
source = source_at 29 (output_of 36 (attribute_at (int64_at 36) 42 (codes "price") ∷ []) 49 (codes "T")) 53
    (file_parameters 74 80 (codes "t.csv") 89 97)

-- price > 10l
abbrev pub condition : Expr
condition = placed 158 (E.Binary B.Greater (placed 158 (E.Name (codes "price"))) (number_at 166 N.I64 10))

abbrev pub filter : Invocation
filter =
    record {
      at = 108;
      outputs = output_of 115 (attribute_at (int64_at 115) 121 (codes "price") ∷ []) 128 (codes "B") ∷ [];
      alias = None;
      operator = name_at 132 (codes "Filter");
      inputs = port_at 139 (codes "T") ∷ [];
      clauses = with_parameters (record { name = name_at 150 (codes "filter"); values = condition ∷ [] } ∷ []);
    }

abbrev pub sink : Invocation
sink = sink_at 177 183 (codes "Out") 189 (port_at 198 (codes "B")) (file_parameters 209 215 (codes "o.csv") 224 232)

abbrev pub filtered : List Definition
filtered = U.Composite (composite_of_graph (name_at 10 (codes "Main")) (source ∷ filter ∷ sink ∷ [])) ∷ []

-- ---- the graph

abbrev pub filtered_graph : Graph
filtered_graph =
    record {
      ops =
          op_at (codes "T") O.FileSource [] (0 ∷ []) 0 0 29
          ∷ op_at (codes "B") O.Filter ((0 ∷ []) ∷ []) (1 ∷ []) 0 1 108
          ∷ op_at (codes "Out") O.FileSink ((1 ∷ []) ∷ []) [] 0 2 177 ∷ [];
      streams = record { maker = 0; port = 0 } ∷ record { maker = 1; port = 0 } ∷ [];
      expansions = record { composite = 0; site = None; streams = 0 ∷ 1 ∷ []; inputs = [] } ∷ [];
      topo = 0 ∷ 1 ∷ 2 ∷ [];
    }

-- ---- the checked graph

abbrev pub prices : Attributes
prices = record { name = codes "price"; kind = S.Int N.I64 } ∷ []

-- the first attribute at the first port, and the number 10
abbrev pub is_above : Code Slot
is_above = C.Binary (D.Order Greater) (attribute 0) (number 10)

abbrev pub filtered_checked : CheckedGraph
filtered_checked =
    record {
      graph = filtered_graph;
      schemas = prices ∷ prices ∷ [];
      functions = [];
      parts = A.FileSource (codes "t.csv") true ∷ A.Filter (Some is_above) ∷ A.FileSink (codes "o.csv") ∷ [];
    }
