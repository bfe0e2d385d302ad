-- A program with a Join, whose operators don't stand in the order in which they read each other, as a tree, with its graph and its
-- checked graph:
--
--   composite Main {
--     graph
--       () as Out = FileSink(J) { param file: "o.csv"; format: csv; }
--       stream<int64 second, rstring symbol, int64 price> T = FileSource() { param file: "t.csv"; format: csv; }
--       stream<int64 worth, int64 second, rstring symbol, int64 amount> J = Join(T as Trade; U) {
--         window U: sliding, count(0); Trade: sliding, delta(second, 60l);
--         param match: Trade.symbol == U.symbol && price <= limit;
--         output J: worth = price * amount, symbol = U.symbol;
--       }
--       stream<rstring symbol, int64 amount, int64 limit> U = FileSource() { param file: "u.csv"; parsing: permissive; }
--   }
use Rattle.std.specs.Prelude.{ℕ, pos, true, false, List, [], ◌∷◌, Some, None, codes}
use Rattle.spl_value.specs.declared.types.IntKind.TheVariants as N
use Rattle.spl_value.specs.declared.types.SplType.TheVariants as S
use Rattle.spl_tree.specs.declared.code.BinaryCode.TheVariants as D
use Rattle.spl_tree.specs.declared.code.Code.{Code}
use Rattle.spl_tree.specs.declared.code.Code.TheVariants as C
use Rattle.spl_tree.specs.declared.code.IntegerOperator.TheVariants.{Multiply}
use Rattle.spl_tree.specs.declared.code.OrderOperator.TheVariants.{LessOrEqual}
use Rattle.spl_tree.specs.declared.code.Slot.{Slot}
use Rattle.spl_tree.specs.declared.code.Slot.TheVariants as L
use Rattle.spl_tree.specs.declared.expression.BinaryOperator.TheVariants as B
use Rattle.spl_tree.specs.declared.expression.ExprKind.TheVariants as E
use Rattle.spl_tree.specs.declared.graph.Graph.{Graph}
use Rattle.spl_tree.specs.declared.graph.OpKind.TheVariants as O
use Rattle.spl_tree.specs.declared.unit.Definition.{Definition}
use Rattle.spl_tree.specs.declared.unit.Definition.TheVariants as U
use Rattle.spl_tree.specs.declared.unit.Invocation.{Invocation}
use Rattle.spl_tree.specs.declared.unit.OutputAssignments.{OutputAssignments}
use Rattle.spl_tree.specs.declared.unit.PortWindow.{PortWindow}
use Rattle.spl_tree.specs.Trees.{Expr, placed}
use Rattle.language_model.specs.declared.checked.CheckedClauses.TheVariants as A
use Rattle.language_model.specs.declared.checked.Policy.{Policy}
use Rattle.language_model.specs.declared.checked.WindowRule.TheVariants as W
use Rattle.language_model.specs.examples.FlatGraphs.{composite_of_graph, name_at, op_at}
use Rattle.language_model.specs.CheckedGraph.{CheckedGraph}
use Rattle.language_model.specs.StreamTypes.{Attributes}
use Rattle.checked_literals.specs.examples.Codes.{attribute}
use Rattle.checked_literals.specs.examples.Shapes.{attribute_at, field_at, int64_at, member_at, rstring_at, file_parameters, number_at, output_of, parameter_at, port_at, source_at, sink_at, window_at, window_word_at, word_at}

-- ---- the tree

abbrev pub sink : Invocation
sink = sink_at 29 35 (codes "Out") 41 (port_at 50 (codes "J")) (file_parameters 61 67 (codes "o.csv") 76 84)

abbrev pub left_source : Invocation
left_source = source_at 95 (output_of 102 (
    attribute_at (int64_at 102) 108 (codes "second")
    ∷ attribute_at (rstring_at 116) 124 (codes "symbol")
    ∷ attribute_at (int64_at 132) 138 (codes "price") ∷ []) 145 (codes "T")) 149
    (file_parameters 170 176 (codes "t.csv") 185 193)

-- U: sliding, count(0)
abbrev pub right_window : PortWindow
right_window =
    record {
      port = name_at 307 (codes "U");
      parts = window_word_at 310 (codes "sliding") ∷ window_at 319 (codes "count") (number_at 325 N.I32 0 ∷ []) ∷ [];
    }

-- Trade: sliding, delta(second, 60l)
abbrev pub left_window : PortWindow
left_window =
    record {
      port = name_at 329 (codes "Trade");
      parts =
          window_word_at 336 (codes "sliding")
          ∷ window_at 345 (codes "delta") (word_at 351 (codes "second") ∷ number_at 359 N.I64 60 ∷ []) ∷ [];
    }

-- Trade.symbol == U.symbol && price <= limit
abbrev pub condition : Expr
condition = placed 384 (E.Binary B.And
    (placed 384 (E.Binary B.Equal (member_at 384 (codes "Trade") 390 (codes "symbol")) (member_at 400 (codes "U") 402 (codes "symbol"))))
    (placed 412 (E.Binary B.LessOrEqual (word_at 412 (codes "price")) (word_at 421 (codes "limit")))))

-- worth = price * amount, symbol = U.symbol
abbrev pub output : OutputAssignments
output =
    record {
      stream = name_at 441 (codes "J");
      assignments =
          field_at 444 (codes "worth") (placed 452 (E.Binary B.Multiply (word_at 452 (codes "price")) (word_at 460 (codes "amount"))))
          ∷ field_at 468 (codes "symbol") (member_at 477 (codes "U") 479 (codes "symbol")) ∷ [];
    }

abbrev pub join : Invocation
join =
    record {
      at = 204;
      outputs =
          output_of 211 (
          attribute_at (int64_at 211) 217 (codes "worth")
          ∷ attribute_at (int64_at 224) 230 (codes "second")
          ∷ attribute_at (rstring_at 238) 246 (codes "symbol")
          ∷ attribute_at (int64_at 254) 260 (codes "amount") ∷ []) 268 (codes "J")
          ∷ [];
      alias = None;
      operator = name_at 272 (codes "Join");
      inputs =
          record { streams = name_at 277 (codes "T") ∷ []; alias = Some (name_at 282 (codes "Trade")) }
          ∷ port_at 289 (codes "U") ∷ [];
      clauses = record {
        logic = None;
        window = Some (placed 300 (right_window ∷ left_window ∷ []));
        parameters = parameter_at 377 (codes "match") condition ∷ [];
        output = Some (placed 434 (output ∷ []));
        config = [];
      };
    }

abbrev pub right_source : Invocation
right_source = source_at 497 (output_of 504 (
    attribute_at (rstring_at 504) 512 (codes "symbol")
    ∷ attribute_at (int64_at 520) 526 (codes "amount")
    ∷ attribute_at (int64_at 534) 540 (codes "limit") ∷ []) 547 (codes "U")) 551
    (parameter_at 572 (codes "file") (placed 578 (E.Text (codes "u.csv")))
    ∷ parameter_at 587 (codes "parsing") (word_at 596 (codes "permissive")) ∷ [])

abbrev pub joined : List Definition
joined = U.Composite (composite_of_graph (name_at 10 (codes "Main")) (sink ∷ left_source ∷ join ∷ right_source ∷ [])) ∷ []

-- ---- the graph

-- the sink reads the Join's stream, and that the streams of both sources, of which the second stands after it
abbrev pub joined_graph : Graph
joined_graph =
    record {
      ops =
          op_at (codes "Out") O.FileSink ((1 ∷ []) ∷ []) [] 0 0 29
          ∷ op_at (codes "T") O.FileSource [] (0 ∷ []) 0 1 95
          ∷ op_at (codes "J") O.Join ((0 ∷ []) ∷ (2 ∷ []) ∷ []) (1 ∷ []) 0 2 204
          ∷ op_at (codes "U") O.FileSource [] (2 ∷ []) 0 3 497 ∷ [];
      streams = record { maker = 1; port = 0 } ∷ record { maker = 2; port = 0 } ∷ record { maker = 3; port = 0 } ∷ [];
      expansions = record { composite = 0; site = None; streams = 0 ∷ 1 ∷ 2 ∷ []; inputs = [] } ∷ [];
      topo = 1 ∷ 3 ∷ 2 ∷ 0 ∷ [];
    }

-- ---- the checked graph

abbrev pub trades : Attributes
trades =
    record { name = codes "second"; kind = S.Int N.I64 }
    ∷ record { name = codes "symbol"; kind = S.Text }
    ∷ record { name = codes "price"; kind = S.Int N.I64 } ∷ []

abbrev pub orders : Attributes
orders =
    record { name = codes "symbol"; kind = S.Text }
    ∷ record { name = codes "amount"; kind = S.Int N.I64 }
    ∷ record { name = codes "limit"; kind = S.Int N.I64 } ∷ []

abbrev pub pairs : Attributes
pairs =
    record { name = codes "worth"; kind = S.Int N.I64 }
    ∷ record { name = codes "second"; kind = S.Int N.I64 }
    ∷ record { name = codes "symbol"; kind = S.Text }
    ∷ record { name = codes "amount"; kind = S.Int N.I64 } ∷ []

-- an attribute of a trade, at the first port, and of an order, at the second
abbrev pub of_trade : ℕ → Code Slot
of_trade = attribute

abbrev pub of_order : ℕ → Code Slot
of_order place = C.Name (L.Attribute 1 place)

-- the windows stand in the order of the ports
abbrev pub last_minute : Policy
last_minute = record { partitioned = false; rule = W.SlidingDelta 0 (pos 60) None }

abbrev pub nothing_kept : Policy
nothing_kept = record { partitioned = false; rule = W.SlidingCount 0 None }

abbrev pub matches : Code Slot
matches = C.Binary D.And (C.Binary D.Equal (of_trade 1) (of_order 0)) (C.Binary (D.Order LessOrEqual) (of_trade 2) (of_order 2))

-- the attributes that are assigned in the order of the text, and then the others, each of the port that has it
abbrev pub pair : Code Slot
pair = C.Tuple ((0, C.Binary (D.Integers Multiply N.I64) (of_trade 2) (of_order 1)) ∷ (2, of_order 0) ∷ (1, of_trade 0) ∷ (3, of_order 1) ∷ [])

-- parsing is strict where nothing else is said
abbrev pub joined_checked : CheckedGraph
joined_checked =
    record {
      graph = joined_graph;
      schemas = trades ∷ pairs ∷ orders ∷ [];
      functions = [];
      parts =
          A.FileSink (codes "o.csv")
          ∷ A.FileSource (codes "t.csv") true
          ∷ A.Join last_minute nothing_kept (Some matches) pair
          ∷ A.FileSource (codes "u.csv") false ∷ [];
    }
