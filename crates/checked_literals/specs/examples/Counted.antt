-- A program with the source of the first one and a Custom, which keeps a sum and a count, as a tree, with its graph and its checked
-- graph:
--
--   composite Main {
--     graph
--       stream<int64 price> T = FileSource() { param file: "t.csv"; format: csv; }
--       stream<int64 count, int64 total> C = Custom(T) {
--         logic
--           state: { mutable int64 sum = 5l; mutable int64 seen; }
--           onTuple T: {
--             int64 now = sum + price;
--             sum = now;
--             seen += 1l;
--             submit({total = now, count = seen}, C);
--           }
--       }
--       () as Out = FileSink(C) { param file: "o.csv"; format: csv; }
--   }
use Rattle.std.specs.Prelude.{true, false, List, [], ◌∷◌, Some, None, codes}
use Rattle.spl_value.specs.declared.types.IntKind.TheVariants as N
use Rattle.spl_value.specs.declared.types.SplType.TheVariants as S
use Rattle.spl_tree.specs.declared.body.Change.TheVariants as H
use Rattle.spl_tree.specs.declared.body.Statement.{Statement}
use Rattle.spl_tree.specs.declared.body.Statement.TheVariants as T
use Rattle.spl_tree.specs.declared.code.BinaryCode.TheVariants as D
use Rattle.spl_tree.specs.declared.code.Code.TheVariants as C
use Rattle.spl_tree.specs.declared.code.IntegerOperator.TheVariants.{Add}
use Rattle.spl_tree.specs.declared.expression.BinaryOperator.TheVariants as B
use Rattle.spl_tree.specs.declared.expression.ExprKind.TheVariants as E
use Rattle.spl_tree.specs.declared.graph.Graph.{Graph}
use Rattle.spl_tree.specs.declared.graph.OpKind.TheVariants as O
use Rattle.spl_tree.specs.declared.statement.Declaration.{Declaration}
use Rattle.spl_tree.specs.declared.statement.StmtKind.TheVariants as M
use Rattle.spl_tree.specs.declared.unit.Definition.{Definition}
use Rattle.spl_tree.specs.declared.unit.Definition.TheVariants as U
use Rattle.spl_tree.specs.declared.unit.HandledEvent.TheVariants as W
use Rattle.spl_tree.specs.declared.unit.Handler.{Handler}
use Rattle.spl_tree.specs.declared.unit.Invocation.{Invocation}
use Rattle.spl_tree.specs.declared.unit.Logic.{Logic}
use Rattle.spl_tree.specs.Trees.{Expr, placed, Stmt}
use Rattle.language_model.specs.declared.checked.Handlers.{Handlers}
use Rattle.language_model.specs.declared.checked.CheckedClauses.TheVariants as A
use Rattle.language_model.specs.declared.checked.StateVariable.{StateVariable}
use Rattle.language_model.specs.examples.FlatGraphs.{composite_of_graph, name_at, op_at}
use Rattle.language_model.specs.CheckedGraph.{CheckedGraph}
use Rattle.language_model.specs.StreamTypes.{Attributes}
use Rattle.checked_literals.specs.examples.Codes.{attribute, number, variable}
use Rattle.checked_literals.specs.examples.Filtered.{prices, source}
use Rattle.checked_literals.specs.examples.Shapes.{attribute_at, int64_at, file_parameters, number_at, output_of, port_at, sink_at, word_at}

-- ---- the tree

abbrev pub sum : Declaration
sum = record { mutable = true; kind = int64_at 194; name = name_at 200 (codes "sum"); value = Some (number_at 206 N.I64 5) }

abbrev pub seen : Declaration
seen = record { mutable = true; kind = int64_at 218; name = name_at 224 (codes "seen"); value = None }

-- int64 now = sum + price;
abbrev pub declares : Stmt
declares =
    placed 263 (M.Declare (record {
      mutable = false;
      kind = int64_at 263;
      name = name_at 269 (codes "now");
      value = Some (placed 275 (E.Binary B.Add (word_at 275 (codes "sum")) (word_at 281 (codes "price"))));
    }))

-- sum = now;
abbrev pub assigns : Stmt
assigns = placed 298 (M.Assign (word_at 298 (codes "sum")) None (word_at 304 (codes "now")))

-- seen += 1l;
abbrev pub counts : Stmt
counts = placed 319 (M.Assign (word_at 319 (codes "seen")) (Some B.Add) (number_at 327 N.I64 1))

-- {total = now, count = seen}
abbrev pub tuple : Expr
tuple = placed 348 (E.Tuple (
    record { name = name_at 349 (codes "total"); value = word_at 357 (codes "now") }
    ∷ record { name = name_at 362 (codes "count"); value = word_at 370 (codes "seen") } ∷ []))

abbrev pub submits : Stmt
submits = placed 341 (M.Submit tuple (name_at 377 (codes "C")))

abbrev pub handler : Handler
handler = record { event = W.Tuple; port = name_at 248 (codes "T"); body = declares ∷ assigns ∷ counts ∷ submits ∷ [] }

abbrev pub logic : Logic
logic = record { state = sum ∷ seen ∷ []; handlers = placed 240 handler ∷ [] }

abbrev pub custom : Invocation
custom =
    record {
      at = 108;
      outputs =
          output_of 115 (attribute_at (int64_at 115) 121 (codes "count") ∷ attribute_at (int64_at 128) 134 (codes "total") ∷ []) 141 (codes "C")
          ∷ [];
      alias = None;
      operator = name_at 145 (codes "Custom");
      inputs = port_at 152 (codes "T") ∷ [];
      clauses = record { logic = Some (placed 163 logic); window = None; parameters = []; output = None; config = [] };
    }

abbrev pub sink : Invocation
sink = sink_at 401 407 (codes "Out") 413 (port_at 422 (codes "C")) (file_parameters 433 439 (codes "o.csv") 448 456)

abbrev pub counted : List Definition
counted = U.Composite (composite_of_graph (name_at 10 (codes "Main")) (source ∷ custom ∷ sink ∷ [])) ∷ []

-- ---- the graph

abbrev pub counted_graph : Graph
counted_graph =
    record {
      ops =
          op_at (codes "T") O.FileSource [] (0 ∷ []) 0 0 29
          ∷ op_at (codes "C") O.Custom ((0 ∷ []) ∷ []) (1 ∷ []) 0 1 108
          ∷ op_at (codes "Out") O.FileSink ((1 ∷ []) ∷ []) [] 0 2 401 ∷ [];
      streams = record { maker = 0; port = 0 } ∷ record { maker = 1; port = 0 } ∷ [];
      expansions = record { composite = 0; site = None; streams = 0 ∷ 1 ∷ []; inputs = [] } ∷ [];
      topo = 0 ∷ 1 ∷ 2 ∷ [];
    }

-- ---- the checked graph

abbrev pub totals : Attributes
totals = record { name = codes "count"; kind = S.Int N.I64 } ∷ record { name = codes "total"; kind = S.Int N.I64 } ∷ []

-- `sum` begins with 5, and `seen` with the default of its type
abbrev pub state : List StateVariable
state =
    record { variable = record { name = codes "sum"; kind = S.Int N.I64; mutable = true }; first = number 5 }
    ∷ record { variable = record { name = codes "seen"; kind = S.Int N.I64; mutable = true }; first = number 0 } ∷ []

-- the variables are `sum`, `seen` and `now`, and the fields of the tuple stand in the order of the text
abbrev pub body : List Statement
body =
    T.Declare (C.Binary (D.Integers Add N.I64) (variable 0) (attribute 0))
    ∷ T.Change (record { variable = 0; takings = [] }) (H.Put (variable 2))
    ∷ T.Change (record { variable = 1; takings = [] }) (H.Put (C.Binary (D.Integers Add N.I64) (variable 1) (number 1)))
    ∷ T.Submit 0 (C.Tuple ((1, variable 2) ∷ (0, variable 1) ∷ [])) ∷ []

abbrev pub handlers : Handlers
handlers = record { state = state; on_tuple = Some body ∷ []; on_punct = None ∷ [] }

abbrev pub counted_checked : CheckedGraph
counted_checked =
    record {
      graph = counted_graph;
      schemas = prices ∷ totals ∷ [];
      functions = [];
      parts = A.FileSource (codes "t.csv") true ∷ A.Custom handlers ∷ A.FileSink (codes "o.csv") ∷ [];
    }
