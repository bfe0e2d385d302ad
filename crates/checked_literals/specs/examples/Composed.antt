-- A program with a type, a function, and a composite with `$` parameters that is invoked twice, as a tree, with its graph and its
-- checked graph:
--
--   type Trade = rstring symbol, int64 price;
--
--   int64 twice(int64 amount) {
--     int64 sum = amount + amount;
--     return sum;
--   }
--
--   composite Between(output O; input I) {
--     param
--       expression<int64> $least : 10l;
--       expression<int64> $most;
--     graph
--       stream<I> O = Filter(I) { param filter: price > $least && price < $most; }
--   }
--
--   composite Main {
--     graph
--       () as Out = FileSink(D) { param file: "o.csv"; format: csv; }
--       stream<Trade> T = FileSource() { param file: "t.csv"; format: csv; }
--       stream<Trade> A = Between(T) { param most: -5l; least: 2l; }
--       stream<T> B = Between(T, A) { param most: 100l; }
--       stream<int64 price, rstring symbol, int64 double> D = Functor(B) {
--         param filter: price != 0l;
--         output D: double = twice(price);
--       }
--   }
use Rattle.std.specs.Prelude.{true, false, List, [], ◌∷◌, Some, None, codes}
use Rattle.spl_value.specs.declared.types.IntKind.TheVariants as N
use Rattle.spl_value.specs.declared.types.SplType.TheVariants as S
use Rattle.spl_tree.specs.declared.body.Function.{Function}
use Rattle.spl_tree.specs.declared.body.Statement.TheVariants as T
use Rattle.spl_tree.specs.declared.code.BinaryCode.TheVariants as D
use Rattle.spl_tree.specs.declared.code.Code.{Code}
use Rattle.spl_tree.specs.declared.code.Code.TheVariants as C
use Rattle.spl_tree.specs.declared.code.IntegerOperator.TheVariants.{Add}
use Rattle.spl_tree.specs.declared.code.OrderOperator.TheVariants.{Greater, Less}
use Rattle.spl_tree.specs.declared.code.Slot.{Slot}
use Rattle.spl_tree.specs.declared.code.UnaryCode.TheVariants as R
use Rattle.spl_tree.specs.declared.expression.BinaryOperator.TheVariants as B
use Rattle.spl_tree.specs.declared.expression.ExprKind.TheVariants as E
use Rattle.spl_tree.specs.declared.expression.PrefixOperator.TheVariants as P
use Rattle.spl_tree.specs.declared.graph.Graph.{Graph}
use Rattle.spl_tree.specs.declared.graph.OpKind.TheVariants as O
use Rattle.spl_tree.specs.declared.shape.ShapeKind.TheVariants as H
use Rattle.spl_tree.specs.declared.statement.StmtKind.TheVariants as M
use Rattle.spl_tree.specs.declared.unit.Composite.{Composite}
use Rattle.spl_tree.specs.declared.unit.CompositeParameter.{CompositeParameter}
use Rattle.spl_tree.specs.declared.unit.Definition.{Definition}
use Rattle.spl_tree.specs.declared.unit.Definition.TheVariants as U
use Rattle.spl_tree.specs.declared.unit.FunctionDefinition.{FunctionDefinition}
use Rattle.spl_tree.specs.declared.unit.Invocation.{Invocation}
use Rattle.spl_tree.specs.declared.unit.OutputAssignments.{OutputAssignments}
use Rattle.spl_tree.specs.declared.unit.Parameter.{Parameter}
use Rattle.spl_tree.specs.declared.unit.TypeDefinition.{TypeDefinition}
use Rattle.spl_tree.specs.Trees.{Expr, placed}
use Rattle.language_model.specs.declared.checked.CheckedClauses.TheVariants as A
use Rattle.language_model.specs.examples.FlatGraphs.{composite_of_graph, name_at, op_at}
use Rattle.language_model.specs.CheckedGraph.{CheckedGraph}
use Rattle.language_model.specs.StreamTypes.{Attributes}
use Rattle.checked_literals.specs.examples.Codes.{attribute, number, variable}
use Rattle.checked_literals.specs.examples.Shapes.{attribute_at, call_at, field_at, int64_at, rstring_at, file_parameters, number_at, output_of, output_of_name, parameter_at, port_at, source_at, sink_at, with_parameters, word_at}

-- ---- the tree

abbrev pub trade : TypeDefinition
trade =
    record {
      name = name_at 5 (codes "Trade");
      shape = placed 13 (H.Attributes (attribute_at (rstring_at 13) 21 (codes "symbol") ∷ attribute_at (int64_at 29) 35 (codes "price") ∷ []));
    }

abbrev pub twice : FunctionDefinition
twice =
    record {
      result = Some (int64_at 43);
      name = name_at 49 (codes "twice");
      parameters = attribute_at (int64_at 55) 61 (codes "amount") ∷ [];
      body =
          placed 73 (M.Declare (record {
            mutable = false;
            kind = int64_at 73;
            name = name_at 79 (codes "sum");
            value = Some (placed 85 (E.Binary B.Add (word_at 85 (codes "amount")) (word_at 94 (codes "amount"))));
          }))
          ∷ placed 104 (M.Return (Some (word_at 111 (codes "sum")))) ∷ [];
    }

abbrev pub least : CompositeParameter
least = record { kind = int64_at 181; name = name_at 188 (codes "least"); default = Some (number_at 197 N.I64 10) }

abbrev pub most : CompositeParameter
most = record { kind = int64_at 217; name = name_at 224 (codes "most"); default = None }

-- price > $least && price < $most
abbrev pub condition : Expr
condition = placed 283 (E.Binary B.And
    (placed 283 (E.Binary B.Greater (word_at 283 (codes "price")) (placed 291 (E.Dollar (codes "least")))))
    (placed 301 (E.Binary B.Less (word_at 301 (codes "price")) (placed 309 (E.Dollar (codes "most"))))))

abbrev pub filter : Invocation
filter =
    record {
      at = 243;
      outputs = output_of_name 250 (codes "I") 253 (codes "O") ∷ [];
      alias = None;
      operator = name_at 257 (codes "Filter");
      inputs = port_at 264 (codes "I") ∷ [];
      clauses = with_parameters (parameter_at 275 (codes "filter") condition ∷ []);
    }

abbrev pub between : Composite
between =
    record {
      name = name_at 129 (codes "Between");
      outputs = record { shape = None; name = name_at 144 (codes "O") } ∷ [];
      inputs = record { shape = None; name = name_at 153 (codes "I") } ∷ [];
      parameters = least ∷ most ∷ [];
      types = [];
      graph = filter ∷ [];
      config = [];
    }

abbrev pub sink : Invocation
sink = sink_at 350 356 (codes "Out") 362 (port_at 371 (codes "D")) (file_parameters 382 388 (codes "o.csv") 397 405)

abbrev pub source : Invocation
source = source_at 416 (output_of_name 423 (codes "Trade") 430 (codes "T")) 434
    (file_parameters 455 461 (codes "t.csv") 470 478)

-- most: -5l; least: 2l;
abbrev pub arguments : List Parameter
arguments =
    parameter_at 526 (codes "most") (placed 532 (E.Unary (placed 532 P.Negate ∷ []) (number_at 533 N.I64 5)))
    ∷ parameter_at 537 (codes "least") (number_at 544 N.I64 2) ∷ []

abbrev pub first : Invocation
first =
    record {
      at = 489;
      outputs = output_of_name 496 (codes "Trade") 503 (codes "A") ∷ [];
      alias = None;
      operator = name_at 507 (codes "Between");
      inputs = port_at 515 (codes "T") ∷ [];
      clauses = with_parameters arguments;
    }

-- with the default of `$least`
abbrev pub second : Invocation
second =
    record {
      at = 554;
      outputs = output_of_name 561 (codes "T") 564 (codes "B") ∷ [];
      alias = None;
      operator = name_at 568 (codes "Between");
      inputs = record { streams = name_at 576 (codes "T") ∷ name_at 579 (codes "A") ∷ []; alias = None } ∷ [];
      clauses = with_parameters (parameter_at 590 (codes "most") (number_at 596 N.I64 100) ∷ []);
    }

-- double = twice(price)
abbrev pub output : OutputAssignments
output =
    record {
      stream = name_at 721 (codes "D");
      assignments = field_at 724 (codes "double") (call_at 733 (codes "twice") (word_at 739 (codes "price") ∷ [])) ∷ [];
    }

abbrev pub functor : Invocation
functor =
    record {
      at = 608;
      outputs =
          output_of 615 (
          attribute_at (int64_at 615) 621 (codes "price")
          ∷ attribute_at (rstring_at 628) 636 (codes "symbol")
          ∷ attribute_at (int64_at 644) 650 (codes "double") ∷ []) 658 (codes "D")
          ∷ [];
      alias = None;
      operator = name_at 662 (codes "Functor");
      inputs = port_at 670 (codes "B") ∷ [];
      clauses = record {
        logic = None;
        window = None;
        parameters = parameter_at 687 (codes "filter") (placed 695 (E.Binary B.NotEqual (word_at 695 (codes "price")) (number_at 704 N.I64 0))) ∷ [];
        output = Some (placed 714 (output ∷ []));
        config = [];
      };
    }

abbrev pub main : Composite
main = composite_of_graph (name_at 331 (codes "Main")) (sink ∷ source ∷ first ∷ second ∷ functor ∷ [])

abbrev pub composed : List Definition
composed = U.Type trade ∷ U.Function twice ∷ U.Composite between ∷ U.Composite main ∷ []

-- ---- the graph

-- both filters are that of `Between`, in a body of its own each. The second one takes two streams
abbrev pub composed_graph : Graph
composed_graph =
    record {
      ops =
          op_at (codes "Out") O.FileSink ((3 ∷ []) ∷ []) [] 0 0 350
          ∷ op_at (codes "T") O.FileSource [] (0 ∷ []) 0 1 416
          ∷ op_at (codes "A.O") O.Filter ((0 ∷ []) ∷ []) (1 ∷ []) 1 0 243
          ∷ op_at (codes "B.O") O.Filter ((0 ∷ 1 ∷ []) ∷ []) (2 ∷ []) 2 0 243
          ∷ op_at (codes "D") O.Functor ((2 ∷ []) ∷ []) (3 ∷ []) 0 4 608 ∷ [];
      streams = record { maker = 1; port = 0 } ∷ record { maker = 2; port = 0 } ∷ record { maker = 3; port = 0 } ∷ record { maker = 4; port = 0 } ∷ [];
      expansions =
          record { composite = 1; site = None; streams = 0 ∷ 1 ∷ 2 ∷ 3 ∷ []; inputs = [] }
          ∷ record { composite = 0; site = Some (record { expansion = 0; invocation = 2 }); streams = 1 ∷ []; inputs = record { count = 1; first = 0 } ∷ [] }
          ∷ record { composite = 0; site = Some (record { expansion = 0; invocation = 3 }); streams = 2 ∷ []; inputs = record { count = 2; first = 0 } ∷ [] } ∷ [];
      topo = 1 ∷ 2 ∷ 3 ∷ 4 ∷ 0 ∷ [];
    }

-- ---- the checked graph

abbrev pub trades : Attributes
trades = record { name = codes "symbol"; kind = S.Text } ∷ record { name = codes "price"; kind = S.Int N.I64 } ∷ []

abbrev pub doubles : Attributes
doubles =
    record { name = codes "price"; kind = S.Int N.I64 }
    ∷ record { name = codes "symbol"; kind = S.Text }
    ∷ record { name = codes "double"; kind = S.Int N.I64 } ∷ []

-- the variables are the parameter and `sum`
abbrev pub twice_checked : Function
twice_checked =
    record {
      parameters = S.Int N.I64 ∷ [];
      result = Some (S.Int N.I64);
      body =
          T.Declare (C.Binary (D.Integers Add N.I64) (variable 0) (variable 0))
          ∷ T.Return (Some (variable 1)) ∷ [];
    }

-- the attributes of a trade
abbrev pub symbol : Code Slot
symbol = attribute 0

abbrev pub price : Code Slot
price = attribute 1

-- a price between two numbers
abbrev pub is_between : Code Slot → Code Slot → Code Slot
is_between low high = C.Binary D.And (C.Binary (D.Order Greater) price low) (C.Binary (D.Order Less) price high)

-- `double` has the call of the first function, and the others are those of the input
abbrev pub doubled : Code Slot
doubled = C.Tuple ((2, C.Call 0 (price ∷ [])) ∷ (0, price) ∷ (1, symbol) ∷ [])

-- the first filter has the arguments of its invocation, and the second one the default of `$least`
abbrev pub composed_checked : CheckedGraph
composed_checked =
    record {
      graph = composed_graph;
      schemas = trades ∷ trades ∷ trades ∷ doubles ∷ [];
      functions = twice_checked ∷ [];
      parts =
          A.FileSink (codes "o.csv")
          ∷ A.FileSource (codes "t.csv") true
          ∷ A.Filter (Some (is_between (number 2) (C.Unary (R.Negate N.I64 ∷ []) (number 5))))
          ∷ A.Filter (Some (is_between (number 10) (number 100)))
          ∷ A.Functor (Some (C.Binary D.NotEqual price (number 0))) doubled ∷ [];
    }
