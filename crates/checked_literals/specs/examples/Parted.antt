-- A program with a Punctor, a Split, a Union and a Custom of two ports, as a tree, with its graph and its checked graph:
--
--   composite Main {
--     graph
--       stream<boolean last, int32 n> T = FileSource() { param file: "t.csv"; format: csv; }
--       stream<int32 n, rstring name, boolean last> U = FileSource() { param file: "u.csv"; format: csv; }
--       stream<T> P = Punctor(T) { param position: after; punctuation: last; }
--       (stream<P> X; stream<T> Y) as Parts = Split(P) { param index: n % 2; }
--       stream<int32 n, boolean last> V = Union(X, Y; U);
--       (stream<V> W; stream<int32 n> K) as C = Custom(X; V as Other) {
--         logic
--           state: { mutable list<int32> seen = [-1, 7]; mutable int32 n = 3; }
--           onTuple Other: {
--             int32 seen = Other.n;
--             if (last && n > 0) submit(Other, W);
--             else { int32 k = seen; n -= k; submit({n = n + k}, K); }
--           }
--           onPunct X: { if (currentPunct() == Sys.WindowMarker) submit(Sys.WindowMarker, K); }
--           onTuple X: { appendM(seen, X.n); }
--       }
--       () as Out = FileSink(W) { param file: "o.csv"; format: csv; }
--   }
use Rattle.std.specs.Prelude.{true, false, List, [], ◌∷◌, Some, None, codes}
use Rattle.spl_value.specs.declared.types.IntKind.TheVariants as N
use Rattle.spl_value.specs.declared.types.SplType.TheVariants as S
use Rattle.spl_tree.specs.declared.body.Change.TheVariants as H
use Rattle.spl_tree.specs.declared.body.Statement.{Statement}
use Rattle.spl_tree.specs.declared.body.Statement.TheVariants as T
use Rattle.spl_tree.specs.declared.code.BinaryCode.TheVariants as D
use Rattle.spl_tree.specs.declared.code.Code.{Code}
use Rattle.spl_tree.specs.declared.code.Code.TheVariants as C
use Rattle.spl_tree.specs.declared.code.IntegerOperator.{IntegerOperator}
use Rattle.spl_tree.specs.declared.code.IntegerOperator.TheVariants.{Add, Remainder, Subtract}
use Rattle.spl_tree.specs.declared.code.Marker.TheVariants as K
use Rattle.spl_tree.specs.declared.code.OrderOperator.TheVariants.{Greater}
use Rattle.spl_tree.specs.declared.code.Slot.{Slot}
use Rattle.spl_tree.specs.declared.code.Slot.TheVariants as L
use Rattle.spl_tree.specs.declared.code.UnaryCode.TheVariants as R
use Rattle.spl_tree.specs.declared.expression.BinaryOperator.TheVariants as B
use Rattle.spl_tree.specs.declared.expression.ExprKind.TheVariants as E
use Rattle.spl_tree.specs.declared.expression.PrefixOperator.TheVariants as P
use Rattle.spl_tree.specs.declared.graph.Graph.{Graph}
use Rattle.spl_tree.specs.declared.graph.OpKind.TheVariants as O
use Rattle.spl_tree.specs.declared.shape.TypeKind.TheVariants as Y
use Rattle.spl_tree.specs.declared.statement.Declaration.{Declaration}
use Rattle.spl_tree.specs.declared.statement.StmtKind.TheVariants as M
use Rattle.spl_tree.specs.declared.unit.Definition.{Definition}
use Rattle.spl_tree.specs.declared.unit.Definition.TheVariants as U
use Rattle.spl_tree.specs.declared.unit.HandledEvent.TheVariants as W
use Rattle.spl_tree.specs.declared.unit.Handler.{Handler}
use Rattle.spl_tree.specs.declared.unit.Invocation.{Invocation}
use Rattle.spl_tree.specs.declared.unit.Logic.{Logic}
use Rattle.spl_tree.specs.Trees.{Expr, placed, Stmt}
use Rattle.language_model.specs.declared.checked.Handlers.{Handlers}
use Rattle.language_model.specs.declared.checked.CheckedClauses.TheVariants as A
use Rattle.language_model.specs.declared.checked.Position.TheVariants as Q
use Rattle.language_model.specs.declared.checked.StateVariable.{StateVariable}
use Rattle.language_model.specs.examples.FlatGraphs.{composite_of_graph, name_at, op_at}
use Rattle.language_model.specs.CheckedGraph.{CheckedGraph}
use Rattle.language_model.specs.StreamTypes.{Attributes}
use Rattle.checked_literals.specs.examples.Codes.{attribute, number, variable}
use Rattle.checked_literals.specs.examples.Shapes.{attribute_at, boolean_at, call_at, field_at, int32_at, member_at, rstring_at, file_parameters, number_at, output_of, output_of_name, parameter_at, port_at, source_at, sink_at, with_parameters, word_at}

-- ---- the tree

abbrev pub left_source : Invocation
left_source = source_at 29
    (output_of 36 (attribute_at (boolean_at 36) 44 (codes "last") ∷ attribute_at (int32_at 50) 56 (codes "n") ∷ []) 59 (codes "T")) 63
    (file_parameters 84 90 (codes "t.csv") 99 107)

abbrev pub right_source : Invocation
right_source = source_at 118 (output_of 125 (
    attribute_at (int32_at 125) 131 (codes "n")
    ∷ attribute_at (rstring_at 134) 142 (codes "name")
    ∷ attribute_at (boolean_at 148) 156 (codes "last") ∷ []) 162 (codes "U")) 166
    (file_parameters 187 193 (codes "u.csv") 202 210)

abbrev pub punctor : Invocation
punctor =
    record {
      at = 221;
      outputs = output_of_name 228 (codes "T") 231 (codes "P") ∷ [];
      alias = None;
      operator = name_at 235 (codes "Punctor");
      inputs = port_at 243 (codes "T") ∷ [];
      clauses = with_parameters (
          parameter_at 254 (codes "position") (word_at 264 (codes "after"))
          ∷ parameter_at 271 (codes "punctuation") (word_at 284 (codes "last")) ∷ []);
    }

abbrev pub split : Invocation
split =
    record {
      at = 296;
      outputs = output_of_name 304 (codes "P") 307 (codes "X") ∷ output_of_name 317 (codes "T") 320 (codes "Y") ∷ [];
      alias = Some (name_at 326 (codes "Parts"));
      operator = name_at 334 (codes "Split");
      inputs = port_at 340 (codes "P") ∷ [];
      clauses = with_parameters (parameter_at 351 (codes "index") (placed 358 (E.Binary B.Remainder (word_at 358 (codes "n")) (number_at 362 N.I32 2))) ∷ []);
    }

abbrev pub union : Invocation
union =
    record {
      at = 371;
      outputs =
          output_of 378 (attribute_at (int32_at 378) 384 (codes "n") ∷ attribute_at (boolean_at 387) 395 (codes "last") ∷ []) 401 (codes "V") ∷ [];
      alias = None;
      operator = name_at 405 (codes "Union");
      inputs = record { streams = name_at 411 (codes "X") ∷ name_at 414 (codes "Y") ∷ []; alias = None } ∷ port_at 417 (codes "U") ∷ [];
      clauses = with_parameters [];
    }

-- mutable list<int32> seen = [-1, 7];
abbrev pub seen : Declaration
seen =
    record {
      mutable = true;
      kind = placed 526 (Y.List (int32_at 531));
      name = name_at 538 (codes "seen");
      value = Some (placed 545 (E.List (placed 546 (E.Unary (placed 546 P.Negate ∷ []) (number_at 547 N.I32 1)) ∷ number_at 550 N.I32 7 ∷ [])));
    }

-- mutable int32 n = 3;
abbrev pub count : Declaration
count = record { mutable = true; kind = int32_at 562; name = name_at 568 (codes "n"); value = Some (number_at 572 N.I32 3) }

-- int32 seen = Other.n;
abbrev pub declares : Stmt
declares =
    placed 612 (M.Declare (record {
      mutable = false;
      kind = int32_at 612;
      name = name_at 618 (codes "seen");
      value = Some (member_at 625 (codes "Other") 631 (codes "n"));
    }))

-- last && n > 0
abbrev pub last_condition : Expr
last_condition = placed 648 (E.Binary B.And (word_at 648 (codes "last")) (placed 656 (E.Binary B.Greater (word_at 656 (codes "n")) (number_at 660 N.I32 0))))

-- { int32 k = seen; n -= k; submit({n = n + k}, K); }
abbrev pub otherwise : Stmt
otherwise = placed 696 (M.Block (
    placed 698 (M.Declare (record { mutable = false; kind = int32_at 698; name = name_at 704 (codes "k"); value = Some (word_at 708 (codes "seen")) }))
    ∷ placed 714 (M.Assign (word_at 714 (codes "n")) (Some B.Subtract) (word_at 719 (codes "k")))
    ∷ placed 722 (M.Submit (placed 729 (E.Tuple (
    field_at 730 (codes "n") (placed 734 (E.Binary B.Add (word_at 734 (codes "n")) (word_at 738 (codes "k")))) ∷ [])))
    (name_at 742 (codes "K"))) ∷ []))

abbrev pub on_other : Handler
on_other =
    record {
      event = W.Tuple;
      port = name_at 593 (codes "Other");
      body =
          declares
          ∷ placed 644 (M.If ((last_condition, placed 663 (M.Submit (word_at 670 (codes "Other")) (name_at 677 (codes "W")))) ∷ []) (Some otherwise)) ∷ [];
    }

-- currentPunct() == Sys.WindowMarker
abbrev pub is_window : Expr
is_window = placed 783 (E.Binary B.Equal (call_at 783 (codes "currentPunct") []) (member_at 801 (codes "Sys") 805 (codes "WindowMarker")))

abbrev pub on_marker : Handler
on_marker =
    record {
      event = W.Punctuation;
      port = name_at 774 (codes "X");
      body =
          placed 779 (M.If ((is_window, placed 819 (M.Submit (member_at 826 (codes "Sys") 830 (codes "WindowMarker")) (name_at 844 (codes "K")))) ∷ []) None)
          ∷ [];
    }

-- appendM(seen, X.n);
abbrev pub on_first : Handler
on_first =
    record {
      event = W.Tuple;
      port = name_at 866 (codes "X");
      body = placed 871 (M.Call (call_at 871 (codes "appendM") (word_at 879 (codes "seen") ∷ member_at 885 (codes "X") 887 (codes "n") ∷ []))) ∷ [];
    }

abbrev pub logic : Logic
logic =
    record {
      state = seen ∷ count ∷ [];
      handlers = placed 585 on_other ∷ placed 766 on_marker ∷ placed 858 on_first ∷ [];
    }

abbrev pub custom : Invocation
custom =
    record {
      at = 425;
      outputs = output_of_name 433 (codes "V") 436 (codes "W") ∷ output_of 446 (attribute_at (int32_at 446) 452 (codes "n") ∷ []) 455 (codes "K") ∷ [];
      alias = Some (name_at 461 (codes "C"));
      operator = name_at 465 (codes "Custom");
      inputs = port_at 472 (codes "X") ∷ record { streams = name_at 475 (codes "V") ∷ []; alias = Some (name_at 480 (codes "Other")) } ∷ [];
      clauses = record { logic = Some (placed 495 logic); window = None; parameters = []; output = None; config = [] };
    }

abbrev pub sink : Invocation
sink = sink_at 903 909 (codes "Out") 915 (port_at 924 (codes "W")) (file_parameters 935 941 (codes "o.csv") 950 958)

abbrev pub parted : List Definition
parted = U.Composite (composite_of_graph (name_at 10 (codes "Main")) (left_source ∷ right_source ∷ punctor ∷ split ∷ union ∷ custom ∷ sink ∷ [])) ∷ []

-- ---- the graph

abbrev pub parted_graph : Graph
parted_graph =
    record {
      ops =
          op_at (codes "T") O.FileSource [] (0 ∷ []) 0 0 29
          ∷ op_at (codes "U") O.FileSource [] (1 ∷ []) 0 1 118
          ∷ op_at (codes "P") O.Punctor ((0 ∷ []) ∷ []) (2 ∷ []) 0 2 221
          ∷ op_at (codes "Parts") O.Split ((2 ∷ []) ∷ []) (3 ∷ 4 ∷ []) 0 3 296
          ∷ op_at (codes "V") O.Union ((3 ∷ 4 ∷ []) ∷ (1 ∷ []) ∷ []) (5 ∷ []) 0 4 371
          ∷ op_at (codes "C") O.Custom ((3 ∷ []) ∷ (5 ∷ []) ∷ []) (6 ∷ 7 ∷ []) 0 5 425
          ∷ op_at (codes "Out") O.FileSink ((6 ∷ []) ∷ []) [] 0 6 903 ∷ [];
      streams =
          record { maker = 0; port = 0 } ∷ record { maker = 1; port = 0 } ∷ record { maker = 2; port = 0 } ∷ record { maker = 3; port = 0 }
          ∷ record { maker = 3; port = 1 } ∷ record { maker = 4; port = 0 } ∷ record { maker = 5; port = 0 } ∷ record { maker = 5; port = 1 } ∷ [];
      expansions = record { composite = 0; site = None; streams = 0 ∷ 1 ∷ 2 ∷ 3 ∷ 4 ∷ 5 ∷ 6 ∷ 7 ∷ []; inputs = [] } ∷ [];
      topo = 0 ∷ 1 ∷ 2 ∷ 3 ∷ 4 ∷ 5 ∷ 6 ∷ [];
    }

-- ---- the checked graph

abbrev pub flagged : Attributes
flagged = record { name = codes "last"; kind = S.Bool } ∷ record { name = codes "n"; kind = S.Int N.I32 } ∷ []

abbrev pub named : Attributes
named = record { name = codes "n"; kind = S.Int N.I32 } ∷ record { name = codes "name"; kind = S.Text } ∷ record { name = codes "last"; kind = S.Bool } ∷ []

abbrev pub united : Attributes
united = record { name = codes "n"; kind = S.Int N.I32 } ∷ record { name = codes "last"; kind = S.Bool } ∷ []

abbrev pub numbers : Attributes
numbers = record { name = codes "n"; kind = S.Int N.I32 } ∷ []

abbrev pub on_numbers : IntegerOperator → Code Slot → Code Slot → Code Slot
on_numbers op left right = C.Binary (D.Integers op N.I32) left right

abbrev pub state : List StateVariable
state =
    record { variable = record { name = codes "seen"; kind = S.List (S.Int N.I32); mutable = true }; first = C.List (C.Unary (R.Negate N.I32 ∷ []) (number 1) ∷ number 7 ∷ []) }
    ∷ record { variable = record { name = codes "n"; kind = S.Int N.I32; mutable = true }; first = number 3 } ∷ []

-- the first variables are those of the state, and the others the local `seen` and `k`. A local variable comes before one of the state, and
-- that before an attribute. The one port that is seen is that of the handler
abbrev pub other_body : List Statement
other_body =
    T.Declare (attribute 0)
    ∷ T.If
    ((C.Binary D.And (attribute 1) (C.Binary (D.Order Greater) (variable 1) (number 0)), T.Submit 0 (C.Name (L.Port 0)) ∷ []) ∷ [])
    (T.Block (
    T.Declare (variable 2)
    ∷ T.Change (record { variable = 1; takings = [] }) (H.Put (on_numbers Subtract (variable 1) (variable 3)))
    ∷ T.Submit 1 (C.Tuple ((0, on_numbers Add (variable 1) (variable 3)) ∷ [])) ∷ []) ∷ [])
    ∷ []

abbrev pub marker_body : List Statement
marker_body = T.If ((C.IsMarker K.Window, T.SubmitWindow 1 ∷ []) ∷ []) [] ∷ []

abbrev pub first_body : List Statement
first_body = T.Change (record { variable = 0; takings = [] }) (H.Append (attribute 1)) ∷ []

-- by the ports, and not in the order of the text
abbrev pub handlers : Handlers
handlers = record { state = state; on_tuple = Some first_body ∷ Some other_body ∷ []; on_punct = Some marker_body ∷ None ∷ [] }

-- of the Union, the places of `n` and of `last` in each input
abbrev pub parted_checked : CheckedGraph
parted_checked =
    record {
      graph = parted_graph;
      schemas = flagged ∷ named ∷ flagged ∷ flagged ∷ flagged ∷ united ∷ united ∷ numbers ∷ [];
      functions = [];
      parts =
          A.FileSource (codes "t.csv") true
          ∷ A.FileSource (codes "u.csv") true
          ∷ A.Punctor (attribute 0) Q.After
          ∷ A.Split (on_numbers Remainder (attribute 1) (number 2))
          ∷ A.Union ((1 ∷ 0 ∷ []) ∷ (0 ∷ 2 ∷ []) ∷ [])
          ∷ A.Custom handlers
          ∷ A.FileSink (codes "o.csv") ∷ [];
    }
