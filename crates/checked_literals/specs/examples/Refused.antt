-- Programs that are refused: the first program with another operator in the place of its filter, at the same place in the text.
use Rattle.std.specs.Prelude.{◌≡◌, ℕ, false, List, [], ◌∷◌, Option, Some, None, Ok, Err, codes}
use Rattle.spl_value.specs.declared.types.IntKind.TheVariants as N
use Rattle.spl_tree.specs.declared.expression.BinaryOperator.TheVariants as B
use Rattle.spl_tree.specs.declared.expression.ExprKind.TheVariants as E
use Rattle.spl_tree.specs.declared.expression.Placed.{Placed}
use Rattle.spl_tree.specs.declared.graph.Graph.{Graph}
use Rattle.spl_tree.specs.declared.graph.OpKind.{OpKind}
use Rattle.spl_tree.specs.declared.graph.OpKind.TheVariants as O
use Rattle.spl_tree.specs.declared.shape.TypeKind.TheVariants as Y
use Rattle.spl_tree.specs.declared.statement.Declaration.{Declaration}
use Rattle.spl_tree.specs.declared.statement.StmtKind.TheVariants as M
use Rattle.spl_tree.specs.declared.unit.Clauses.{Clauses}
use Rattle.spl_tree.specs.declared.unit.Definition.{Definition}
use Rattle.spl_tree.specs.declared.unit.Definition.TheVariants as U
use Rattle.spl_tree.specs.declared.unit.Handler.{Handler}
use Rattle.spl_tree.specs.declared.unit.HandledEvent.TheVariants as W
use Rattle.spl_tree.specs.declared.unit.InputPort.{InputPort}
use Rattle.spl_tree.specs.declared.unit.Invocation.{Invocation}
use Rattle.spl_tree.specs.declared.unit.OutputAssignments.{OutputAssignments}
use Rattle.spl_tree.specs.declared.unit.OutputStream.{OutputStream}
use Rattle.spl_tree.specs.declared.unit.PortWindow.{PortWindow}
use Rattle.spl_tree.specs.Trees.{Expr, placed, Stmt}
use Rattle.language_model.specs.declared.scope.CheckError.{CheckError}
use Rattle.language_model.specs.declared.scope.CheckRefusal.{CheckRefusal}
use Rattle.language_model.specs.Checking.{checked}
use Rattle.language_model.specs.Flat.{IsFlat}
use Rattle.language_model.specs.examples.FlatGraphs.{composite_of_graph, name_at, op_at}
use Rattle.checked_literals.specs.examples.Filtered.{filtered_graph, sink, source}
use Rattle.checked_literals.specs.examples.Shapes.{attribute_at, call_at, field_at, int32_at, int64_at, number_at, output_of, parameter_at, port_at, sink_at, window_at, window_word_at, with_parameters, word_at}

-- ---- programs

abbrev pub with_middle : Invocation → List Definition
with_middle i = U.Composite (composite_of_graph (name_at 10 (codes "Main")) (source ∷ i ∷ sink ∷ [])) ∷ []

-- the graph with an operator of the kind and these inputs in the middle
abbrev pub graph_of : OpKind → List (List ℕ) → Graph
graph_of kind ins =
    record filtered_graph {
      ops =
          op_at (codes "T") O.FileSource [] (0 ∷ []) 0 0 29
          ∷ op_at (codes "B") kind ins (1 ∷ []) 0 1 108
          ∷ op_at (codes "Out") O.FileSink ((1 ∷ []) ∷ []) [] 0 2 177 ∷ [];
    }

-- and with one input, that reads `T`
abbrev pub graph_with : OpKind → Graph
graph_with kind = graph_of kind ((0 ∷ []) ∷ [])

abbrev pub refusal : CheckError → ℕ → Option (List ℕ) → CheckRefusal
refusal error at name = record { error = error; at = at; name = name }

-- an invocation that makes `B`
abbrev pub middle : OutputStream → ℕ → List ℕ → List InputPort → Clauses → Invocation
middle output at operator inputs clauses = record { at = 108; outputs = output ∷ []; alias = None; operator = name_at at operator; inputs = inputs; clauses = clauses }

-- an input that reads `T`
abbrev pub reads : ℕ → List InputPort
reads at = port_at at (codes "T") ∷ []

-- `stream<int64 price> B`
abbrev pub prices_at : ℕ → ℕ → ℕ → OutputStream
prices_at shape at stream = output_of shape (attribute_at (int64_at shape) at (codes "price") ∷ []) stream (codes "B")

abbrev pub with_logic : ℕ → List Declaration → Placed Handler → Clauses
with_logic at state h = record { logic = Some (placed at (record { state = state; handlers = h ∷ [] })); window = None; parameters = []; output = None; config = [] }

-- a handler of tuples of `T`, of one statement
abbrev pub on_tuple : ℕ → ℕ → Stmt → Placed Handler
on_tuple at port s = placed at (record { event = W.Tuple; port = name_at port (codes "T"); body = s ∷ [] })

abbrev pub with_output : ℕ → OutputAssignments → Clauses
with_output at output = record { logic = None; window = None; parameters = []; output = Some (placed at (output ∷ [])); config = [] }

-- an expression with `>`, at its left side
abbrev pub above : Expr → Expr → Expr
above left right = placed left.at (E.Binary B.Greater left right)

-- ---- ports and types

-- stream<int64 price> B = Filter(T; T);
abbrev pub two_inputs : Invocation
two_inputs = middle (prices_at 115 121 128) 132 (codes "Filter") (port_at 139 (codes "T") ∷ port_at 142 (codes "T") ∷ []) (with_parameters [])

-- stream<int32 price> B = Filter(T);
abbrev pub another_type : Invocation
another_type = middle (output_of 115 (attribute_at (int32_at 115) 121 (codes "price") ∷ []) 128 (codes "B")) 132 (codes "Filter") (reads 139) (with_parameters [])

-- stream<list<int64> prices> B = Custom(T);
abbrev pub list_row : Invocation
list_row = middle (output_of 115 (attribute_at (placed 115 (Y.List (int64_at 120))) 127 (codes "prices") ∷ []) 135 (codes "B")) 139 (codes "Custom")
    (reads 146) (with_parameters [])

-- ---- parameters

-- stream<int64 price> B = Filter(T) { param filter: cost > 10l; }
abbrev pub unknown_name : Invocation
unknown_name = middle (prices_at 115 121 128) 132 (codes "Filter") (reads 139)
    (with_parameters (parameter_at 150 (codes "filter") (above (word_at 158 (codes "cost")) (number_at 165 N.I64 10)) ∷ []))

-- stream<int64 price> B = Filter(T) { param filter: price > 10; }
abbrev pub another_width : Invocation
another_width = middle (prices_at 115 121 128) 132 (codes "Filter") (reads 139)
    (with_parameters (parameter_at 150 (codes "filter") (above (word_at 158 (codes "price")) (number_at 166 N.I32 10)) ∷ []))

-- stream<int64 price> B = Filter(T) { param index: price; filter: cost; }
abbrev pub unknown_parameter : Invocation
unknown_parameter = middle (prices_at 115 121 128) 132 (codes "Filter") (reads 139)
    (with_parameters (parameter_at 150 (codes "index") (word_at 157 (codes "price")) ∷ parameter_at 164 (codes "filter") (word_at 172 (codes "cost")) ∷ []))

-- stream<int64 price> B = Punctor(T) { param punctuation: price > 10l; }
abbrev pub no_position : Invocation
no_position = middle (prices_at 115 121 128) 132 (codes "Punctor") (reads 140)
    (with_parameters (parameter_at 151 (codes "punctuation") (above (word_at 164 (codes "price")) (number_at 172 N.I64 10)) ∷ []))

-- ---- windows and config

-- stream<int64 price> B = Aggregate(T) { param groupBy: cost; }
abbrev pub no_window : Invocation
no_window = middle (prices_at 115 121 128) 132 (codes "Aggregate") (reads 142)
    (with_parameters (parameter_at 153 (codes "groupBy") (word_at 162 (codes "cost")) ∷ []))

-- `window T: sliding;`
abbrev pub slides : ℕ → ℕ → ℕ → Option (Placed (List PortWindow))
slides at port word = Some (placed at (record { port = name_at port (codes "T"); parts = window_word_at word (codes "sliding") ∷ [] } ∷ []))

-- stream<int64 price> B = Filter(T) { window T: sliding; param filter: cost; config host: 1; }
abbrev pub other_config : Invocation
other_config =
    middle (prices_at 115 121 128) 132 (codes "Filter") (reads 139) (record {
      logic = None;
      window = slides 144 151 154;
      parameters = parameter_at 169 (codes "filter") (word_at 177 (codes "cost")) ∷ [];
      output = None;
      config = parameter_at 190 (codes "host") (number_at 196 N.I32 1) ∷ [];
    })

-- stream<int64 price> B = Filter(T) { window T: sliding; param filter: cost; }
abbrev pub other_window : Invocation
other_window =
    middle (prices_at 115 121 128) 132 (codes "Filter") (reads 139) (record {
      logic = None;
      window = slides 144 151 154;
      parameters = parameter_at 169 (codes "filter") (word_at 177 (codes "cost")) ∷ [];
      output = None;
      config = [];
    })

-- `window T: tumbling, count(2);`
abbrev pub tumbles : ℕ → ℕ → ℕ → ℕ → ℕ → Option (Placed (List PortWindow))
tumbles at port word count number =
    Some (placed at (record {
      port = name_at port (codes "T");
      parts = window_word_at word (codes "tumbling") ∷ window_at count (codes "count") (number_at number N.I32 2 ∷ []) ∷ [];
    } ∷ []))

-- stream<int64 price> B = Aggregate(T) { window T: tumbling, count(2); param partitionBy: price; }
abbrev pub partition_alone : Invocation
partition_alone =
    middle (prices_at 115 121 128) 132 (codes "Aggregate") (reads 142) (record {
      logic = None;
      window = tumbles 147 154 157 167 173;
      parameters = parameter_at 183 (codes "partitionBy") (word_at 196 (codes "price")) ∷ [];
      output = None;
      config = [];
    })

-- stream<int64 price> B = Aggregate(T) { window T: tumbling, count(2); output B: cost = Count(); }
abbrev pub no_group_attribute : Invocation
no_group_attribute =
    middle (prices_at 115 121 128) 132 (codes "Aggregate") (reads 142) (record {
      logic = None;
      window = tumbles 147 154 157 167 173;
      parameters = [];
      output = Some (placed 177 (record { stream = name_at 184 (codes "B"); assignments = field_at 187 (codes "cost") (call_at 194 (codes "Count") []) ∷ [] } ∷ []));
      config = [];
    })

-- ---- outputs

-- stream<int64 cost> B = Functor(T);
abbrev pub no_value : Invocation
no_value = middle (output_of 115 (attribute_at (int64_at 115) 121 (codes "cost") ∷ []) 127 (codes "B")) 131 (codes "Functor") (reads 139) (with_parameters [])

-- stream<int64 price> B = Functor(T) { output B: cost = price; }
abbrev pub no_attribute : Invocation
no_attribute =
    middle (prices_at 115 121 128) 132 (codes "Functor") (reads 140) (with_output 145 (record {
      stream = name_at 152 (codes "B");
      assignments = field_at 155 (codes "cost") (word_at 162 (codes "price")) ∷ [];
    }))

-- ---- logic

-- stream<int64 price> B = Filter(T) { logic onTuple T: {{}} }
abbrev pub other_logic : Invocation
other_logic = middle (prices_at 115 121 128) 132 (codes "Filter") (reads 139)
    (with_logic 144 [] (on_tuple 150 158 (placed 162 (M.Block []))))

-- `int64 n = ..;`, at these places
abbrev pub number_n : ℕ → ℕ → Expr → Declaration
number_n type at value = record { mutable = false; kind = int64_at type; name = name_at at (codes "n"); value = Some value }

-- stream<int64 price> B = Custom(T) { logic state: int64 n = price; onTuple T: { n = price; } }
abbrev pub other_state : Invocation
other_state = middle (prices_at 115 121 128) 132 (codes "Custom") (reads 139) (with_logic 144
    (number_n 157 163 (word_at 167 (codes "price")) ∷ [])
    (on_tuple 174 182 (placed 187 (M.Assign (word_at 187 (codes "n")) None (word_at 191 (codes "price"))))))

-- stream<int64 price> B = Custom(T) { logic state: int64 n = 0l; onTuple T: { n = price; } }
abbrev pub constant_changed : Invocation
constant_changed = middle (prices_at 115 121 128) 132 (codes "Custom") (reads 139) (with_logic 144
    (number_n 157 163 (number_at 167 N.I64 0) ∷ [])
    (on_tuple 171 179 (placed 184 (M.Assign (word_at 184 (codes "n")) None (word_at 188 (codes "price"))))))

-- stream<int64 price> B = Custom(T) { logic onTuple T: { break; } }
abbrev pub break_alone : Invocation
break_alone = middle (prices_at 115 121 128) 132 (codes "Custom") (reads 139) (with_logic 144 [] (on_tuple 150 158 (placed 163 M.Break)))

-- stream<int64 price> B = Custom(T) { logic onTuple T: { submit({price = price}, C); } }
abbrev pub no_port : Invocation
no_port = middle (prices_at 115 121 128) 132 (codes "Custom") (reads 139) (with_logic 144 []
    (on_tuple 150 158 (placed 163 (M.Submit (placed 170 (E.Tuple (field_at 171 (codes "price") (word_at 179 (codes "price")) ∷ []))) (name_at 187 (codes "C"))))))

-- ---- several refusals

-- stream<int64 price> B = Punctor(T) { param punctuation: cost; }
abbrev pub unknown_without_position : Invocation
unknown_without_position = middle (prices_at 115 121 128) 132 (codes "Punctor") (reads 140)
    (with_parameters (parameter_at 151 (codes "punctuation") (word_at 164 (codes "cost")) ∷ []))

-- stream<int64 price> B = Split(T) { config host: 1; }
abbrev pub config_without_index : Invocation
config_without_index =
    middle (prices_at 115 121 128) 132 (codes "Split") (reads 138) (record {
      logic = None;
      window = None;
      parameters = [];
      output = None;
      config = parameter_at 150 (codes "host") (number_at 156 N.I32 1) ∷ [];
    })

-- `int64 f() {}` after the composite
abbrev pub with_function : Invocation → List Definition
with_function i =
    U.Composite (composite_of_graph (name_at 10 (codes "Main")) (source ∷ i ∷ sink ∷ []))
    ∷ U.Function (record { result = Some (int64_at 300); name = name_at 306 (codes "f"); parameters = []; body = [] }) ∷ []

-- a sink without a file
abbrev pub no_file : Invocation
no_file = sink_at 177 183 (codes "Out") 189 (port_at 198 (codes "B")) []

-- a sink that stands before what it reads
abbrev pub sink_first : Invocation → List Definition
sink_first i = U.Composite (composite_of_graph (name_at 10 (codes "Main")) (no_file ∷ source ∷ i ∷ [])) ∷ []

abbrev pub sink_first_graph : Graph
sink_first_graph =
    record filtered_graph {
      ops =
          op_at (codes "Out") O.FileSink ((1 ∷ []) ∷ []) [] 0 0 177
          ∷ op_at (codes "T") O.FileSource [] (0 ∷ []) 0 1 29
          ∷ op_at (codes "B") O.Filter ((0 ∷ []) ∷ []) (1 ∷ []) 0 2 108 ∷ [];
      streams = record { maker = 1; port = 0 } ∷ record { maker = 2; port = 0 } ∷ [];
      topo = 1 ∷ 2 ∷ 0 ∷ [];
    }

-- ---- what is refused

-- the unit has the graph, and this is what is found of it
abbrev pub IsRefused : List Definition → Graph → CheckRefusal → Type 0
IsRefused unit g r = IsFlat unit [] (Ok g) × (checked unit g ≡ Err r)
