-- The graph of operators of a checked graph, whose meaning is what the program means.
use Prim.Native.Nat.{suc}
use Rattle.std.specs.Prelude.{ℕ, List, [], ◌∷◌, map, slice_get}
use Rattle.std.specs.Option.{option_map_or, unwrap_or}
use Rattle.spl_tree.specs.declared.graph.Op.{Op}
use Rattle.language_model.specs.declared.checked.CheckedClauses.{CheckedClauses}
use Rattle.language_model.specs.CheckedGraph.{CheckedGraph}
use Rattle.language_model.specs.StreamTypes.{Attributes}
use Rattle.stream_model.specs.Meaning.{Graph}
use Rattle.stream_model.specs.Operators.{Operator}

-- the attributes of a stream
abbrev pub schema_at : CheckedGraph → ℕ → Attributes
schema_at c s = unwrap_or (slice_get c.schemas s) []

-- the attributes of the streams of a port, which are those of the first
abbrev pub first_schema : CheckedGraph → List ℕ → Attributes
first_schema c streams = option_map_or (schema_at c) (slice_get streams 0) []

-- the operator with this number and these clauses
abbrev pub operator_with : CheckedGraph → ℕ → Op → CheckedClauses → Operator
operator_with c n op part = record {
  number = n;
  clauses = part;
  functions = c.functions;
  types = record { ins = map (first_schema c) op.ins; outs = map (schema_at c) op.outs };
  ins = op.ins;
  outs = op.outs;
}

-- operators with their clauses, numbered from n on
abbrev pub operators_from : CheckedGraph → ℕ → List Op → List CheckedClauses → List Operator
operators_from c n (op ∷ ops) (part ∷ parts) = operator_with c n op part ∷ operators_from c (suc n) ops parts
operators_from c n _ _ = []

abbrev pub graph_of : CheckedGraph → Graph
graph_of c = record { ops = operators_from c 0 c.graph.ops c.parts; topo = c.graph.topo }
