-- Some units, as trees, and their graphs.
use Rattle.std.specs.Prelude.{ℕ, List, [], ◌∷◌, Option, Some, None, codes}
use Rattle.spl_value.specs.declared.types.IntKind.TheVariants as N
use Rattle.spl_tree.specs.declared.expression.Placed.{Placed}
use Rattle.spl_tree.specs.declared.graph.Graph.{Graph}
use Rattle.spl_tree.specs.declared.graph.Op.{Op}
use Rattle.spl_tree.specs.declared.graph.OpKind.{OpKind}
use Rattle.spl_tree.specs.declared.graph.OpKind.TheVariants as O
use Rattle.spl_tree.specs.declared.shape.ShapeKind.TheVariants as H
use Rattle.spl_tree.specs.declared.shape.TypeKind.TheVariants as Y
use Rattle.spl_tree.specs.declared.unit.Composite.{Composite}
use Rattle.spl_tree.specs.declared.unit.Definition.{Definition}
use Rattle.spl_tree.specs.declared.unit.Definition.TheVariants as D
use Rattle.spl_tree.specs.declared.unit.Invocation.{Invocation}
use Rattle.spl_tree.specs.declared.unit.InputPort.{InputPort}
use Rattle.spl_tree.specs.declared.unit.OutputStream.{OutputStream}
use Rattle.spl_tree.specs.Trees.{placed, Shape}
use Rattle.language_model.specs.Scopes.{At, at_place}

-- ---- parts

abbrev pub name_at : ℕ → List ℕ → Placed (List ℕ)
name_at at name = placed at name

abbrev pub some_shape : Shape
some_shape = placed 0 (H.Type (placed 0 (Y.Int N.I64)))

abbrev pub output_at : ℕ → List ℕ → OutputStream
output_at at name = record { shape = some_shape; name = placed at name }

abbrev pub port_of_names : List (Placed (List ℕ)) → InputPort
port_of_names names = record { streams = names; alias = None }

abbrev pub invocation_of : ℕ → List OutputStream → Option (Placed (List ℕ)) → Placed (List ℕ) → List InputPort → Invocation
invocation_of at outputs alias operator inputs =
    record {
      at = at;
      outputs = outputs;
      alias = alias;
      operator = operator;
      inputs = inputs;
      clauses = record { logic = None; window = None; parameters = []; output = None; config = [] };
    }

abbrev pub composite_of_graph : Placed (List ℕ) → List Invocation → Composite
composite_of_graph name graph = record { name = name; outputs = []; inputs = []; parameters = []; types = []; graph = graph; config = [] }

-- ---- the same name twice

-- type T = int64; type T = int64;
abbrev pub two_types : List Definition
two_types =
    D.Type (record { name = placed 5 (codes "T"); shape = some_shape })
    ∷ D.Type (record { name = placed 21 (codes "T"); shape = some_shape }) ∷ []

-- ---- a composite that is invoked twice

-- composite P(output O; input I) { graph stream<int64> M = Filter(I); stream<int64> O = Filter(M); }
abbrev pub twice_filtered : Composite
twice_filtered =
    record {
      name = placed 10 (codes "P");
      outputs = record { shape = None; name = placed 19 (codes "O") } ∷ [];
      inputs = record { shape = None; name = placed 28 (codes "I") } ∷ [];
      parameters = [];
      types = [];
      graph =
          invocation_of 39 (output_at 53 (codes "M") ∷ []) None (name_at 57 (codes "Filter")) (port_of_names (name_at 64 (codes "I") ∷ []) ∷ [])
          ∷ invocation_of 68 (output_at 82 (codes "O") ∷ []) None (name_at 86 (codes "Filter")) (port_of_names (name_at 93 (codes "M") ∷ []) ∷ []) ∷ [];
      config = [];
    }

-- composite Main { graph
--   () as Out = FileSink(Y);
--   stream<int64> Y = P(X, S);
--   stream<int64> X = P(S);
--   stream<int64> S = FileSource();
-- }
abbrev pub reversed_main : Composite
reversed_main = composite_of_graph (placed 110 (codes "Main"))
    (invocation_of 200 [] (Some (placed 206 (codes "Out"))) (name_at 212 (codes "FileSink")) (port_of_names (name_at 221 (codes "Y") ∷ []) ∷ [])
    ∷ invocation_of 300 (output_at 314 (codes "Y") ∷ []) None (name_at 318 (codes "P")) (port_of_names (name_at 320 (codes "X") ∷ name_at 323 (codes "S") ∷ []) ∷ [])
    ∷ invocation_of 400 (output_at 414 (codes "X") ∷ []) None (name_at 418 (codes "P")) (port_of_names (name_at 420 (codes "S") ∷ []) ∷ [])
    ∷ invocation_of 500 (output_at 514 (codes "S") ∷ []) None (name_at 518 (codes "FileSource")) [] ∷ [])

abbrev pub reversed : List Definition
reversed = D.Composite twice_filtered ∷ D.Composite reversed_main ∷ []

-- the main composite without the one that it invokes
abbrev pub unknown_composite : List Definition
unknown_composite = D.Composite reversed_main ∷ []

abbrev pub op_at : List ℕ → OpKind → List (List ℕ) → List ℕ → ℕ → ℕ → ℕ → Op
op_at name kind ins outs expansion invocation at =
    record {
      name = name;
      kind = kind;
      ins = ins;
      outs = outs;
      site = record { expansion = expansion; invocation = invocation };
      at = at;
    }

-- Out, Y.M, Y.O, X.M, X.O and S, with a stream of each but the first
abbrev pub reversed_graph : Graph
reversed_graph =
    record {
      ops =
          op_at (codes "Out") O.FileSink ((1 ∷ []) ∷ []) [] 0 0 200
          ∷ op_at (codes "Y.M") O.Filter ((3 ∷ 4 ∷ []) ∷ []) (0 ∷ []) 1 0 39
          ∷ op_at (codes "Y.O") O.Filter ((0 ∷ []) ∷ []) (1 ∷ []) 1 1 68
          ∷ op_at (codes "X.M") O.Filter ((4 ∷ []) ∷ []) (2 ∷ []) 2 0 39
          ∷ op_at (codes "X.O") O.Filter ((2 ∷ []) ∷ []) (3 ∷ []) 2 1 68
          ∷ op_at (codes "S") O.FileSource [] (4 ∷ []) 0 3 500 ∷ [];
      streams =
          record { maker = 1; port = 0 } ∷ record { maker = 2; port = 0 } ∷ record { maker = 3; port = 0 } ∷ record { maker = 4; port = 0 }
          ∷ record { maker = 5; port = 0 } ∷ [];
      expansions =
          record { composite = 1; site = None; streams = 1 ∷ 3 ∷ 4 ∷ []; inputs = [] }
          ∷ record { composite = 0; site = Some (record { expansion = 0; invocation = 1 }); streams = 0 ∷ 1 ∷ []; inputs = record { count = 2; first = 3 } ∷ [] }
          ∷ record { composite = 0; site = Some (record { expansion = 0; invocation = 2 }); streams = 2 ∷ 3 ∷ []; inputs = record { count = 1; first = 4 } ∷ [] } ∷ [];
      topo = 5 ∷ 3 ∷ 4 ∷ 1 ∷ 2 ∷ 0 ∷ [];
    }

-- ---- loops

-- composite Main { graph stream<int64> A = Filter(B); stream<int64> B = Filter(A); }, with an alias at A
abbrev pub loop_of_two : List Definition
loop_of_two = D.Composite (composite_of_graph (placed 10 (codes "Main"))
    (invocation_of 20 (output_at 30 (codes "A") ∷ []) (Some (placed 35 (codes "L"))) (name_at 40 (codes "Filter")) (port_of_names (name_at 50 (codes "B") ∷ []) ∷ [])
    ∷ invocation_of 60 (output_at 70 (codes "B") ∷ []) None (name_at 80 (codes "Filter")) (port_of_names (name_at 90 (codes "A") ∷ []) ∷ []) ∷ [])) ∷ []

abbrev pub only_composite : List Definition → At Composite
only_composite (D.Composite c ∷ ds) = at_place 0 c
only_composite ds = at_place 0 (composite_of_graph (placed 0 []) [])
