-- Checked graphs of a source and an operator that reads it.
use Rattle.std.specs.Prelude.{ℕ, true, List, [], ◌∷◌, codes}
use Rattle.spl_tree.specs.declared.graph.Op.{Op}
use Rattle.spl_tree.specs.declared.graph.OpKind.{OpKind}
use Rattle.spl_tree.specs.declared.graph.OpKind.TheVariants as O
use Rattle.spl_value.specs.declared.types.IntKind.TheVariants as N
use Rattle.spl_value.specs.declared.types.SplType.TheVariants as T
use Rattle.language_model.specs.declared.checked.CheckedClauses.{CheckedClauses}
use Rattle.language_model.specs.declared.checked.CheckedClauses.TheVariants as A
use Rattle.language_model.specs.CheckedGraph.{CheckedGraph}
use Rattle.language_model.specs.StreamTypes.{Attributes}

abbrev pub op_of : OpKind → List (List ℕ) → List ℕ → Op
op_of kind ins outs = record { name = []; kind = kind; ins = ins; outs = outs; site = record { expansion = 0; invocation = 0 }; at = 0 }

-- the attributes of a stream of texts, and of one of numbers
abbrev pub texts : Attributes
texts = record { name = codes "line"; kind = T.Text } ∷ []

abbrev pub ids : Attributes
ids = record { name = codes "id"; kind = T.Int N.U32 } ∷ []

-- a source of texts, and an operator with these clauses that reads it, and makes streams of numbers and of texts
abbrev pub after_source : OpKind → List ℕ → CheckedClauses → CheckedGraph
after_source kind outs part =
    record {
      graph = record {
        ops = op_of O.FileSource [] (0 ∷ []) ∷ op_of kind ((0 ∷ []) ∷ []) outs ∷ [];
        streams = record { maker = 0; port = 0 } ∷ [];
        expansions = [];
        topo = 0 ∷ 1 ∷ [];
      };
      schemas = texts ∷ ids ∷ texts ∷ [];
      functions = [];
      parts = A.FileSource (codes "in") true ∷ part ∷ [];
    }
