-- A worked graph: two filters between a source and a sink, and a sink of all rows. The first filter passes numbers by which twelve is
-- divided to more than one, and the second one passes all.
use Rattle.std.specs.Prelude.{ℕ, pos, List, [], ◌∷◌, Option, None, Some, true, codes}
use Rattle.spl_value.specs.declared.types.IntKind.TheVariants.{I32}
use Rattle.spl_value.specs.declared.types.SplType.TheVariants as T
use Rattle.spl_value.specs.declared.value.Value.TheVariants as V
use Rattle.spl_value.specs.declared.item.Item.{Item}
use Rattle.spl_value.specs.declared.item.Item.TheVariants as I
use Rattle.spl_tree.specs.declared.code.BinaryCode.TheVariants as D
use Rattle.spl_tree.specs.declared.code.Code.{Code}
use Rattle.spl_tree.specs.declared.code.Code.TheVariants as C
use Rattle.spl_tree.specs.declared.code.IntegerOperator.TheVariants.{Divide}
use Rattle.spl_tree.specs.declared.code.OrderOperator.TheVariants.{Less}
use Rattle.spl_tree.specs.declared.code.Slot.{Slot}
use Rattle.spl_tree.specs.declared.code.Slot.TheVariants as L
use Rattle.spl_tree.specs.declared.graph.OpKind.TheVariants as O
use Rattle.language_model.specs.declared.checked.CheckedClauses.TheVariants as A
use Rattle.language_model.specs.CheckedGraph.{CheckedGraph}
use Rattle.stream_model.specs.examples.CheckedGraphs.{op_of}
use Rattle.stream_model.specs.Meaning.{Graph}
use Rattle.stream_model.specs.Operators.{Operator}
use Rattle.language_model.specs.StreamTypes.{Attributes}

abbrev pub numbers : Attributes
numbers = record { name = codes "n"; kind = T.Int I32 } ∷ []

abbrev pub divides : Code Slot
divides = C.Binary (D.Order Less) (C.Literal (V.Int (pos 1))) (C.Binary (D.Integers Divide I32) (C.Literal (V.Int (pos 12))) (C.Name (L.Attribute 0 0)))

abbrev pub chain : CheckedGraph
chain =
    record {
      graph = record {
        ops = op_of O.FileSource [] (0 ∷ []) ∷ op_of O.Filter ((0 ∷ []) ∷ []) (1 ∷ []) ∷ op_of O.Filter ((1 ∷ []) ∷ []) (2 ∷ [])
            ∷ op_of O.FileSink ((2 ∷ []) ∷ []) [] ∷ op_of O.FileSink ((0 ∷ []) ∷ []) [] ∷ [];
        streams = record { maker = 0; port = 0 } ∷ record { maker = 1; port = 0 } ∷ record { maker = 2; port = 0 } ∷ [];
        expansions = [];
        topo = 0 ∷ 1 ∷ 2 ∷ 3 ∷ 4 ∷ [];
      };
      schemas = numbers ∷ numbers ∷ numbers ∷ [];
      functions = [];
      parts = A.FileSource (codes "in") true ∷ A.Filter (Some divides) ∷ A.Filter None ∷ A.FileSink (codes "some") ∷ A.FileSink (codes "all") ∷ [];
    }

-- its operators
abbrev pub chain_graph : Graph
chain_graph =
    record {
      ops = record { number = 0; clauses = A.FileSource (codes "in") true; functions = []; types = record { ins = []; outs = numbers ∷ [] }; ins = []; outs = 0 ∷ [] }
          ∷ record { number = 1; clauses = A.Filter (Some divides); functions = []; types = record { ins = numbers ∷ []; outs = numbers ∷ [] }; ins = (0 ∷ []) ∷ []; outs = 1 ∷ [] }
          ∷ record { number = 2; clauses = A.Filter None; functions = []; types = record { ins = numbers ∷ []; outs = numbers ∷ [] }; ins = (1 ∷ []) ∷ []; outs = 2 ∷ [] }
          ∷ record { number = 3; clauses = A.FileSink (codes "some"); functions = []; types = record { ins = numbers ∷ []; outs = [] }; ins = (2 ∷ []) ∷ []; outs = [] }
          ∷ record { number = 4; clauses = A.FileSink (codes "all"); functions = []; types = record { ins = numbers ∷ []; outs = [] }; ins = (0 ∷ []) ∷ []; outs = [] } ∷ [];
      topo = 0 ∷ 1 ∷ 2 ∷ 3 ∷ 4 ∷ [];
    }

-- rows of four numbers
abbrev pub row : ℕ → Item
row n = I.Tuple (V.Int (pos n) ∷ [])

abbrev pub chain_rows : List (List Item)
chain_rows = (row 3 ∷ row 12 ∷ row 0 ∷ row 4 ∷ I.Window ∷ I.Final ∷ []) ∷ [] ∷ [] ∷ [] ∷ [] ∷ []

-- its operators, each of which is its own meaning
abbrev pub chain_operators : List (Option Operator)
chain_operators =
    None
    ∷ Some (record { number = 1; clauses = A.Filter (Some divides); functions = []; types = record { ins = numbers ∷ []; outs = numbers ∷ [] }; ins = (0 ∷ []) ∷ []; outs = 1 ∷ [] })
    ∷ Some (record { number = 2; clauses = A.Filter None; functions = []; types = record { ins = numbers ∷ []; outs = numbers ∷ [] }; ins = (1 ∷ []) ∷ []; outs = 2 ∷ [] })
    ∷ Some (record { number = 3; clauses = A.FileSink (codes "some"); functions = []; types = record { ins = numbers ∷ []; outs = [] }; ins = (2 ∷ []) ∷ []; outs = [] })
    ∷ Some (record { number = 4; clauses = A.FileSink (codes "all"); functions = []; types = record { ins = numbers ∷ []; outs = [] }; ins = (0 ∷ []) ∷ []; outs = [] }) ∷ []
