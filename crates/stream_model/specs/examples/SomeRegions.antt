-- Graphs with operators that may run in replicas, and their plans.
use Rattle.std.specs.Prelude.{ℕ, pos, true, List, [], ◌∷◌, Option, Some, None, codes}
use Rattle.spl_value.specs.declared.types.IntKind.TheVariants as N
use Rattle.spl_value.specs.declared.types.SplType.TheVariants as T
use Rattle.spl_tree.specs.declared.body.Statement.{Statement}
use Rattle.spl_tree.specs.declared.body.Statement.TheVariants as S
use Rattle.spl_tree.specs.declared.code.BinaryCode.TheVariants as D
use Rattle.spl_tree.specs.declared.code.Code.{Code}
use Rattle.spl_tree.specs.declared.code.Code.TheVariants as C
use Rattle.spl_tree.specs.declared.code.IntegerOperator.TheVariants as O
use Rattle.spl_tree.specs.declared.code.Marker.TheVariants as M
use Rattle.spl_tree.specs.declared.code.OrderOperator.TheVariants as R
use Rattle.spl_tree.specs.declared.code.Slot.{Slot}
use Rattle.language_model.specs.declared.checked.CollectedAttribute.{CollectedAttribute}
use Rattle.language_model.specs.declared.checked.Collector.TheVariants as K
use Rattle.language_model.specs.declared.checked.CheckedClauses.{CheckedClauses}
use Rattle.language_model.specs.declared.checked.CheckedClauses.TheVariants as A
use Rattle.language_model.specs.declared.checked.WindowRule.{WindowRule}
use Rattle.language_model.specs.declared.checked.WindowRule.TheVariants as W
use Rattle.language_model.specs.StreamTypes.{Attributes}
use Rattle.stream_model.specs.declared.plan.Merge.TheVariants as G
use Rattle.stream_model.specs.declared.plan.Region.{Region}
use Rattle.stream_model.specs.Meaning.{Graph}
use Rattle.stream_model.specs.examples.Reacting.{of_first, literal, gets}

-- ---- a row of operators

-- attributes of numbers
abbrev pub numbers : List (List ℕ) → Attributes
numbers [] = []
numbers (name ∷ names) = record { name = name; kind = T.Int N.I64 } ∷ numbers names

abbrev pub abv : Attributes
abv = numbers (codes "a" ∷ codes "b" ∷ codes "v" ∷ [])

-- a source of stream 0, an operator that makes stream 1 of it, one that makes stream 2 of that, and a sink of that, where streams have these
-- attributes
abbrev pub row_of : Attributes → CheckedClauses → Attributes → CheckedClauses → Attributes → Graph
row_of zeroth first between second last =
    record {
      ops = record { number = 0; clauses = A.FileSource (codes "t") true; functions = []; types = record { ins = []; outs = zeroth ∷ [] }; ins = []; outs = 0 ∷ [] }
          ∷ record { number = 1; clauses = first; functions = []; types = record { ins = zeroth ∷ []; outs = between ∷ [] }; ins = (0 ∷ []) ∷ []; outs = 1 ∷ [] }
          ∷ record { number = 2; clauses = second; functions = []; types = record { ins = between ∷ []; outs = last ∷ [] }; ins = (1 ∷ []) ∷ []; outs = 2 ∷ [] }
          ∷ record { number = 3; clauses = A.FileSink (codes "o"); functions = []; types = record { ins = last ∷ []; outs = [] }; ins = (2 ∷ []) ∷ []; outs = [] } ∷ [];
      topo = 0 ∷ 1 ∷ 2 ∷ 3 ∷ [];
    }

-- ---- clauses

-- an Aggregate of partitions by these places
abbrev pub partitioned : WindowRule → List ℕ → List CollectedAttribute → CheckedClauses
partitioned rule places collects = A.Aggregate (record { partitioned = true; rule = rule }) places [] collects

-- `a = Any(a), b = Any(b), s = Sum(v)`, and `b = Any(b), s = Sum(s)` of these
abbrev pub three : List CollectedAttribute
three = gets 0 K.First (of_first 0) ∷ gets 1 K.First (of_first 1) ∷ gets 2 (K.Sum N.I64) (of_first 2) ∷ []

abbrev pub two : List CollectedAttribute
two = gets 0 K.First (of_first 1) ∷ gets 1 (K.Sum N.I64) (of_first 2) ∷ []

-- two Aggregates in a row, the second by `b`
abbrev pub by_second : List ℕ → Graph
by_second places = row_of abv (partitioned (W.TumblingCount 2) places three) (numbers (codes "a" ∷ codes "b" ∷ codes "s" ∷ []))
    (partitioned (W.TumblingCount 2) (1 ∷ []) two) (numbers (codes "b" ∷ codes "s" ∷ []))

-- `k = k + 1l`, and then an Aggregate by `k`: `k = Any(k)`
abbrev pub changed_key : Graph
changed_key = row_of (numbers (codes "k" ∷ [])) (A.Functor None (C.Tuple ((0, C.Binary (D.Integers O.Add N.I64) (of_first 0) (literal (pos 1))) ∷ [])))
    (numbers (codes "k" ∷ [])) (partitioned (W.TumblingCount 2) (0 ∷ []) (gets 0 K.First (of_first 0) ∷ [])) (numbers (codes "k" ∷ []))

-- ---- Customs

abbrev pub submits : Statement
submits = S.Submit 0 (C.Tuple ((0, of_first 0) ∷ []))

abbrev pub is_positive : Code Slot
is_positive = C.Binary (D.Order R.Greater) (of_first 0) (literal (pos 0))

-- `if (price > 0l) submit({n = price}, C);`
abbrev pub only_positive : List Statement
only_positive = S.If ((is_positive, submits ∷ []) ∷ []) [] ∷ []

-- and else a submit too
abbrev pub either_way : List Statement
either_way = S.If ((is_positive, submits ∷ []) ∷ []) (submits ∷ []) ∷ []

-- a window marker exactly where one came
abbrev pub same_marker : List Statement
same_marker = S.If ((C.IsMarker M.Window, S.SubmitWindow 0 ∷ []) ∷ []) [] ∷ []

abbrev pub custom : List Statement → List (Option (List Statement)) → CheckedClauses
custom on_tuple on_punct = A.Custom (record { state = []; on_tuple = Some on_tuple ∷ []; on_punct = on_punct })

-- ---- plans

abbrev pub one_region : List Region
one_region = record { ops = 1 ∷ 2 ∷ []; key = 1 ∷ []; merge = G.Pulses } ∷ []

abbrev pub two_regions : List Region
two_regions = record { ops = 1 ∷ []; key = 0 ∷ []; merge = G.Pulses } ∷ record { ops = 2 ∷ []; key = 1 ∷ []; merge = G.Pulses } ∷ []
