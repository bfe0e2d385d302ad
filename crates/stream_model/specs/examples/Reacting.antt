-- An operator of each kind, and streams, for worked cases of what operators give.
use Rattle.std.specs.Prelude.{ℕ, ℤ, pos, true, false, List, [], ◌∷◌, map, Option, Some, None, codes}
use Rattle.spl_value.specs.declared.item.Item.{Item}
use Rattle.spl_value.specs.declared.item.Item.TheVariants as I
use Rattle.spl_value.specs.declared.item.FaultKind.{FaultKind}
use Rattle.spl_value.specs.declared.types.IntKind.TheVariants as N
use Rattle.spl_value.specs.declared.types.SplType.TheVariants as T
use Rattle.spl_value.specs.declared.value.Value.TheVariants as V
use Rattle.spl_tree.specs.declared.body.Change.TheVariants as H
use Rattle.spl_tree.specs.declared.body.Statement.{Statement}
use Rattle.spl_tree.specs.declared.body.Statement.TheVariants as S
use Rattle.spl_tree.specs.declared.code.BinaryCode.TheVariants as D
use Rattle.spl_tree.specs.declared.code.Code.{Code}
use Rattle.spl_tree.specs.declared.code.Code.TheVariants as C
use Rattle.spl_tree.specs.declared.code.IntegerOperator.TheVariants as O
use Rattle.spl_tree.specs.declared.code.Marker.TheVariants as M
use Rattle.spl_tree.specs.declared.code.OrderOperator.TheVariants as R
use Rattle.spl_tree.specs.declared.code.Slot.{Slot}
use Rattle.spl_tree.specs.declared.code.Slot.TheVariants as L
use Rattle.language_model.specs.declared.checked.CollectedAttribute.{CollectedAttribute}
use Rattle.language_model.specs.declared.checked.Collector.{Collector}
use Rattle.language_model.specs.declared.checked.Collector.TheVariants as K
use Rattle.language_model.specs.declared.checked.CheckedClauses.TheVariants as A
use Rattle.language_model.specs.declared.checked.Position.{Position}
use Rattle.language_model.specs.declared.checked.StateVariable.{StateVariable}
use Rattle.language_model.specs.declared.checked.WindowRule.{WindowRule}
use Rattle.language_model.specs.declared.checked.WindowRule.TheVariants as W
use Rattle.stream_model.specs.Stream.{Event, came}
use Rattle.stream_model.specs.Windows.{in_order}
use Rattle.stream_model.specs.Operators.{Operator}
use Rattle.stream_model.specs.Stages.{out}
use Rattle.stream_model.specs.Meaning.{arrive}
use Rattle.stream_model.specs.examples.RecordExamples.{lists_of}
use Rattle.stream_model.specs.examples.SomeOperators.{operator_of}

-- ---- items

-- a tuple of numbers, and one of a text and numbers
abbrev pub numbers : List ℤ → Item
numbers ns = I.Tuple (map V.Int ns)

abbrev pub row : List ℕ → List ℤ → Item
row text ns = I.Tuple (V.Text text ∷ map V.Int ns)

-- the fault of operator 1
abbrev pub fault : FaultKind → Item
fault kind = I.Bad (record { op = 1; kind = kind; line = 0 })

-- what an operator with one connection gives on a port for these items
abbrev pub gives_items : Operator → ℕ → List Item → List Item
gives_items op p items = out op p (map (came 0) items)

-- the history of these items, which came in this order on the one connection
abbrev pub after : List Item → List Event
after items = map (came 0) (in_order items)

-- ---- codes

-- an attribute of the first port and of the second, a number, and a text
abbrev pub of_first : ℕ → Code Slot
of_first i = C.Name (L.Attribute 0 i)

abbrev pub of_second : ℕ → Code Slot
of_second i = C.Name (L.Attribute 1 i)

abbrev pub literal : ℤ → Code Slot
literal n = C.Literal (V.Int n)

-- ---- operators with one input

-- operator 1, which reads stream 0 and makes stream 1
abbrev pub passing_numbers : Operator
passing_numbers = operator_of 1 (A.Filter (Some (C.Binary (D.Order R.Greater) (of_first 0) (literal (pos 10))))) ((0 ∷ []) ∷ []) (1 ∷ [])

abbrev pub functor : Option (Code Slot) → List (ℕ × Code Slot) → Operator
functor condition fields = operator_of 1 (A.Functor condition (C.Tuple fields)) ((0 ∷ []) ∷ []) (1 ∷ [])

-- `b = 100 / a` where the condition holds
abbrev pub dividing : Option (Code Slot) → Operator
dividing condition = functor condition ((0, C.Binary (D.Integers O.Divide N.I32) (literal (pos 100)) (of_first 0)) ∷ [])

-- a condition that faults where the number is 0: `7 % a < 3`
abbrev pub small_rest : Code Slot
small_rest = C.Binary (D.Order R.Less) (C.Binary (D.Integers O.Remainder N.I32) (literal (pos 7)) (of_first 0)) (literal (pos 3))

-- `s = a + b` of two int8
abbrev pub adding : Operator
adding = functor None ((0, C.Binary (D.Integers O.Add N.I8) (of_first 0) (of_first 1)) ∷ [])

-- a marker where the number is 0
abbrev pub punctor : Position → Operator
punctor position = operator_of 1 (A.Punctor (C.Binary D.Equal (of_first 0) (literal (pos 0))) position) ((0 ∷ []) ∷ []) (1 ∷ [])

-- by the number, over two ports
abbrev pub split : Operator
split = operator_of 1 (A.Split (of_first 0)) ((0 ∷ []) ∷ []) (1 ∷ 2 ∷ [])

-- ---- a Custom

abbrev pub variable : List ℕ → ℤ → StateVariable
variable name first = record { variable = record { name = name; kind = T.Int N.I64; mutable = true }; first = literal first }

abbrev pub custom : List StateVariable → List (Option (List Statement)) → List (Option (List Statement)) → List (List ℕ) → Operator
custom state on_tuple on_punct ins = operator_of 1 (A.Custom (record { state = state; on_tuple = on_tuple; on_punct = on_punct })) ins (1 ∷ [])

-- `n += a`, where n is the variable of the state with this number
abbrev pub add_to : ℕ → Statement
add_to n = S.Change (record { variable = n; takings = [] }) (H.Put (C.Binary (D.Integers O.Add N.I64) (C.Name (L.Variable n)) (of_first 0)))

abbrev pub submit : Code Slot → Statement
submit code = S.Submit 0 (C.Tuple ((0, code) ∷ []))

-- the sum so far at each number, a window marker for each window marker, and the sum at the end
abbrev pub summing : Operator
summing = custom (variable (codes "n") (pos 0) ∷ [])
    (Some (add_to 0 ∷ submit (C.Name (L.Variable 0)) ∷ []) ∷ [])
    (Some (S.If ((C.IsMarker M.Window, S.SubmitWindow 0 ∷ []) ∷ []) (submit (C.Name (L.Variable 0)) ∷ []) ∷ []) ∷ [])
    ((0 ∷ []) ∷ [])

-- each number three times
abbrev pub tripling : Operator
tripling = custom [] (Some (submit (of_first 0) ∷ submit (of_first 0) ∷ submit (of_first 0) ∷ []) ∷ []) (None ∷ []) ((0 ∷ []) ∷ [])

-- two submits, and then `100 / a`
abbrev pub late_fault : Operator
late_fault = custom (variable (codes "n") (pos 5) ∷ [])
    (Some (submit (C.Name (L.Variable 0)) ∷ submit (C.Binary (D.Integers O.Divide N.I64) (literal (pos 100)) (of_first 0)) ∷ []) ∷ []) (None ∷ []) ((0 ∷ []) ∷ [])

-- the sum of the numbers on two ports, at the end of each
abbrev pub summing_two : Operator
summing_two = custom (variable (codes "n") (pos 0) ∷ [])
    (Some (add_to 0 ∷ []) ∷ Some (add_to 0 ∷ []) ∷ [])
    (None ∷ Some (submit (C.Name (L.Variable 0)) ∷ []) ∷ [])
    ((0 ∷ 1 ∷ []) ∷ (2 ∷ []) ∷ [])

-- ---- a Union

-- of numbers with their place first, and of those with their place second
abbrev pub union : Operator
union = operator_of 1 (A.Union ((0 ∷ []) ∷ (1 ∷ []) ∷ [])) ((0 ∷ []) ∷ (1 ∷ []) ∷ []) (2 ∷ [])

-- ---- Aggregates

abbrev pub gets : ℕ → Collector → Code Slot → CollectedAttribute
gets i collector code = record { attribute = i; collector = collector; argument = Some code }

-- by the text of a tuple of a text and a number: `k = Any(k), s = Sum(v)`
abbrev pub sums : WindowRule → Operator
sums rule = operator_of 1
    (A.Aggregate (record { partitioned = true; rule = rule }) (0 ∷ []) [] (gets 0 K.First (of_first 0) ∷ gets 1 (K.Sum N.I64) (of_first 1) ∷ []))
    ((0 ∷ []) ∷ []) (1 ∷ [])

-- of all tuples of a time and a number: `s = Sum(v)`
abbrev pub sums_by_time : Operator
sums_by_time = operator_of 1
    (A.Aggregate (record { partitioned = false; rule = W.TumblingDelta 0 (pos 10) }) [] [] (gets 0 (K.Sum N.I64) (of_first 1) ∷ []))
    ((0 ∷ []) ∷ []) (1 ∷ [])

-- the number of tuples whose time is no more than 5 below the last one's
abbrev pub counts_near : Operator
counts_near = operator_of 1
    (A.Aggregate (record { partitioned = false; rule = W.SlidingDelta 0 (pos 5) (Some 1) }) [] [] (record { attribute = 0; collector = K.Count; argument = None } ∷ []))
    ((0 ∷ []) ∷ []) (1 ∷ [])

-- of three tuples of a text and a number, by the text: the text, the number of tuples, the least, greatest and last number
abbrev pub grouped : Operator
grouped = operator_of 1
    (A.Aggregate (record { partitioned = false; rule = W.TumblingCount 3 }) [] (0 ∷ [])
    (gets 0 K.First (of_first 0) ∷ record { attribute = 1; collector = K.Count; argument = None } ∷ gets 2 K.Min (of_first 1) ∷ gets 3 K.Max (of_first 1) ∷ gets 4 K.Last (of_first 1) ∷ []))
    ((0 ∷ []) ∷ []) (1 ∷ [])

-- of three numbers: `s = Sum(100 / a)` over int8, which wraps in int8 and faults at 0
abbrev pub dividing_sums : Operator
dividing_sums = operator_of 1
    (A.Aggregate (record { partitioned = false; rule = W.TumblingCount 3 }) [] []
    (gets 0 (K.Sum N.I8) (C.Binary (D.Integers O.Divide N.I8) (literal (pos 100)) (of_first 0)) ∷ []))
    ((0 ∷ []) ∷ []) (1 ∷ [])

-- ---- a Join

-- of texts, none of which is kept, and of texts and numbers, of which the last two are: those with the same text
abbrev pub join : Operator
join = operator_of 1
    (A.Join (record { partitioned = false; rule = W.SlidingCount 0 None }) (record { partitioned = false; rule = W.SlidingCount 2 None })
    (Some (C.Binary D.Equal (of_first 0) (of_second 0))) (C.Tuple ((0, of_first 0) ∷ (1, of_second 1) ∷ [])))
    ((0 ∷ []) ∷ (1 ∷ []) ∷ []) (2 ∷ [])

-- what it gives for the lists of its two inputs under a record
abbrev pub joined : List Item → List Item → List ℕ → List Item
joined left right entries = out join 0 (arrive (lists_of left right) entries)

-- ---- what an operator may be asked

-- a Functor from streams of a number `a` to such streams: `a = a + 1l`
abbrev pub adding_one : Operator
adding_one =
    record {
      number = 1;
      clauses = A.Functor None (C.Tuple ((0, C.Binary (D.Integers O.Add N.I64) (of_first 0) (literal (pos 1))) ∷ []));
      functions = [];
      types = record { ins = (record { name = codes "a"; kind = T.Int N.I64 } ∷ []) ∷ []; outs = (record { name = codes "a"; kind = T.Int N.I64 } ∷ []) ∷ [] };
      ins = (0 ∷ []) ∷ [];
      outs = 1 ∷ [];
    }
