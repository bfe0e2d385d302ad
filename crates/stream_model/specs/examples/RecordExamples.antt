-- Operators with two inputs, and lists of these, for worked cases of arrival records.
use Rattle.std.specs.Prelude.{ℕ, ◌==◌, pos, List, [], ◌∷◌, Some, if◌then◌else◌}
use Rattle.spl_value.specs.declared.item.FaultKind.TheVariants as K
use Rattle.spl_value.specs.declared.item.Item.{Item}
use Rattle.spl_value.specs.declared.item.Item.TheVariants as I
use Rattle.spl_value.specs.declared.value.Value.TheVariants as V
use Rattle.spl_tree.specs.declared.code.Code.{Code}
use Rattle.spl_tree.specs.declared.code.Code.TheVariants as C
use Rattle.spl_tree.specs.declared.code.Selector.TheVariants as A
use Rattle.spl_tree.specs.declared.code.Slot.{Slot}
use Rattle.language_model.specs.declared.checked.CheckedClauses.TheVariants as P
use Rattle.stream_model.specs.Operators.{Operator}
use Rattle.stream_model.specs.examples.SomeOperators.{operator_of}
use Rattle.stream_model.specs.Meaning.{Lists}

-- a sink whose port takes two streams
abbrev pub two_streams : Operator
two_streams = operator_of 2 (P.FileSink []) ((0 ∷ 1 ∷ []) ∷ []) []

-- one with two ports of a stream each
abbrev pub one_stream_each : Operator
one_stream_each = operator_of 2 (P.FileSink []) ((0 ∷ []) ∷ (1 ∷ []) ∷ []) []

-- the first element of an empty list
abbrev pub no_element : Code Slot
no_element = C.Select (C.Literal (V.List [])) (A.Element (C.Literal (V.Int (pos 0))) ∷ [])

-- a filter whose port takes two streams, and whose condition faults at each tuple
abbrev pub faulting : Operator
faulting = operator_of 2 (P.Filter (Some no_element)) ((0 ∷ 1 ∷ []) ∷ []) (2 ∷ [])

abbrev pub tuple : ℕ → Item
tuple n = I.Tuple (V.Int (pos n) ∷ [])

-- two rows, and one
abbrev pub two_rows : List Item
two_rows = tuple 1 ∷ tuple 2 ∷ I.Window ∷ I.Final ∷ []

abbrev pub one_row : List Item
one_row = tuple 3 ∷ I.Window ∷ I.Final ∷ []

-- no row, and then a fault
abbrev pub bad_row : List Item
bad_row = I.Bad (record { op = 1; kind = K.BadRow; line = 1 }) ∷ []

-- the lists of two inputs; none past them
abbrev pub lists_of : (first second : List Item) → Lists
lists_of first second i = if i == 0 then first else if i == 1 then second else []
