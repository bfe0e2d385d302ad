-- Arrival records as they are handed out: a list for each operator with several connections, in the order of the
-- operators.
use Rattle.std.specs.Prelude.{ℕ, ◌==◌, Bool, true, false, List, [], ◌∷◌, Some, None, if◌then◌else◌}
use Rattle.std.specs.List.{filter_map}
use Rattle.stream_model.specs.declared.record.ArrivalList.{ArrivalList}
use Rattle.stream_model.specs.Operators.{Operator, connections}
use Rattle.stream_model.specs.Meaning.{Graph}

-- an operator's list in an arrival record
abbrev pub entries_in : List ArrivalList → ℕ → List ℕ
entries_in [] n = []
entries_in (l ∷ lists) n = if l.op == n then l.inputs else entries_in lists n

-- there is another after the first
abbrev pub has_several : List ℕ → Bool
has_several [] = false
has_several (s ∷ []) = false
has_several (s ∷ t ∷ ss) = true

-- the numbers of the operators with several connections
abbrev pub several : Graph → List ℕ
several g = filter_map (λ (op : Operator). if has_several (connections op) then Some op.number else None) g.ops
