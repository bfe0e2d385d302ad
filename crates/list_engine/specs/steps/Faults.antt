-- The faults of ends, from the streams and the faults that a run keeps.
use Rattle.std.specs.Prelude.{ℕ, suc, List, [], ◌∷◌, map, slice_get, Option, None, if◌then◌else◌}
use Rattle.std.specs.Option.{option_or, unwrap_or}
use Rattle.spl_value.specs.declared.item.Fault.{Fault}
use Rattle.spl_value.specs.declared.item.Item.{Item}
use Rattle.stream_model.specs.Ends.{first_fault, is_read, stream_fault}
use Rattle.stream_model.specs.Meaning.{Graph}
use Rattle.stream_model.specs.Operators.{Operator}
use Rattle.list_engine.specs.declared.state.State.{State}
use Rattle.stream_model.specs.Runs.{rows_at}

abbrev pub fault_at : List (Option Fault) → ℕ → Option Fault
fault_at faults n = unwrap_or (slice_get faults n) None

-- that of a stream that nothing reads
abbrev pub unread_fault : Graph → List (List Item) → ℕ → Option Fault
unread_fault g streams s = if is_read g.ops s then None else stream_fault (rows_at streams s)

abbrev pub unread_faults : Graph → List (List Item) → List ℕ → Option Fault
unread_faults g streams outs = first_fault (map (unread_fault g streams) outs)

-- that of the operator with this number and these streams
abbrev pub kept_fault : Graph → State → ℕ → List ℕ → Option Fault
kept_fault g state n [] = fault_at state.faults n
kept_fault g state n (s ∷ outs) = unread_faults g state.streams (s ∷ outs)

-- the first of operators from number n on
abbrev pub kept_faults : Graph → State → ℕ → List Operator → Option Fault
kept_faults g state n [] = None
kept_faults g state n (op ∷ ops) = option_or (kept_fault g state n op.outs) (kept_faults g state (suc n) ops)
