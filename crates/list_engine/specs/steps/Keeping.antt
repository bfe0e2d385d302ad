-- What is kept of what an operator gave: its streams, or else the items of its writer and its fault.
use Rattle.std.specs.Prelude.{◌≡◌, ◌<◌, ℕ, List, [], ◌∷◌, length, replicate, Option, Some, None, slice_set, if◌then◌else◌, nat_lt}
use Rattle.std.specs.List.{Contains}
use Rattle.spl_value.specs.declared.item.Fault.{Fault}
use Rattle.spl_tree.specs.declared.graph.Op.{Op}
use Rattle.language_model.specs.Keeping.{Once}
use Rattle.list_engine.specs.declared.operator.Given.{Given}
use Rattle.list_engine.specs.declared.state.State.{State}
use Rattle.stream_model.specs.Runs.{rows_at}
use Rattle.list_engine.specs.steps.Table.{IsPlaced}

abbrev pub kept_ports : List ℕ → ℕ
kept_ports [] = 1
kept_ports (s ∷ outs) = length (s ∷ outs)

-- an operator with these outputs and this number of inputs has given nothing
pub record GivesNothing (outs : List ℕ) (inputs : ℕ) (given : Given) : Type 0 where
  pub lists : given.outs ≡ replicate (kept_ports outs) []
  pub entries : given.inputs ≡ (if nat_lt 1 inputs then Some [] else None)

-- there is a place for what the operator with this number gives
pub record HasRoom (op : Op) (number : ℕ) (state : State) : Type 0 where
  pub once : Once op.outs
  pub streams : (s : ℕ) → Contains op.outs s → s < length state.streams
  pub sinks : number < length state.sinks
  pub faults : number < length state.faults
  pub inputs : number < length state.inputs

-- it was kept
pub record IsKept (outs : List ℕ) (number : ℕ) (given : Given) (fault : Option Fault) (old new : State) : Type 0 where
  pub rows : new.rows ≡ old.rows
  pub inputs : new.inputs ≡ slice_set old.inputs number given.inputs
  pub streams : (outs ≡ [] → ⊥) → IsPlaced given.outs outs old.streams new.streams
  pub no_streams : outs ≡ [] → new.streams ≡ old.streams
  pub sink : outs ≡ [] → new.sinks ≡ slice_set old.sinks number (rows_at given.outs 0)
  pub no_sink : (outs ≡ [] → ⊥) → new.sinks ≡ old.sinks
  pub end_fault : outs ≡ [] → new.faults ≡ slice_set old.faults number fault
  pub no_end_fault : (outs ≡ [] → ⊥) → new.faults ≡ old.faults
