-- What an operator may be asked, and what it answers: the events that may come after a history, and the answers that are those of the
-- meaning. A history has its newest event first.
use Rattle.std.specs.Prelude.{◌≡◌, ◌<◌, ⊤, ℕ, Bool, true, false, IsTrue, List, [], ◌∷◌, length, slice_get, Option, Some, None, is_none, ◌&&◌, ◌==◌}
use Rattle.spl_value.specs.Numbered.{item_fits}
use Rattle.spl_value.specs.declared.item.Fault.{Fault}
use Rattle.spl_value.specs.declared.item.Item.{Item}
use Rattle.spl_value.specs.declared.item.Item.TheVariants as I
use Rattle.language_model.specs.declared.checked.CheckedClauses.{CheckedClauses}
use Rattle.language_model.specs.declared.checked.CheckedClauses.TheVariants as A
use Rattle.language_model.specs.declared.outs.Output.{Output}
use Rattle.language_model.specs.StreamTypes.{Attributes}
use Rattle.stream_model.specs.declared.reply.Reply.{Reply}
use Rattle.stream_model.specs.declared.reply.Reply.TheVariants as R
use Rattle.stream_model.specs.Stream.{Event, any_closes}
use Rattle.stream_model.specs.Inputs.{came_on}
use Rattle.stream_model.specs.Operators.{Operator, ports, input_attributes, output_attributes}
use Rattle.stream_model.specs.parts.Operators.{port_at}
use Rattle.stream_model.specs.React.{react, ended}

-- the operator hasn't ended
abbrev pub is_live : Operator → List Event → Bool
is_live op [] = true
is_live op (e ∷ h) = is_live op h && is_none (ended op h e)

-- a tuple has these attributes
abbrev pub ItemHas : Attributes → Item → Type 0
ItemHas schema x = IsTrue (item_fits schema x)

-- an event may come: the operator hasn't ended, the input is one of its, and open, and a tuple has the input's attributes
pub record MayTake (op : Operator) (h : List Event) (e : Event) : Type 0 where
  pub live : is_live op h ≡ true
  pub input : e.input < length (ports op)
  pub is_open : any_closes (came_on (λ i. i == e.input) h) ≡ false
  pub has : ItemHas (input_attributes op (port_at (ports op) e.input)) e.item

-- the item with which an operator ends: its fault, or else the final marker
abbrev pub end_by : Option Fault → Item
end_by None = I.Final
end_by (Some f) = I.Bad f

-- the answer to an event after a history
abbrev pub Replies : Operator → List Event → Event → Reply → Type 0
Replies op h e (R.Out outs) = (outs ≡ react op h e) × (ended op h e ≡ None)
Replies op h e (R.Ended outs fault) = (outs ≡ react op h e) × (ended op h e ≡ Some (end_by fault))
Replies op h e R.Memory = ⊤

-- there was memory
abbrev pub IsTaken : Reply → Type 0
IsTaken (R.Out outs) = ⊤
IsTaken (R.Ended outs fault) = ⊤
IsTaken R.Memory = ⊥

-- The reply depends on the history up to its event alone: for a history and an event there is one, where there is memory.
abbrev pub ReplyLaw : Type 0
ReplyLaw = (op : Operator) (h : List Event) (e : Event) (r s : Reply) → Replies op h e r → Replies op h e s → IsTaken r → IsTaken s → r ≡ s

-- the attributes of what is given on a port: those of the port's stream, and of a sink those of its input
abbrev pub given_attributes : CheckedClauses → Operator → ℕ → Attributes
given_attributes (A.FileSink file) op p = input_attributes op 0
given_attributes _ op p = output_attributes op p

abbrev pub AllFit : Operator → List Output → Type 0
AllFit op outs = (i : ℕ) (o : Output) → slice_get outs i ≡ Some o → ItemHas (given_attributes op.clauses op o.port) o.item

-- each tuple that is given has the attributes of its stream
abbrev pub OutsFit : Operator → Reply → Type 0
OutsFit op (R.Out outs) = AllFit op outs
OutsFit op (R.Ended outs fault) = AllFit op outs
OutsFit op R.Memory = ⊤
