-- What an operator may be asked by its ports, and what it answers: what an item on a port causes by what came on its ports before, except for
-- the final markers with which it ends. These follow where no port is left, which is seen where the connections of the ports are counted.
--
-- A history has its newest event first. An event has the number of its port, and the final marker of a port is the port's end.
use Rattle.std.specs.Prelude.{◌≡◌, ⊤, ℕ, Bool, true, false, List, [], ◌∷◌, length, Option, Some, None, is_none, ◌&&◌, if◌then◌else◌}
use Rattle.spl_value.specs.declared.item.Item.{Item}
use Rattle.language_model.specs.declared.outs.Output.{Output}
use Rattle.stream_model.specs.declared.reply.Reply.{Reply}
use Rattle.stream_model.specs.declared.reply.Reply.TheVariants as R
use Rattle.stream_model.specs.Stream.{Event, is_fault}
use Rattle.stream_model.specs.Operators.{Operator}
use Rattle.stream_model.specs.PortEvents.{is_over}
use Rattle.stream_model.specs.Bodies.{on_each}
use Rattle.stream_model.specs.React.{answered, ended_by}
use Rattle.stream_model.specs.parts.React.{port_body}
use Rattle.stream_model.specs.Replies.{end_by}
use Rattle.stream_model.specs.Fitting.{HasPort, HistoryFits, IsFitting}

-- what an item on a port causes: a fault that comes goes to every output port, and else the body of the operator decides
abbrev pub gives_at : Operator → List Event → ℕ → Item → List Output
gives_at op h port x = if is_fault x then on_each (length op.outs) x else answered op false (port_body op h port x)

-- the fault by which the operator ends with it, where it does: the one that comes, or the body's own
abbrev pub ends_at : Operator → List Event → ℕ → Item → Option Item
ends_at op h port x = if is_fault x then Some x else ended_by op false (port_body op h port x)

-- no event of a history ended the operator by a fault
abbrev pub goes_on : Operator → List Event → Bool
goes_on op [] = true
goes_on op (e ∷ h) = goes_on op h && is_none (ends_at op h e.input e.item)

-- an item may come on a port of an operator whose clauses fit: what came before fits its port and ended the operator by no fault, the port is
-- one of its ports and hasn't ended, and a tuple has the port's attributes
pub record MayTakeAt (op : Operator) (h : List Event) (port : ℕ) (x : Item) : Type 0 where
  pub fitting : IsFitting op
  pub history : HistoryFits op h
  pub goes_on : goes_on op h ≡ true
  pub is_open : is_over h port ≡ false
  pub has : HasPort op port x

-- the answer to an item on a port after a history
abbrev pub RepliesAt : Operator → List Event → ℕ → Item → Reply → Type 0
RepliesAt op h port x (R.Out outs) = (outs ≡ gives_at op h port x) × (ends_at op h port x ≡ None)
RepliesAt op h port x (R.Ended outs fault) = (outs ≡ gives_at op h port x) × (ends_at op h port x ≡ Some (end_by fault))
RepliesAt op h port x R.Memory = ⊤

-- what is said of an operator that goes on after its reply
abbrev pub WhereOut : Reply → Type 0 → Type 0
WhereOut (R.Out outs) p = p
WhereOut (R.Ended outs fault) p = ⊤
WhereOut R.Memory p = ⊤
