-- What becomes of items that fit, at an operator whose clauses fit: nothing that it evaluates lacks a value, and what it gives has the
-- attributes of its streams. A history is here that of an operator by its ports, its newest event first.
use Rattle.std.specs.Prelude.{◌≡◌, ◌<◌, ⊤, ℕ, Bool, true, false, IsTrue, List, [], ◌∷◌, length, slice_get, Some}
use Rattle.spl_value.specs.declared.item.Item.{Item}
use Rattle.spl_tree.specs.declared.graph.OpKind.{OpKind}
use Rattle.language_model.specs.declared.checked.CheckedClauses.{CheckedClauses}
use Rattle.language_model.specs.declared.scope.Scope.{Scope}
use Rattle.language_model.specs.declared.scope.Signature.{Signature}
use Rattle.language_model.specs.CheckedGraph.{CheckedGraph}
use Rattle.language_model.specs.Checking.{fit_ports}
use Rattle.language_model.specs.Keeping.{Keeps, NamesPorts, PartFits}
use Rattle.language_model.specs.Outcomes.{Done, Faulted, Stuck}
use Rattle.language_model.specs.WorldFits.{FunctionsFit}
use Rattle.stream_model.specs.Stream.{Event}
use Rattle.stream_model.specs.Operators.{Operator, input_attributes, ports}
use Rattle.stream_model.specs.parts.Operators.{port_at}
use Rattle.stream_model.specs.PortEvents.{port_events}
use Rattle.stream_model.specs.Bodies.{Makes}
use Rattle.stream_model.specs.React.{Reaction, Gives, Faults, makes_by, react}
use Rattle.stream_model.specs.parts.React.{port_body}
use Rattle.stream_model.specs.CheckedMeaning.{graph_of}
use Rattle.stream_model.specs.Replies.{AllFit, ItemHas, is_live}

-- the clauses of an operator fit its attributes, and so do its functions and the numbers of its ports
pub record IsFitting (op : Operator) : Type 0 where
  pub kind : OpKind
  pub signatures : List Signature
  pub scope : Scope
  pub names : NamesPorts signatures op.types.ins scope
  pub functions : FunctionsFit signatures op.functions
  pub clauses : PartFits scope kind op.types.ins op.types.outs op.clauses
  pub ports : IsTrue (fit_ports kind (length op.types.ins) (length op.types.outs))
  pub ins : length op.ins ≡ length op.types.ins
  pub outs : length op.outs ≡ length op.types.outs

-- an item of a port has the port's attributes
abbrev pub HasPort : Operator → ℕ → Item → Type 0
HasPort op port x = (port < length op.types.ins) × ItemHas (input_attributes op port) x

abbrev pub HistoryFits : Operator → List Event → Type 0
HistoryFits op [] = ⊤
HistoryFits op (e ∷ h) = HasPort op e.input e.item × HistoryFits op h

-- no event of a history gave a fault
abbrev pub is_given : Reaction → Bool
is_given (Gives outs) = true
is_given (Faults kind) = false

abbrev pub NoneFaulted : Operator → List Event → Type 0
NoneFaulted op [] = ⊤
NoneFaulted op (e ∷ h) = (is_given (port_body op h e.input e.item) ≡ true) × NoneFaulted op h

-- each tuple that is made has the attributes of its stream
abbrev pub MakesFit : Operator → Makes → Type 0
MakesFit op (Done outs turns) = AllFit op outs
MakesFit op (Faulted kind) = ⊤
MakesFit op Stuck = ⊥

-- the clauses of an operator of some kinds, after what fits and gave no fault, make what fits of what fits
abbrev pub FitsAt : (CheckedClauses → Bool) → Type 0
FitsAt is_kind = (op : Operator) (h : List Event) (port : ℕ) (x : Item) → is_kind op.clauses ≡ true → IsFitting op → HistoryFits op h → NoneFaulted op h → HasPort op port x
    → MakesFit op (makes_by op.clauses op h port x)

-- ---- events

-- an event names an input, and a tuple has the attributes of the input's port
abbrev pub EventFits : Operator → Event → Type 0
EventFits op e = (e.input < length (ports op)) × ItemHas (input_attributes op (port_at (ports op) e.input)) e.item

abbrev pub EventsFit : Operator → List Event → Type 0
EventsFit op [] = ⊤
EventsFit op (e ∷ h) = EventFits op e × EventsFit op h

-- while an operator whose clauses fit hasn't ended, an event that fits after events that fit has a body that isn't stuck, and each tuple that the
-- event causes has the attributes of its stream
abbrev pub ReactsFit : Type 0
ReactsFit = (op : Operator) (h : List Event) (e : Event) → IsFitting op → EventsFit op h → is_live op h ≡ true → EventFits op e
    → MakesFit op (makes_by op.clauses op (port_events op h) (port_at (ports op) e.input) e.item) × AllFit op (react op h e)

-- the clauses of each operator of a checked graph that keeps what one has to keep fit
abbrev pub CheckedFits : Type 0
CheckedFits = (c : CheckedGraph) (n : ℕ) (op : Operator) → Keeps c → slice_get (graph_of c).ops n ≡ Some op → IsFitting op
