-- What one event of an operator causes, by the history of the events before it. A history has its newest event first.
use Rattle.std.specs.Prelude.{ℕ, Bool, List, [], ◌++◌, length, slice_index, if◌then◌else◌, Option, Some, None}
use Rattle.spl_value.specs.declared.item.FaultKind.{FaultKind}
use Rattle.spl_value.specs.declared.item.FaultKind.TheVariants as K
use Rattle.spl_value.specs.declared.item.Item.{Item}
use Rattle.spl_value.specs.declared.item.Item.TheVariants as I
use Rattle.language_model.specs.declared.checked.CheckedClauses.{CheckedClauses}
use Rattle.language_model.specs.declared.checked.CheckedClauses.TheVariants as A
use Rattle.language_model.specs.declared.outs.Output.{Output}
use Rattle.language_model.specs.Outcomes.{Done, Faulted, Stuck}
use Rattle.stream_model.specs.Stream.{Event, is_fault}
use Rattle.stream_model.specs.Operators.{Operator, ports}
use Rattle.stream_model.specs.PortEvents.{is_waiting, ends_all, port_items, port_events}
use Rattle.stream_model.specs.Bodies.{Makes, most_turns, on_first, on_each, by_item, filter_body, functor_body, punctor_body, split_body, union_body}
use Rattle.stream_model.specs.Customs.{custom_body}
use Rattle.stream_model.specs.Aggregates.{aggregate_body}
use Rattle.stream_model.specs.Joins.{join_body}

-- ---- bodies

-- What the operator with these clauses makes of an item of a port, by what came on its ports before: of a tuple, of a
-- window marker, or of the end of the port by its final marker. A FileSink gives its tuples to its writer, which stands
-- as port 0.
abbrev pub makes_by : CheckedClauses → Operator → List Event → ℕ → Item → Makes
makes_by (A.FileSource file strict) op earlier port x = Done [] most_turns
makes_by (A.FileSink file) op earlier port x = by_item (λ vs. Done (on_first (I.Tuple vs)) most_turns) [] x
makes_by (A.Filter condition) op earlier port x = filter_body op.functions condition x
makes_by (A.Functor condition made) op earlier port x = functor_body op.functions condition made x
makes_by (A.Punctor condition position) op earlier port x = punctor_body op.functions condition position x
makes_by (A.Split index) op earlier port x = split_body op.functions index (length op.outs) x
makes_by (A.Union places) op earlier port x = union_body places port x
makes_by (A.Custom handlers) op earlier port x = custom_body op.functions handlers earlier port x
makes_by (A.Aggregate window partition group collects) op earlier port x =
    aggregate_body op.functions window partition group collects (port_items 0 earlier) x
makes_by (A.Join left right condition made) op earlier port x =
    join_body op.functions left right condition made (port_items 0 earlier) (port_items 1 earlier) port x

-- what an operator's body makes of an event: items on its output ports, or a fault
pub data Reaction : Type 0 where
  Gives : (outs : List Output) → Reaction
  Faults : (kind : FaultKind) → Reaction

-- a tuple that doesn't fit is a fault, as a row that doesn't
abbrev pub answer : Makes → Reaction
answer (Done outs turns) = Gives outs
answer (Faulted kind) = Faults kind
answer Stuck = Faults K.BadRow

-- the answer at an event, as an item of its port, by what came on the ports before
abbrev pub body : Operator → List Event → Event → Reaction
body op earlier event =
    answer (makes_by op.clauses op (port_events op earlier) (slice_index (ports op) event.input) event.item)

-- ---- events

-- a fault of the operator itself
abbrev pub own_fault : Operator → FaultKind → Item
own_fault op kind = I.Bad (record { op = op.number; kind = kind; line = 0 })

-- the body's fault on every output port and nothing else, or its items and at the end Final on every output port
abbrev pub answered : Operator → Bool → Reaction → List Output
answered op last (Faults kind) = on_each (length op.outs) (own_fault op kind)
answered op last (Gives outs) = if last then outs ++ on_each (length op.outs) I.Final else outs

-- What an event causes after the events before it, while the operator hasn't ended. A fault that arrives goes to
-- every output port. A final marker whose port waits for another gives nothing. Else the body decides.
abbrev pub react : Operator → List Event → Event → List Output
react op earlier event =
    if is_fault event.item then on_each (length op.outs) event.item
    else if is_waiting op earlier event then []
    else answered op (ends_all op earlier event) (body op earlier event)

-- the fault or the final marker with which the body's answer ends the operator
abbrev pub ended_by : Operator → Bool → Reaction → Option Item
ended_by op last (Faults kind) = Some (own_fault op kind)
ended_by op last (Gives outs) = if last then Some I.Final else None

-- the fault or the final marker with which the operator ends at the event, where it does
abbrev pub ended : Operator → List Event → Event → Option Item
ended op earlier event =
    if is_fault event.item then Some event.item
    else if is_waiting op earlier event then None
    else ended_by op (ends_all op earlier event) (body op earlier event)
