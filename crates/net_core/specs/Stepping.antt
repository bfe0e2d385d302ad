-- Steps of a network.
use Rattle.std.specs.Prelude.{◌≡◌, Bool, true, false, List, Option, None, Some}
use Rattle.spl_value.specs.declared.item.Item.{Item}
use Rattle.spl_value.specs.declared.packet.Packet.{Packet}
use Rattle.stream_model.specs.Operators.{Operator}
use Rattle.stream_model.specs.Stream.{Event as StreamEvent}
use Rattle.network_model.specs.Events.{NetEvent, Read, Pop, Push, Happens, Lacks}
use Rattle.network_model.specs.Legal.{Enabled, IsTaking, MayPop}
use Rattle.network_model.specs.Networks.{Part}
use Rattle.network_model.specs.Picking.{Choice, PopAt, PushAt, ReadAt, may_happen}
use Rattle.network_model.specs.Receipts.{Receipt}
use Rattle.network_model.specs.States.{At, after, lacks, takes}
use Rattle.elements.specs.Standing.{MayRead, MayTake}
use Rattle.net_core.specs.declared.event.Event.{Event}
use Rattle.net_core.specs.declared.event.Event.TheVariants as E
use Rattle.net_core.specs.declared.event.Stepped.{Stepped}
use Rattle.net_core.specs.declared.event.Stepped.TheVariants as S
use Rattle.net_core.specs.declared.net.Net.{Net}
use Rattle.enabled_events.specs.Marks.{MarksAt}
use Rattle.enabled_events.specs.Moments.{Moment, moved}
use Rattle.enabled_events.specs.Standing.{PartsAt}

-- a network of elements stands for a moment
pub record StandsFor {R : Type 0} (spec : R → Operator) (stands : R → List StreamEvent → Type 0) (n : Net R)
    (m : Moment) : Type 0 where
  pub parts : PartsAt spec stands m n.elements n.links
  pub marked : MarksAt m.net m.state n.marks

abbrev pub choice_for : Event → Choice
choice_for (E.Read e) = ReadAt e
choice_for (E.Pop l) = PopAt l
choice_for (E.Push l) = PushAt l

-- an event with the item that is read, and with the packet that is popped or pushed
abbrev pub IsThat : Event → Option Item → NetEvent → Type 0
IsThat (E.Read e) (Some x) event = event ≡ Read e x
IsThat (E.Read e) None event = ⊥
IsThat (E.Pop l) read event = (p : Packet) × (event ≡ Pop l p)
IsThat (E.Push l) read event = (p : Packet) × (event ≡ Push l p)

-- with memory for what it takes, or without
abbrev pub taking : Bool → Part → At → Receipt → At
taking true part a receipt = takes part a receipt
taking false part a receipt = lacks part a receipt

-- What is read may be read, and what may be popped may be taken, as it is where it is proper. An item is given exactly
-- for a read.
abbrev pub IsFitting : Moment → Event → Option Item → Type 0
IsFitting m (E.Read e) (Some x) =
    may_happen m.net m.state (ReadAt e) ≡ true → MayRead (m.net.part e) (m.state e) x
IsFitting m (E.Read e) None = ⊥
IsFitting m (E.Pop l) None =
    (p : Packet) → MayPop m.net m.state l p
    → MayTake (m.schemas (m.net.link l).to) (m.net.part (m.net.link l).to) (m.state (m.net.link l).to)
    (m.net.link l).input p
IsFitting m (E.Pop l) (Some x) = ⊥
IsFitting m (E.Push l) None = Unit {0}
IsFitting m (E.Push l) (Some x) = ⊥

-- what a step makes of a network that stands for a moment
abbrev pub HasStepped : {R : Type 0} (spec : R → Operator) (stands : R → List StreamEvent → Type 0) → Moment → Event
    → Option Item → Net R → Stepped → Net R → Type 0
HasStepped spec stands m event read old S.NotEnabled new =
    (may_happen m.net m.state (choice_for event) ≡ false) × (new ≡ old)
HasStepped spec stands m event read old S.Done new =
    (e : NetEvent) × IsThat event read e × Enabled m.net m.state e
    × StandsFor spec stands new (moved m (after m.net m.state (Happens e)))
HasStepped spec stands m event read old S.Memory new =
    (e : NetEvent) × IsThat event read e × Enabled m.net m.state e × IsTaking e
    × StandsFor spec stands new (moved m (after m.net m.state (Lacks e)))
