-- For which state an element stands.
use Rattle.std.specs.Prelude.{◌≡◌, ◌<◌, ◌^◌, ℕ, ◌&&◌, ◌||◌, not, true, false, List, [], ◌∷◌, ◌++◌, length, slice_get, Some}
use Rattle.spl_value.specs.declared.item.Item.{Item}
use Rattle.spl_value.specs.declared.packet.Packet.{Packet}
use Rattle.spl_value.specs.declared.value.Value.{Value}
use Rattle.spl_value.specs.declared.types.Named.{Named}
use Rattle.spl_value.specs.declared.types.SplType.{SplType}
use Rattle.spl_value.specs.Numbered.{IsProper}
use Rattle.stream_model.specs.Operators.{Operator}
use Rattle.stream_model.specs.Sending.{on_output}
use Rattle.stream_model.specs.Stream.{Event, IsPrefix, any_closes, is_closed}
use Rattle.stream_model.specs.declared.outgoing.Outgoing.{Outgoing}
use Rattle.network_model.specs.ElementRule.{KeepsRule}
use Rattle.network_model.specs.Legal.{IsDone, wants_at}
use Rattle.network_model.specs.Networks.{Part, inputs, outputs, is_sourced}
use Rattle.network_model.specs.Packets.{has_last}
use Rattle.network_model.specs.Receipts.{Popped, WasRead, popped, read_in}
use Rattle.network_model.specs.Sinks.{pours}
use Rattle.network_model.specs.States.{At, all_taken, cuts_from, waiting}
use Rattle.element_notes.specs.Endings.{sent_on}
use Rattle.element_notes.specs.Noting.{HasNoted}
use Rattle.element_outboxes.specs.Waiting.{IsFree, waits}
use Rattle.element_works.specs.Tuples.{IsKept, sink_waits}
use Rattle.elements.specs.declared.element.Element.{Element}
use Rattle.elements.specs.declared.input.Input.{Input}
use Rattle.elements.specs.declared.next.Next.{Next}
use Rattle.elements.specs.declared.next.Next.TheVariants as N
use Rattle.elements.specs.declared.output.Output.{Output}
use Rattle.elements.specs.Inputs.{noted_all, new_input}
use Rattle.elements.specs.Works.{MayWork, WorkAt}

-- What an element has taken, put and poured, whatever its work. So much is known behind want of memory, when the element
-- is still to be cut.
pub record IsSpent {R : Type 0} (part : Part) (e : Element R) (a : At) (poured : List (List Value)) : Type 0 where
  pub cut : e.cut ≡ a.cut
  pub input_count : length e.inputs ≡ inputs part
  pub taken : (i : ℕ) (x : Input) → slice_get e.inputs i ≡ Some x → x ≡ noted_all new_input (popped i (all_taken a))
  pub schema_count : length e.ins ≡ inputs part
  pub proper : (i : ℕ) (schema : List (Named SplType)) → slice_get e.ins i ≡ Some schema
      → IsProper schema (popped i (all_taken a))
  pub output_count : length e.outputs ≡ outputs part
  pub put : (o : ℕ) (x : Output) → slice_get e.outputs o ≡ Some x → x.ended ≡ has_last (on_output o a.pushed)
  pub few : outputs part < 2 ^ 32
  pub rule : KeepsRule part a
  pub cuts : a.cut ≡ true → a.outbox ≡ cuts_from 0 (outputs part) a.pushed
  pub closed : any_closes (read_in a.kept) ≡ is_closed (read_in a.kept)
  pub front : IsPrefix poured (pours part a.kept)
  pub notes : HasNoted part e.notes a.kept a.pushed poured

-- an element of this part in this state, which has poured these tuples
pub record IsAt {R : Type 0} (spec : R → Operator) (stands : R → List Event → Type 0) (part : Part) (e : Element R)
    (a : At) (poured : List (List Value)) : Type 0 where
  pub spent : IsSpent part e a poured
  pub outbox : a.cut ≡ false → a.outbox ≡ waits e.outbox
  pub tuples : sink_waits e.tuples ≡ waiting part a poured
  pub kept : IsKept e.tuples
  pub none_dropped : a.cut ≡ false → a.dropped ≡ []
  pub reads : a.cut ≡ false → e.reads ≡ (is_sourced part && not (any_closes (read_in a.kept)))
  pub work : a.cut ≡ false → WorkAt spec stands part a.kept e.work e.fans e.tuples

-- ---- what may come

-- its source is to be read
pub record StillReads (part : Part) (a : At) : Type 0 where
  pub whole : a.cut ≡ false
  pub sourced : is_sourced part ≡ true
  pub unclosed : any_closes (read_in a.kept) ≡ false

-- an item may be read
pub record MayRead (part : Part) (a : At) (item : Item) : Type 0 where
  pub still : StillReads part a
  pub works : MayWork part a.kept (WasRead item)

-- the attributes at each input
abbrev pub schemas_of : {R : Type 0} → Element R → List (List (Named SplType))
schemas_of e = e.ins

-- a packet may be taken from an input: any one by an element that is cut, where it is proper behind those before it
pub record MayTake (schemas : List (List (Named SplType))) (part : Part) (a : At) (input : ℕ) (packet : Packet) : Type 0 where
  pub proper : (schema : List (Named SplType)) → slice_get schemas input ≡ Some schema
      → IsProper schema (popped input (all_taken a) ++ packet ∷ [])
  pub works : a.cut ≡ false → MayWork part a.kept (Popped input packet)

-- a packet may come next on an input: nothing is to be put, the input is wanted, and the packet is proper there
pub record ComesNext (schema : List (Named SplType)) (part : Part) (a : At) (input : ℕ) (packet : Packet) : Type 0 where
  pub idle : a.outbox ≡ []
  pub wanted : (not (has_last (popped input (all_taken a))) && (a.cut || wants_at part a input)) ≡ true
  pub proper : IsProper schema (popped input (all_taken a) ++ packet ∷ [])

-- what it does next
abbrev pub IsNext : Part → At → Next → Type 0
IsNext part a (N.Put output) = (s : Outgoing) × (rest : List Outgoing) × (a.outbox ≡ s ∷ rest) × (s.output ≡ output)
IsNext part a N.Read = (a.outbox ≡ []) × StillReads part a
IsNext part a N.Done = IsDone part a
IsNext part a N.Take = (a.outbox ≡ []) × (StillReads part a → ⊥) × (IsDone part a → ⊥)

-- the packet that the element put last, where this was its state before
pub record WasPut {R : Type 0} (part : Part) (e : Element R) (a : At) (s : Outgoing) : Type 0 where
  pub rest : List Outgoing
  pub front : a.outbox ≡ s ∷ rest
  pub cuts : a.cut ≡ true → a.outbox ≡ cuts_from 0 (outputs part) a.pushed
  pub before : (x : Output) → slice_get e.outputs s.output ≡ Some x → e.was_ended ≡ has_last (on_output s.output a.pushed)
  pub free : a.cut ≡ false → IsFree e.outbox
  pub sent : s.output < outputs part → e.was_sent ≡ sent_on s.output a.pushed

-- a tuple is the first that waits for the sink, where these were poured
abbrev pub Poured : Part → At → List (List Value) → List Value → Type 0
Poured part a poured tuple = (rest : List (List Value)) × (waiting part a poured ≡ tuple ∷ rest)
