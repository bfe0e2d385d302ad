-- What the calls of an element ask and say: for every part that it may run, every state in which it may be and all
-- tuples
-- that it may have poured.
use Rattle.std.specs.Prelude.{◌≡◌, ◌<◌, ◌^◌, ◌⊎◌, ℕ, true, false, List, [], ◌∷◌, length}
use Rattle.spl_value.specs.declared.item.Item.{Item}
use Rattle.spl_value.specs.declared.value.Value.{Value}
use Rattle.spl_value.specs.Numbered.{InOrder}
use Rattle.stream_model.specs.Operators.{output_attributes}
use Rattle.stream_model.specs.Replies.{ItemHas}
use Rattle.stream_model.specs.Stream.{any_closes, is_closed}
use Rattle.stream_model.specs.declared.outgoing.Outgoing.{Outgoing}
use Rattle.network_model.specs.Networks.{Part, FromSource, FromLinks, Splitter, Replica, Merger, inputs, is_sourced}
use Rattle.network_model.specs.Packets.{has_last}
use Rattle.network_model.specs.Receipts.{Receipt, popped, read_in}
use Rattle.network_model.specs.States.{At, all_taken}
use Rattle.node_turns.specs.declared.next.Next.{Next}
use Rattle.node_turns.specs.declared.next.Next.TheVariants as N

-- what an element is to a part, a state and the tuples that it has poured
abbrev pub Tuples : Type 0
Tuples = List (List Value)

-- some part, state and tuples are the element's
abbrev pub IsSomewhere : {E : Type 0} → (E → Part → At → Tuples → Type 0) → E → Type 0
IsSomewhere stands e = (part : Part) × (a : At) × (poured : Tuples) × stands e part a poured

-- whatever its state was, it has changed so
abbrev pub Goes : {E : Type 0} → (E → Part → At → Tuples → Type 0) → (E → Part → At → Tuples → Type 0)
    → E → E → (Part → At → At) → Type 0
Goes from to e next change =
    (part : Part) (a : At) (poured : Tuples) → from e part a poured → to next part (change part a) poured

-- ---- what may come

-- fewer packets were taken from an input than a link carries
abbrev pub IsFew : At → ℕ → Type 0
IsFew a input = a.cut ≡ false → length (popped input (all_taken a)) < 2 ^ 61

-- an item of the source with which a part begins
abbrev pub SourceHas : Part → Item → Type 0
SourceHas (FromSource source ops outs) item = ItemHas (output_attributes source 0) item
SourceHas (FromLinks op ops outs) item = ⊥
SourceHas (Splitter region) item = ⊥
SourceHas (Replica region channel) item = ⊥
SourceHas (Merger region outs) item = ⊥

-- its source is to be read
pub record StillReads (part : Part) (a : At) : Type 0 where
  pub whole : a.cut ≡ false
  pub sourced : is_sourced part ≡ true
  pub unclosed : any_closes (read_in (all_taken a)) ≡ false

-- ---- what comes next

-- what a merger has taken is in order; of another part, and of one that is cut, nothing is asked
abbrev pub AreOrdered : Part → List Receipt → Type 0
AreOrdered (FromSource source ops outs) receipts = Unit {0}
AreOrdered (FromLinks op ops outs) receipts = Unit {0}
AreOrdered (Splitter region) receipts = Unit {0}
AreOrdered (Replica region channel) receipts = Unit {0}
AreOrdered (Merger region outs) receipts = InOrder region.rule region.width (λ c. popped c receipts)

abbrev pub IsOrderly : Part → At → Type 0
IsOrderly part a = a.cut ≡ false → AreOrdered part a.kept

-- every input was taken to its end
abbrev pub AllEnded : Part → At → Type 0
AllEnded part a = (i : ℕ) → i < inputs part → has_last (popped i (all_taken a)) ≡ true

-- nothing is left to be taken, read or put
pub record HasStopped (part : Part) (a : At) : Type 0 where
  pub inputs_end : AllEnded part a
  pub source_ends : is_sourced part ≡ true → (a.cut ≡ true) ⊎ (is_closed (read_in a.kept) ≡ true)
  pub pushed : IsOrderly part a → a.outbox ≡ []

abbrev pub IsNext : Part → At → Next → Type 0
IsNext part a (N.Put output) =
    IsOrderly part a → (s : Outgoing) × (rest : List Outgoing) × (a.outbox ≡ s ∷ rest) × (s.output ≡ output)
IsNext part a N.Read = (a.outbox ≡ []) × StillReads part a
IsNext part a N.Done = HasStopped part a
IsNext part a N.Take = (IsOrderly part a → a.outbox ≡ []) × (StillReads part a → ⊥) × (AllEnded part a → ⊥)
