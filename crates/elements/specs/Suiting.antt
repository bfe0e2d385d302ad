-- When the work of an element may take what is proper at its inputs: its operators read what comes to them.
use Rattle.std.specs.Prelude.{◌≡◌, ◌<◌, ◌^◌, ℕ, true, false, List, [], ◌∷◌, ◌++◌, length, slice_get, Some}
use Rattle.spl_value.specs.declared.item.Item.{Item}
use Rattle.spl_value.specs.declared.packet.Packet.{Packet}
use Rattle.spl_value.specs.Numbered.{InOrder, IsProper}
use Rattle.hash_splitter.specs.Splitting.{IsRoutable}
use Rattle.language_model.specs.StreamTypes.{Attributes}
use Rattle.stream_model.specs.Operators.{Operator, input_attributes, output_attributes, ports}
use Rattle.stream_model.specs.parts.Operators.{port_at}
use Rattle.stream_model.specs.Replies.{ItemHas, given_attributes}
use Rattle.stream_model.specs.Stream.{any_closes}
use Rattle.network_model.specs.Legal.{wants as may_pop}
use Rattle.network_model.specs.Networks.{Part, FromSource, FromLinks, Splitter, Replica, Merger, inputs}
use Rattle.network_model.specs.Owed.{taken_of}
use Rattle.network_model.specs.Receipts.{Receipt, Popped, WasRead, popped, read_in}
use Rattle.elements.specs.Works.{MayWork}

-- each operator reads a stream by its one connection: the first one of these attributes, and the others the stream of the
-- one before
abbrev pub AreFused : Attributes → List Operator → Type 0
AreFused types [] = Unit {0}
AreFused types (op ∷ ops) =
    (input_attributes op 0 ≡ types) × ((stream : ℕ) × (op.ins ≡ (stream ∷ []) ∷ []))
    × AreFused (given_attributes op.clauses op 0) ops

-- the operators of a part are fused, and read what its inputs carry; each tuple that enters a region has its key
abbrev pub Suits : Part → List Attributes → Type 0
Suits (FromSource source ops outs) schemas = AreFused (output_attributes source 0) ops
Suits (FromLinks op ops outs) schemas =
    AreFused (given_attributes op.clauses op 0) ops
    × ((i : ℕ) (s : Attributes) → slice_get schemas i ≡ Some s → s ≡ input_attributes op (port_at (ports op) i))
Suits (Splitter region) schemas =
    (s : Attributes) (x : Item) → slice_get schemas 0 ≡ Some s → ItemHas s x → IsRoutable region.routing x
Suits (Replica region channel) schemas = (s : Attributes) → slice_get schemas 0 ≡ Some s → AreFused s region.ops
Suits (Merger region outs) schemas = Unit {0}

-- a merger pops where the network lets it, and its packets are in order
abbrev pub Merging : Part → List Receipt → ℕ → Packet → Type 0
Merging (FromSource source ops outs) receipts i packet = Unit {0}
Merging (FromLinks op ops outs) receipts i packet = Unit {0}
Merging (Splitter region) receipts i packet = Unit {0}
Merging (Replica region channel) receipts i packet = Unit {0}
Merging (Merger region outs) receipts i packet =
    (may_pop (Merger region outs) (taken_of (Merger region outs) receipts) i ≡ true)
    × InOrder region.rule region.width (λ d. popped d (receipts ++ Popped i packet ∷ []))

-- the work may take a packet that is proper behind those that were taken from its input, of which there were not too many
abbrev pub TakesLaw : Type 0
TakesLaw = (part : Part) (schemas : List Attributes) (receipts : List Receipt) (i : ℕ) (packet : Packet) (s : Attributes)
    → Suits part schemas → i < inputs part → slice_get schemas i ≡ Some s → IsProper s (popped i receipts ++ packet ∷ [])
    → length (popped i receipts) < 2 ^ 61 → Merging part receipts i packet → MayWork part receipts (Popped i packet)

-- and an item of its source, which isn't at its end
abbrev pub ReadsLaw : Type 0
ReadsLaw = (source : Operator) (ops : List Operator) (outs : List ℕ) (receipts : List Receipt) (item : Item)
    → AreFused (output_attributes source 0) ops → any_closes (read_in receipts) ≡ false
    → ItemHas (output_attributes source 0) item → MayWork (FromSource source ops outs) receipts (WasRead item)
