-- What the merger of a region knows is at every moment a front of what the region's chain gives.
use Rattle.std.specs.Prelude.{◌≡◌, ◌<◌, ⊤, ℕ, Bool, true, false, List, ◌++◌, map}
use Rattle.std.specs.List.{AllByRecursion, list_any}
use Rattle.spl_value.specs.declared.item.Item.{Item}
use Rattle.spl_value.specs.declared.packet.Packet.{Packet}
use Rattle.spl_value.specs.declared.routing.Routing.{Routing}
use Rattle.spl_value.specs.declared.routing.Routing.TheVariants.{Turns}
use Rattle.spl_value.specs.Numbered.{ByNumbers, ByPulses, ByTurns, InOrder, IsPrefix, NeverFalls, Rule, cut, is_close, is_pulse, items_of, merged, numbers_of, stops_once}
use Rattle.spl_value.specs.Route.{part}
use Rattle.stream_model.specs.Meaning.{Graph}
use Rattle.stream_model.specs.Operators.{Operator}
use Rattle.stream_model.specs.PortLaws.{has_connections}
use Rattle.stream_model.specs.Regions.{chain_key, is_safe, routing_by}
use Rattle.stream_model.specs.Sending.{on_output, replies, splits, stages_after}
use Rattle.stream_model.specs.Stages.{Stage, chain, start}
use Rattle.stream_model.specs.Stream.{any_closes, is_empty}
use Rattle.channel_heads.specs.FrontLaws.{AreFronts}
use Rattle.region_laws.specs.OneItemLaws.{GivesOne}

-- ---- what is sent to a replica

-- the items of a channel, with pulses between them whose numbers never fall, and nothing behind the end
pub record IsSent (routing : Routing) (width : ℕ) (items : List Item) (c : ℕ) (packets : List Packet) : Type 0 where
  pub own : items_of packets ≡ part routing width items c
  pub falls : NeverFalls 0 (numbers_of packets)
  pub stops : stops_once packets ≡ true

-- What a splitter sends on each channel is such a list, of the stream up to its end. A splitter without pulses sends
-- none, and behind the item that closes the stream it sends `Close`.
abbrev pub SplitLaw : Type 0
SplitLaw = (routing : Routing) (width : ℕ) (pulses : Bool) (items : List Item) (c : ℕ) → c < width
    → IsSent routing width (cut items) c (on_output c (splits routing width pulses 0 items))
    × (pulses ≡ false → list_any is_pulse (on_output c (splits routing width pulses 0 items)) ≡ false)
    × (any_closes items ≡ true → list_any is_close (on_output c (splits routing width pulses 0 items)) ≡ true)

-- ---- regions

abbrev pub NoPulses : ℕ → (ℕ → List Packet) → Type 0
NoPulses width sent = (c : ℕ) → c < width → list_any is_pulse (sent c) ≡ false

-- What a merger needs of a region. By numbers and by turns each event of each operator causes one item and there are no
-- pulses, and by turns the items go to the channels in turn.
abbrev pub Suits : Rule → Routing → ℕ → (ℕ → List Packet) → List Operator → Type 0
Suits ByPulses routing width sent ops = ⊤
Suits ByNumbers routing width sent ops = AllByRecursion GivesOne ops × NoPulses width sent
Suits ByTurns routing width sent ops = AllByRecursion GivesOne ops × NoPulses width sent × (routing ≡ Turns)

-- a safe chain of a graph, each port of whose operators takes a stream, and what its replicas are sent for a stream
pub record IsRegionOf (g : Graph) (ops : List Operator) (rule : Rule) (width : ℕ) (items : List Item)
    (sent : ℕ → List Packet) : Type 0 where
  pub safe : is_safe g ops ≡ true
  pub connected : AllByRecursion (λ op. has_connections op ≡ true) ops
  pub some : is_empty ops ≡ false
  pub wide : 0 < width
  pub sends : (c : ℕ) → c < width → IsSent (routing_by (chain_key ops)) width items c (sent c)
  pub suits : Suits rule (routing_by (chain_key ops)) width sent ops

-- Whatever fronts the replicas have taken of what was sent to them, and the merger of what they send: what the merger
-- has taken is in order, and what it knows is a front of what the chain gives.
abbrev pub RegionFrontLaw : Type 0
RegionFrontLaw = (g : Graph) (ops : List Operator) (rule : Rule) (width : ℕ) (items : List Item)
    (sent came went : ℕ → List Packet) → IsRegionOf g ops rule width items sent
    → AreFronts width came sent → AreFronts width went (λ c. replies (map start ops) (came c))
    → InOrder rule width went × IsPrefix (merged rule width went) (chain ops items)

-- It is all of that where the splitter has sent its end to each and all was taken.
abbrev pub RegionWholeLaw : Type 0
RegionWholeLaw = (g : Graph) (ops : List Operator) (width : ℕ) (items : List Item) (sent : ℕ → List Packet)
    → IsRegionOf g ops ByPulses width items sent → ((c : ℕ) → c < width → list_any is_close (sent c) ≡ true)
    → merged ByPulses width (λ c. replies (map start ops) (sent c)) ≡ chain ops items

-- By numbers and by turns it is so without that end.
abbrev pub OneWholeLaw : Type 0
OneWholeLaw = (g : Graph) (ops : List Operator) (width : ℕ) (items : List Item) (sent : ℕ → List Packet) →
    (IsRegionOf g ops ByNumbers width items sent
    → merged ByNumbers width (λ c. replies (map start ops) (sent c)) ≡ chain ops items)
    × (IsRegionOf g ops ByTurns width items sent
    → merged ByTurns width (λ c. replies (map start ops) (sent c)) ≡ chain ops items)

-- ---- one packet after another

-- stages send for more packets what they send for them from where the items of the first ones have led them
abbrev pub MoreLaw : Type 0
MoreLaw = (stages : List Stage) (ps more : List Packet)
    → replies stages (ps ++ more)
    ≡ replies stages ps ++ replies (stages_after stages (map (λ p. p.1) (items_of ps))) more
