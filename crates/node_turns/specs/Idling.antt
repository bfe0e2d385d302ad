-- When a turn moves nothing: a link is full, or nothing is to be put or read.
use Rattle.std.specs.Prelude.{◌≡◌, ◌<◌, ◌⊎◌, ℕ, Bool, List, [], length, map, slice_index_or}
use Rattle.crossbeam_queue.specs.Fifo.{Held}
use Rattle.spl_value.specs.declared.item.Item.{Item}
use Rattle.network_model.specs.Networks.{Part}
use Rattle.network_model.specs.States.{At}
use Rattle.ordered_link.specs.declared.ends.Link.{Link}
use Rattle.ordered_link.specs.Ends.{capacity_of, sent, taken}
use Rattle.ordered_link.specs.Rule.{IsSentUpTo}
use Rattle.node_turns.specs.declared.ends.Outlet.{Outlet}
use Rattle.node_turns.specs.declared.node.Node.{Node}
use Rattle.node_turns.specs.Calls.{AllEnded, IsOrderly, StillReads, Tuples}
use Rattle.node_turns.specs.Meets.{NodeMeets}

-- no packet was put or taken, nothing was read, and nothing was noted
pub record IsStill {E S K : Type 0} (was now : Node E S K) : Type 0 where
  pub taken_same : map (λ i. taken i.pass) now.ins.items ≡ map (λ i. taken i.pass) was.ins.items
  pub sent_same : map (λ o. sent o.pass) now.outs.items ≡ map (λ o. sent o.pass) was.outs.items
  pub source : now.source ≡ was.source
  pub note : now.note ≡ was.note

-- the link of an output held its capacity at one moment, of what was sent so far
abbrev pub WasFull : {E S K : Type 0} → List Link → Node E S K → Type 0
WasFull links n = (o : ℕ) × (o < length n.outs.items) × ((d : Outlet) (l : Link)
    → Held (capacity_of (slice_index_or links (slice_index_or n.outs.items o d).link l))
    (IsSentUpTo (sent (slice_index_or n.outs.items o d).pass)))

-- it isn't done, no packet waits to be put, and its source isn't still to be read
abbrev pub OnlyTakes : {E S K : Type 0} → (E → Part → At → Tuples → Type 0) → (S → Part → List Item → S → Type 0)
    → (S → List Item → Type 0) → (S → Bool) → (K → Tuples → K → Type 0) → (K → Tuples → K → Type 0) → (K → ℕ)
    → Node E S K → Type 0
OnlyTakes stands gave front over took began faults n =
    (part : Part) (m : NodeMeets stands gave front over took began faults part n)
    → (IsOrderly part m.a → m.a.outbox ≡ []) × (StillReads part m.a → ⊥) × (AllEnded part m.a → ⊥)

-- nothing moved, for one of these reasons
abbrev pub WasIdle : {E S K : Type 0} → (E → Part → At → Tuples → Type 0) → (S → Part → List Item → S → Type 0)
    → (S → List Item → Type 0) → (S → Bool) → (K → Tuples → K → Type 0) → (K → Tuples → K → Type 0) → (K → ℕ)
    → List Link → Node E S K → Node E S K → Type 0
WasIdle stands gave front over took began faults links was now =
    IsStill was now × (WasFull links was ⊎ OnlyTakes stands gave front over took began faults was)
