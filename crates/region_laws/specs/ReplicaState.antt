-- What the operators of replicas keep.
use Rattle.std.specs.Prelude.{◌≡◌, ◌<◌, ◌==◌, ℕ, true, false, List, [], ◌∷◌, ◌++◌, map, reverse, Some, slice_get, if◌then◌else◌}
use Rattle.std.specs.List.{AllByRecursion}
use Rattle.spl_value.specs.Key.{has_place, key_of}
use Rattle.spl_value.specs.declared.item.Item.{Item}
use Rattle.spl_value.specs.declared.item.Item.TheVariants as I
use Rattle.spl_value.specs.declared.routing.Routing.TheVariants.{Key}
use Rattle.spl_value.specs.declared.value.Value.{Value}
use Rattle.spl_value.specs.Route.{part, route}
use Rattle.stream_model.specs.declared.plan.StateKind.TheVariants as K
use Rattle.stream_model.specs.Copies.{trace}
use Rattle.stream_model.specs.Meaning.{Graph}
use Rattle.stream_model.specs.Operators.{Operator}
use Rattle.stream_model.specs.PortLaws.{has_connections}
use Rattle.stream_model.specs.Regions.{chain_key, is_safe, tuples_of_key}
use Rattle.language_model.specs.declared.checked.CheckedClauses.TheVariants as A
use Rattle.language_model.specs.declared.checked.CollectedAttribute.{CollectedAttribute}
use Rattle.language_model.specs.declared.checked.Policy.{Policy}
use Rattle.stream_model.specs.Stages.{chain}
use Rattle.stream_model.specs.StateKinds.{state_of}
use Rattle.stream_model.specs.Stream.{Event, any_closes, came}
use Rattle.stream_model.specs.Windows.{content, flushes_at_markers, partition_key, window_events}
use Rattle.stream_model.specs.Replicas.{replica}

-- the events of an operator with one connection for a stream, the newest first
abbrev pub history : List Item → List Event
history items = reverse (map (came 0) items)

-- without their numbers
abbrev pub without_numbers : List (ℕ × Item) → List Item
without_numbers ps = map (λ p. p.1) ps

-- the first tuple, of the stream that the region reads, has the region's key that the second one has, a tuple of the
-- stream behind this chain
abbrev pub HasRegionKey : List Operator → List ℕ → List Value → List Value → Type 0
HasRegionKey before key vs us = (q a : ℕ) → trace (map (λ (op : Operator). op.clauses) before) q ≡ Some a
    → has_place key a ≡ true → slice_get us q ≡ slice_get vs a

-- While a safe chain hasn't ended, an operator that keeps a state by keys has in one replica the tuples of a key that it
-- has in the chain, and none of them in the others: in that to which the region's key leads. A tuple `us` has the key,
-- and a tuple `vs` the region's key.
abbrev pub StateLaw : Type 0
StateLaw = (g : Graph) (before after : List Operator) (op : Operator) (places : List ℕ) (width c : ℕ)
    (items : List Item) (vs us : List Value) → is_safe g (before ++ op ∷ after) ≡ true
    → AllByRecursion (λ op. has_connections op ≡ true) (before ++ op ∷ after) → 0 < width
    → state_of op ≡ K.Keyed places → any_closes (chain (before ++ op ∷ after) items) ≡ false
    → HasRegionKey before (chain_key (before ++ op ∷ after)) vs us
    → tuples_of_key places (key_of us places)
    (history (without_numbers (replica before (part (Key (chain_key (before ++ op ∷ after))) width items c))))
    ≡ (if route (Key (chain_key (before ++ op ∷ after))) width 0 (I.Tuple vs) == c
    then tuples_of_key places (key_of us places) (history (chain before items)) else [])

-- So of each key there is one replica that takes all its tuples, in their order, and no other replica takes any.
abbrev pub KeyLaw : Type 0
KeyLaw = (g : Graph) (before after : List Operator) (op : Operator) (places : List ℕ) (width : ℕ)
    (items : List Item) (k : List Value) → is_safe g (before ++ op ∷ after) ≡ true
    → AllByRecursion (λ op. has_connections op ≡ true) (before ++ op ∷ after) → 0 < width
    → state_of op ≡ K.Keyed places → any_closes (chain (before ++ op ∷ after) items) ≡ false
    → (d : ℕ) × (d < width) × ((c : ℕ) → tuples_of_key places k
    (history (without_numbers (replica before (part (Key (chain_key (before ++ op ∷ after))) width items c))))
    ≡ (if d == c then tuples_of_key places k (history (chain before items)) else []))

-- what the partition of a key holds in a window of an Aggregate that took these items
abbrev pub held_of : Policy → List ℕ → List Value → List Item → List (List Value)
held_of window places k items = content window.rule k (window_events (partition_key window places) (reverse items))

-- So the window of an Aggregate of a replica holds of its own keys what it holds on one thread, and of others nothing.
abbrev pub WindowLaw : Type 0
WindowLaw = (g : Graph) (before after : List Operator) (op : Operator) (window : Policy) (places group : List ℕ)
    (collects : List CollectedAttribute) (width c : ℕ) (items : List Item) (vs us : List Value)
    → is_safe g (before ++ op ∷ after) ≡ true
    → AllByRecursion (λ op. has_connections op ≡ true) (before ++ op ∷ after) → 0 < width
    → op.clauses ≡ A.Aggregate window places group collects → window.partitioned ≡ true
    → flushes_at_markers window.rule ≡ false → any_closes (chain (before ++ op ∷ after) items) ≡ false
    → HasRegionKey before (chain_key (before ++ op ∷ after)) vs us
    → held_of window places (key_of us places)
    (without_numbers (replica before (part (Key (chain_key (before ++ op ∷ after))) width items c)))
    ≡ (if route (Key (chain_key (before ++ op ∷ after))) width 0 (I.Tuple vs) == c
    then held_of window places (key_of us places) (chain before items) else [])
