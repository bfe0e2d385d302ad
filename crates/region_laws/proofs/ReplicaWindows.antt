-- The windows of a replica's Aggregates.
use Rattle.std.proofs.Common.{◌≡◌, ℕ, zero, suc, ◌%◌, ◌==◌, take, ◌&&◌, not, Bool, true, false, List, [], ◌∷◌, ◌++◌, map, reverse, refl, sym, ap, ◌∙◌, cond, if◌then◌else◌}
use Rattle.std.proofs.lemmas.List.{reverse-append, map-append}
use Rattle.spl_value.specs.Key.{key_of}
use Rattle.spl_value.specs.KeyOrder.{same_key}
use Rattle.spl_value.specs.declared.item.Item.{Item}
use Rattle.spl_value.specs.declared.item.Item.TheVariants as I
use Rattle.spl_value.specs.declared.value.Value.{Value}
use Rattle.language_model.specs.declared.checked.Policy.{Policy}
use Rattle.language_model.specs.declared.checked.WindowRule.{WindowRule}
use Rattle.language_model.specs.declared.checked.WindowRule.TheVariants as W
use Rattle.stream_model.specs.declared.plan.StateKind.TheVariants as K
use Rattle.stream_model.specs.Regions.{chain_key, tuples_of_key}
use Rattle.stream_model.specs.Stages.{chain}
use Rattle.stream_model.specs.StateKinds.{state_by, state_of}
use Rattle.stream_model.specs.Stream.{Event, came}
use Rattle.stream_model.specs.Windows.{flushes_at_markers, held, in_order, partition_key, since_mark, tuples_with, window_events}
use Rattle.spl_value.specs.declared.routing.Routing.TheVariants.{Key}
use Rattle.spl_value.specs.Route.{part, route}
use Rattle.stream_model.specs.Replicas.{replica}
use Rattle.region_laws.proofs.NumberedItems.{items}
use Rattle.region_laws.specs.ReplicaState.{WindowLaw, held_of, history}
use Rattle.region_laws.proofs.ReplicaState.{state_law}

-- the tuples of events
abbrev add : Item → List (List Value) → List (List Value)
add (I.Tuple vs) ts = vs ∷ ts
add I.Window ts = ts
add I.Final ts = ts
add (I.Bad f) ts = ts

abbrev tuples_in : List Event → List (List Value)
tuples_in [] = []
tuples_in (e ∷ h) = add e.item (tuples_in h)

tuples_come : (places : List ℕ) (k : List Value) (items : List Item)
    → tuples_with k (window_events (λ t. key_of t places) items) ≡ tuples_in (tuples_of_key places k (map (came 0) items))
tuples_come places k [] = refl
tuples_come places k (I.Tuple vs ∷ items) = go (same_key k (key_of vs places)) (tuples_come places k items) where
  go : (b : Bool) → tuples_with k (window_events (λ t. key_of t places) items) ≡ tuples_in (tuples_of_key places k (map (came 0) items))
      → cond b (vs ∷ tuples_with k (window_events (λ t. key_of t places) items)) (tuples_with k (window_events (λ t. key_of t places) items))
      ≡ tuples_in (cond b (came 0 (I.Tuple vs) ∷ tuples_of_key places k (map (came 0) items)) (tuples_of_key places k (map (came 0) items)))
  go true h = ap (λ z. vs ∷ z) h
  go false h = h
tuples_come places k (I.Window ∷ items) = tuples_come places k items
tuples_come places k (I.Final ∷ items) = tuples_come places k items
tuples_come places k (I.Bad f ∷ items) = tuples_come places k items

map-reverse : (items : List Item) → map (came 0) (reverse items) ≡ reverse (map (came 0) items)
map-reverse [] = refl
map-reverse (x ∷ items) =
    ap (map (came 0)) (reverse-append (x ∷ []) items)
    ∙ map-append (came 0) (reverse items) (x ∷ [])
    ∙ ap (λ z. z ++ came 0 x ∷ []) (map-reverse items)
    ∙ sym (reverse-append (came 0 x ∷ []) (map (came 0) items))

-- what a partition holds, by the events of its key
held_is : (window : Policy) (places : List ℕ) (k : List Value) (items : List Item) → window.partitioned ≡ true → flushes_at_markers window.rule ≡ false
    → held_of window places k items ≡ held window.rule (tuples_in (tuples_of_key places k (history items)))
held_is window places k items partitioned passing =
    ap (λ b. held window.rule (tuples_with k (if b then since_mark (window_events (partition_key window places) (reverse items)) else window_events (partition_key window places) (reverse items)))) passing
    ∙ (λ i. held window.rule (tuples_with k (window_events (λ t. (if partitioned i then key_of t places else [])) (reverse items))))
    ∙ ap (held window.rule) (tuples_come places k (reverse items))
    ∙ ap (λ es. held window.rule (tuples_in (tuples_of_key places k es))) (map-reverse items)

nothing_held : (rule : WindowRule) → held rule [] ≡ []
nothing_held (W.TumblingCount n) = take_none (0 % n) where
  take_none : (m : ℕ) → in_order {A = List Value} (take m []) ≡ []
  take_none zero = refl
  take_none (suc m) = refl
nothing_held (W.TumblingDelta a limit) = refl
nothing_held W.TumblingPunct = refl
nothing_held (W.SlidingCount n every) = take_none n where
  take_none : (m : ℕ) → in_order {A = List Value} (take m []) ≡ []
  take_none zero = refl
  take_none (suc m) = refl
nothing_held (W.SlidingDelta a limit every) = refl

pub window_law : WindowLaw
window_law g before after op window places group collects width c L vs us safe connected positive is partitioned passing opens with_key =
    held_is window places (key_of us places) (items (replica before (part (Key (chain_key (before ++ op ∷ after))) width L c))) partitioned passing
    ∙ ap (λ es. held window.rule (tuples_in es)) (state_law g before after op places width c L vs us safe connected positive kind opens with_key)
    ∙ go (route (Key (chain_key (before ++ op ∷ after))) width 0 (I.Tuple vs) == c)
  where
    kind : state_of op ≡ K.Keyed places
    kind = ap state_by is ∙ ap (λ b. if b && not (flushes_at_markers window.rule) then K.Keyed places else K.Whole) partitioned ∙ ap (λ b. if not b then K.Keyed places else K.Whole) passing

    go : (b : Bool) → held window.rule (tuples_in (cond b (tuples_of_key places (key_of us places) (history (chain before L))) []))
        ≡ cond b (held_of window places (key_of us places) (chain before L)) []
    go true = sym (held_is window places (key_of us places) (chain before L) partitioned passing)
    go false = nothing_held window.rule
