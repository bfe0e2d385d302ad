-- Records of settled lists are whole.
use Rattle.std.proofs.Common.{ℕ, suc, ◌+◌, ◌<◌, ◌==◌, nat_le, not, Bool, true, false, cond, ◌&&◌, List, [], ◌∷◌, ◌≡◌, ◌⊎◌, inl, inr, refl, sym, ap, ◌∙◌, arith, length, is_some, Some, None, slice_index}
use Rattle.std.proofs.lemmas.Bool.{cond-false, cases_Bool, and_parts, and_from}
use Rattle.spl_value.specs.declared.item.Item.{Item}
use Rattle.spl_value.specs.declared.item.Item.TheVariants as I
use Rattle.spl_value.specs.declared.packet.Packet.TheVariants as P
use Rattle.spl_value.specs.Numbered.{stops_once, closes}
use Rattle.stream_model.specs.Stream.{Event, is_final, is_fault, is_closed, is_empty}
use Rattle.stream_model.specs.Inputs.{came_on}
use Rattle.stream_model.specs.Operators.{Operator, ports}
use Rattle.stream_model.specs.PortEvents.{is_over, all_over, is_waiting, ends_all}
use Rattle.stream_model.specs.React.{body, ended, ended_by}
use Rattle.stream_model.specs.Stages.{Stage, start, next, stage_after}
use Rattle.stream_model.specs.Meaning.{arrive}
use Rattle.stream_model.specs.Laws.{has_ended}
use Rattle.stream_model.specs.Records.{ends_at_last, is_whole, up_to_end}
use Rattle.stream_model.specs.parts.Records.{names_inputs, finds_items}
use Rattle.stream_model.proofs.ByPorts.{over_stays}
use Rattle.stream_model.proofs.Closings.{ended_by-last}
use Rattle.stream_model.proofs.StageLaws.{stage_at, after-over}
use Rattle.network_model.specs.Packets.{has_last, packets_of}
use Rattle.network_model.specs.Receipts.{Taken}
use Rattle.network_model.specs.Owed.{item_lists}
use Rattle.network_model.specs.Joined.{IsRecorded}
use Rattle.network_model.proofs.Packets.{no_length}

-- ---- closed lists that are used up end an operator

-- a final marker has come on each input, from i on
abbrev AllOver : List ℕ → ℕ → List Event → Type 0
AllOver ps i h = all_over (λ q. true) ps i h ≡ true

all_over-some : (test : ℕ → Bool) (ps : List ℕ) (i : ℕ) (h : List Event) → AllOver ps i h → all_over test ps i h ≡ true
all_over-some test [] i h all = refl
all_over-some test (p ∷ ps) i h all =
    let parts = and_parts (is_over h i) (all_over (λ q. true) ps (suc i) h) all in
    go (test p) parts.0 (all_over-some test ps (suc i) h parts.1)
  where
    go : (b : Bool) → is_over h i ≡ true → all_over test ps (suc i) h ≡ true → cond b (is_over h i && all_over test ps (suc i) h) (all_over test ps (suc i) h) ≡ true
    go true over rest = and_from (is_over h i) (all_over test ps (suc i) h) over rest
    go false over rest = rest

-- an input without one
some-open : (ps : List ℕ) (i : ℕ) (h : List Event) → all_over (λ q. true) ps i h ≡ false → (j : ℕ) × (j < i + length ps) × (is_over h j ≡ false)
some-open [] i h none = absurd (cc)
some-open (p ∷ ps) i h none = go (is_over h i) refl none (λ n. some-open ps (suc i) h n)
  where
    go : (b : Bool) → is_over h i ≡ b → (b && all_over (λ q. true) ps (suc i) h) ≡ false → (all_over (λ q. true) ps (suc i) h ≡ false → (j : ℕ) × (j < suc i + length ps) × (is_over h j ≡ false))
        → (j : ℕ) × (j < i + suc (length ps)) × (is_over h j ≡ false)
    go true q n rest = let r = rest n in let lt = r.1 in (r.0, omega (arith, lt), r.2)
    go false q n rest = (i, omega arith, q)

-- an input has had its final marker, or what is still to come on it is closed
abbrev Left : Operator → List Event → List Event → Type 0
Left op seen events = (i : ℕ) → i < length (ports op) → (is_over seen i ≡ true) ⊎ (is_closed (came_on (λ j. j == i) events) ≡ true)

not-fault : (op : Operator) (seen : List Event) (e : Event) → is_some (ended op seen e) ≡ false → is_fault e.item ≡ false
not-fault op seen e h = go (is_fault e.item) h
  where
    go : (b : Bool) → is_some (cond b (Some e.item) (cond (is_waiting op seen e) None (ended_by op (ends_all op seen e) (body op seen e)))) ≡ false → b ≡ false
    go true q = absurd (cc)
    go false q = refl

-- an item that closes and is no fault is a final marker
final-of : (x : Item) → closes x ≡ true → is_fault x ≡ false → is_final x ≡ true
final-of (I.Tuple vs) c f = absurd (cc)
final-of I.Window c f = absurd (cc)
final-of I.Final c f = refl
final-of (I.Bad g) c f = absurd (cc)

left-more : (op : Operator) (seen events : List Event) (e : Event) → is_fault e.item ≡ false → Left op seen (e ∷ events) → Left op (e ∷ seen) events
left-more op seen events e fault left i lt = go (left i lt)
  where
    later : (b c : Bool) → (e.input == i) ≡ b → closes e.item ≡ c → is_closed (cond b (e.item ∷ came_on (λ j. j == i) events) (came_on (λ j. j == i) events)) ≡ true
        → (is_over (e ∷ seen) i ≡ true) ⊎ (is_closed (came_on (λ j. j == i) events) ≡ true)
    later false c at q h = inr h
    later true true at q h =
        inl (ap (λ b. cond (b && is_final e.item) true (is_over seen i)) at ∙ ap (λ b. cond b true (is_over seen i)) (final-of e.item q fault))
    later true false at q h = inr (sym (cond-false (closes e.item) (is_empty (came_on (λ j. j == i) events)) (is_closed (came_on (λ j. j == i) events)) q) ∙ h)

    go : (is_over seen i ≡ true) ⊎ (is_closed (came_on (λ j. j == i) (e ∷ events)) ≡ true) → (is_over (e ∷ seen) i ≡ true) ⊎ (is_closed (came_on (λ j. j == i) events) ≡ true)
    go (inl over) = inl (over_stays e seen i over)
    go (inr closed) = later (e.input == i) (closes e.item) refl refl closed

-- the last final marker ends the operator
last-ends : (op : Operator) (seen : List Event) (e : Event) → is_fault e.item ≡ false → is_final e.item ≡ true → AllOver (ports op) 0 (e ∷ seen) → is_some (ended op seen e) ≡ true
last-ends op seen e fault final all =
    (λ k. is_some (cond (fault k) (Some e.item) (cond (waits k) None (ended_by op (last k) (body op seen e))))) ∙ ended_by-last op (body op seen e)
  where
    waits : is_waiting op seen e ≡ false
    waits = ap (λ b. b && not (all_over (λ p. p == port) (ports op) 0 (e ∷ seen))) final ∙ ap not (all_over-some (λ p. p == port) (ports op) 0 (e ∷ seen) all)
      where
        port : ℕ
        port = slice_index (ports op) e.input

    last : ends_all op seen e ≡ true
    last = ap (λ b. b && all_over (λ p. true) (ports op) 0 (e ∷ seen)) final ∙ all

over-same : (e : Event) (h : List Event) (ps : List ℕ) (i : ℕ) → is_final e.item ≡ false → all_over (λ q. true) ps i (e ∷ h) ≡ all_over (λ q. true) ps i h
over-same e h [] i f = refl
over-same e h (p ∷ ps) i f =
    let rest : all_over (λ q. true) ps (suc i) (e ∷ h) ≡ all_over (λ q. true) ps (suc i) h = over-same e h ps (suc i) f in
    λ k. here k && rest k
  where
    both : (b : Bool) → cond (b && false) true (is_over h i) ≡ is_over h i
    both true = refl
    both false = refl

    here : is_over (e ∷ h) i ≡ is_over h i
    here = ap (λ b. cond ((e.input == i) && b) true (is_over h i)) f ∙ both (e.input == i)

-- some input is still without one, where the event doesn't end the operator
open-more : (op : Operator) (seen : List Event) (e : Event) → is_fault e.item ≡ false → is_some (ended op seen e) ≡ false → all_over (λ q. true) (ports op) 0 seen ≡ false
    → all_over (λ q. true) (ports op) 0 (e ∷ seen) ≡ false
open-more op seen e fault live some = go (is_final e.item) refl (cases_Bool (all_over (λ q. true) (ports op) 0 (e ∷ seen)))
  where
    go : (b : Bool) → is_final e.item ≡ b → (all_over (λ q. true) (ports op) 0 (e ∷ seen) ≡ true) ⊎ (all_over (λ q. true) (ports op) 0 (e ∷ seen) ≡ false)
        → all_over (λ q. true) (ports op) 0 (e ∷ seen) ≡ false
    go b q (inr none) = none
    go true q (inl all) = let clash : false ≡ true = sym live ∙ last-ends op seen e fault q all in absurd (cc)
    go false q (inl all) = over-same e seen (ports op) 0 q ∙ some

ends-all : (op : Operator) (seen events : List Event) → Left op seen events → all_over (λ q. true) (ports op) 0 seen ≡ false → (stage_after (stage_at op seen false) events).over ≡ true
ends-all op seen [] left some =
    let o = some-open (ports op) 0 seen some in
    let lt = o.1 in
    go o.0 o.2 (left o.0 (omega (arith, lt)))
  where
    go : (j : ℕ) → is_over seen j ≡ false → (is_over seen j ≡ true) ⊎ (false ≡ true) → false ≡ true
    go j none (inl over) = sym none ∙ over
    go j none (inr closed) = closed
ends-all op seen (e ∷ events) left some = go (is_some (ended op seen e)) refl (λ l s. ends-all op (e ∷ seen) events l s)
  where
    go : (b : Bool) → is_some (ended op seen e) ≡ b
        → (Left op (e ∷ seen) events → all_over (λ p. true) (ports op) 0 (e ∷ seen) ≡ false → (stage_after (stage_at op (e ∷ seen) false) events).over ≡ true)
        → (stage_after (stage_at op (e ∷ seen) b) events).over ≡ true
    go true q rest = ap (λ (s : Stage). s.over) (after-over (stage_at op (e ∷ seen) true) events refl)
    go false q rest =
        let fault : is_fault e.item ≡ false = not-fault op seen e q in
        rest (left-more op seen events e fault left) (open-more op seen e fault q some)

none-over : (ps : List ℕ) → 0 < length ps → all_over (λ q. true) ps 0 [] ≡ false
none-over [] lt = absurd (omega arith)
none-over (p ∷ ps) lt = refl

pub used-up-ends : (op : Operator) (events : List Event) → 0 < length (ports op) → ((i : ℕ) → i < length (ports op) → is_closed (came_on (λ j. j == i) events) ≡ true) → has_ended op events ≡ true
used-up-ends op events some closed = ends-all op [] events (λ i lt. inr (closed i lt)) (none-over (ports op) some)

-- ---- whole records

ends_to_end : (s : Stage) (events : List Event) → s.over ≡ false → (stage_after s events).over ≡ true → ends_at_last s (up_to_end s events) ≡ true
ends_to_end s [] o h = absurd (cc)
ends_to_end s (e ∷ events) o h = go (next s e).over refl (λ q. ends_to_end (next s e) events q h)
  where
    go : (b : Bool) → (next s e).over ≡ b → ((next s e).over ≡ false → ends_at_last (next s e) (up_to_end (next s e) events) ≡ true)
        → cond b (is_empty (cond b [] (up_to_end (next s e) events))) (ends_at_last (next s e) (cond b [] (up_to_end (next s e) events))) ≡ true
    go true q rest = refl
    go false q rest = rest q

-- the operator of a chain that wasn't cut and whose lists are closed has ended
pub recorded-ends : (op : Operator) (t : Taken) → 0 < length (ports op) → IsRecorded op t false → ((i : ℕ) → i < length (ports op) → is_closed (item_lists t i) ≡ true)
    → has_ended op (arrive (item_lists t) t.entries) ≡ true
recorded-ends op t some r closed = go (r.all refl)
  where
    go : (has_ended op (arrive (item_lists t) t.entries) ≡ true) ⊎ ((i : ℕ) → i < length (ports op) → came_on (λ j. j == i) (arrive (item_lists t) t.entries) ≡ item_lists t i)
        → has_ended op (arrive (item_lists t) t.entries) ≡ true
    go (inl h) = h
    go (inr all) = used-up-ends op (arrive (item_lists t) t.entries) some (λ i lt. ap is_closed (all i lt) ∙ closed i lt)

pub recorded-whole : (op : Operator) (t : Taken) → 0 < length (ports op) → IsRecorded op t false → ((i : ℕ) → i < length (ports op) → is_closed (item_lists t i) ≡ true)
    → is_whole op (item_lists t) t.entries ≡ true
recorded-whole op t some r closed =
    and_from (names_inputs op t.entries && finds_items (item_lists t) t.entries) (ends_at_last (start op) (arrive (item_lists t) t.entries))
    (and_from (names_inputs op t.entries) (finds_items (item_lists t) t.entries) r.named r.found)
    (ap (ends_at_last (start op)) (sym r.in_time) ∙ ends_to_end (start op) (arrive (item_lists t) t.entries) refl (recorded-ends op t some r closed))

-- a list of packets of a stream that ends is that of a closed stream
pub closed-packets : (items : List Item) → stops_once (packets_of items) ≡ true → has_last (packets_of items) ≡ true → is_closed items ≡ true
closed-packets [] s h = absurd (cc)
closed-packets (x ∷ items) s h = go (closes x) s h (closed-packets items)
  where
    empty : (xs : List Item) → nat_le (length (packets_of xs)) 0 ≡ true → is_empty xs ≡ true
    empty [] q = refl
    empty (y ∷ xs) q = let none : packets_of (y ∷ xs) ≡ [] = no_length (packets_of (y ∷ xs)) q in absurd (cc)

    go : (b : Bool) → stops_once (cond b (P.Close ∷ packets_of items) (packets_of items)) ≡ true → has_last (cond b (P.Close ∷ packets_of items) (packets_of items)) ≡ true
        → (stops_once (packets_of items) ≡ true → has_last (packets_of items) ≡ true → is_closed items ≡ true)
        → cond b (is_empty items) (is_closed items) ≡ true
    go true q l rest = empty items (and_parts (nat_le (length (packets_of items)) 0) (stops_once (packets_of items)) q).0
    go false q l rest = rest q l
