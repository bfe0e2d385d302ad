-- What the work of an element may take.
use Rattle.std.proofs.Common.{ℕ, ◌<◌, ◌≤◌, ◌^◌, ◌==◌, Bool, true, false, cond, List, [], ◌∷◌, ◌++◌, ◌≡◌, map, length, refl, sym, ap, ◌∙◌, subst, arith, is_some, Some, slice_get}
use Rattle.std.proofs.lemmas.Bool.{cond-false}
use Rattle.spl_value.specs.declared.item.Item.{Item}
use Rattle.spl_value.specs.declared.packet.Packet.{Packet}
use Rattle.spl_value.specs.declared.packet.Packet.TheVariants as P
use Rattle.spl_value.specs.Numbered.{IsProper, closes}
use Rattle.language_model.specs.StreamTypes.{Attributes}
use Rattle.language_model.specs.declared.outs.Output.{Output}
use Rattle.stream_model.specs.Bodies.{output}
use Rattle.stream_model.specs.Chains.{onward, stages_passed}
use Rattle.stream_model.specs.Inputs.{came_on}
use Rattle.stream_model.specs.Operators.{Operator, input_attributes, output_attributes, ports, ports_from}
use Rattle.stream_model.specs.parts.Operators.{port_at}
use Rattle.stream_model.specs.React.{ended}
use Rattle.stream_model.specs.Replies.{ItemHas, given_attributes, is_live}
use Rattle.stream_model.specs.Sending.{stages_after}
use Rattle.stream_model.specs.Stages.{Stage, gives_all, next, on_port, stage_after, start}
use Rattle.stream_model.specs.Stream.{Event, any_closes, came}
use Rattle.network_model.specs.Networks.{RegionPart, FromSource, FromLinks, Splitter, Replica, Merger}
use Rattle.network_model.specs.Packets.{items_in}
use Rattle.network_model.specs.Receipts.{item_events, popped, read_in}
use Rattle.network_model.proofs.Receipts.{came_on-items}
use Rattle.operator_chains.specs.Standing.{Joined, MayCome, MayFeed}
use Rattle.operator_chains.proofs.Inner.{after_op, joined_passed, live_next}
use Rattle.elements.specs.Suiting.{AreFused, ReadsLaw, Suits, TakesLaw}
use Rattle.element_works.specs.Works.{Comes}
use Rattle.elements.specs.Works.{Enters}
use Rattle.elements.proofs.Propers.{has_item, unclosed_item, unended_item}

fused_joined : (types : Attributes) (ops : List Operator) → AreFused types ops → Joined types (map start ops)
fused_joined types [] f = tt
fused_joined types (op ∷ ops) f = (f.0, record { stream = f.1.0; one = f.1.1; live = λ q. refl; unclosed = λ q. refl }, fused_joined (given_attributes op.clauses op 0) ops f.2)

live_after : (s : Stage) (events : List Event) → (s.over ≡ false → is_live s.op s.seen ≡ true) → (stage_after s events).over ≡ false → is_live (stage_after s events).op (stage_after s events).seen ≡ true
live_after s [] live q = live q
live_after s (e ∷ events) live q = live_after (next s e) events (go s.over refl) q
  where
    go : (b : Bool) → s.over ≡ b → (cond {A = Stage} b s (record { op = s.op; seen = e ∷ s.seen; over = is_some (ended s.op s.seen e) })).over ≡ false
        → is_live (cond {A = Stage} b s (record { op = s.op; seen = e ∷ s.seen; over = is_some (ended s.op s.seen e) })).op (cond {A = Stage} b s (record { op = s.op; seen = e ∷ s.seen; over = is_some (ended s.op s.seen e) })).seen ≡ true
    go true o over = live over
    go false o over = live_next s.op s.seen e (live o) over

open_more : (test : ℕ → Bool) (e : Event) (seen events : List Event) → any_closes (came_on test seen) ≡ false → any_closes (came_on test (e ∷ events)) ≡ false
    → (any_closes (came_on test (e ∷ seen)) ≡ false) × (any_closes (came_on test events) ≡ false)
open_more test e seen events h k = go (test e.input) k
  where
    inner : (b : Bool) → closes e.item ≡ b → cond b true (any_closes (came_on test events)) ≡ false → (cond (closes e.item) true (any_closes (came_on test seen)) ≡ false) × (any_closes (came_on test events) ≡ false)
    inner true c k = let clash : true ≡ false = k in cc
    inner false c k = (cond-false (closes e.item) true _ c ∙ h, k)

    go : (b : Bool) → any_closes (cond b (e.item ∷ came_on test events) (came_on test events)) ≡ false
        → (any_closes (cond b (e.item ∷ came_on test seen) (came_on test seen)) ≡ false) × (any_closes (came_on test events) ≡ false)
    go true k = inner (closes e.item) refl k
    go false k = (h, k)

open_after : (test : ℕ → Bool) (s : Stage) (events : List Event) → any_closes (came_on test s.seen) ≡ false → any_closes (came_on test events) ≡ false → any_closes (came_on test (stage_after s events).seen) ≡ false
open_after test s [] h k = h
open_after test s (e ∷ events) h k = let m = open_more test e s.seen events h k in open_after test (next s e) events (go s.over m.0) m.1
  where
    go : (b : Bool) → any_closes (came_on test (e ∷ s.seen)) ≡ false → any_closes (came_on test (cond {A = Stage} b s (record { op = s.op; seen = e ∷ s.seen; over = is_some (ended s.op s.seen e) })).seen) ≡ false
    go true m = h
    go false m = m

-- an operator, behind these events, may take an item on an input on which nothing closed
first_may : (op : Operator) (events : List Event) (i : ℕ) (x : Item) → i < length (ports op) → any_closes (came_on (λ j. j == i) events) ≡ false → ItemHas (input_attributes op (port_at (ports op) i)) x
    → MayCome (stage_after (start op) events) (came i x)
first_may op events i x within unclosed has over =
    let s : Stage = stage_after (start op) events in
    let same : s.op ≡ op = after_op (start op) events in
    record {
      live = live_after (start op) events (λ q. refl) over;
      input = subst (λ (o : Operator). i < length (ports o)) (sym same) within;
      is_open = open_after (λ j. j == i) (start op) events refl unclosed;
      has = subst (λ (o : Operator). ItemHas (input_attributes o (port_at (ports o) i)) x) (sym same) has;
    }

feeds : (op : Operator) (ops : List Operator) (events : List Event) (i : ℕ) (x : Item) → AreFused (given_attributes op.clauses op 0) ops → i < length (ports op) → any_closes (came_on (λ j. j == i) events) ≡ false
    → ItemHas (input_attributes op (port_at (ports op) i)) x → MayFeed (stage_after (start op) events ∷ stages_passed (map start ops) (gives_all (start op) events)) (came i x)
feeds op ops events i x fused within unclosed has = (
  first_may op events i x within unclosed has,
  subst (λ (o : Operator). Joined (given_attributes o.clauses o 0) (stages_passed (map start ops) (gives_all (start op) events))) (sym (after_op (start op) events))
      (joined_passed (given_attributes op.clauses op 0) (map start ops) (gives_all (start op) events) (fused_joined (given_attributes op.clauses op 0) ops fused)),
)

-- ---- the first of operators that are fused

came_zero : (xs : List Item) → came_on (λ j. j == 0) (map (came 0) xs) ≡ xs
came_zero [] = refl
came_zero (x ∷ xs) = ap (λ ys. x ∷ ys) (came_zero xs)

-- it has one input
feeds_one : (op : Operator) (ops : List Operator) (types : Attributes) (xs : List Item) (x : Item) → AreFused types (op ∷ ops) → any_closes xs ≡ false → ItemHas types x
    → MayFeed (stage_after (start op) (map (came 0) xs) ∷ stages_passed (map start ops) (gives_all (start op) (map (came 0) xs))) (came 0 x)
feeds_one op ops types xs x fused unclosed has =
    let one : ports op ≡ 0 ∷ [] = ap (ports_from 0) fused.1.1 in
    feeds op ops (map (came 0) xs) 0 x fused.2 (subst (λ ps. 0 < length ps) (sym one) (omega arith)) (ap any_closes (came_zero xs) ∙ unclosed)
    (subst (λ t. ItemHas t x) (sym (ap (λ ps. input_attributes op (port_at ps 0)) one ∙ fused.0)) has)

onward-items : (xs : List Item) → onward (map (output 0) xs) ≡ map (came 0) xs
onward-items [] = refl
onward-items (x ∷ xs) = ap (λ es. came 0 x ∷ es) (onward-items xs)

pub reads_law : ReadsLaw
reads_law source [] outs T x fused unclosed has = tt
reads_law source (op ∷ ops) outs T x fused unclosed has =
    subst (λ es. MayFeed (stage_after (start op) es ∷ stages_passed (map start ops) (gives_all (start op) es)) (came 0 x)) (sym (onward-items (read_in T)))
    (feeds_one op ops (output_attributes source 0) (read_in T) x fused unclosed has)

stages-as : (ss : List Stage) (outs : List Output) → stages_passed ss outs ≡ stages_after ss (on_port 0 outs)
stages-as [] outs = refl
stages-as (s ∷ ss) outs = ap (λ ts. stage_after s (onward outs) ∷ ts) (stages-as ss (gives_all s (onward outs)))

replica_feeds : (types : Attributes) (ops : List Operator) (xs : List Item) (x : Item) → AreFused types ops → any_closes xs ≡ false → ItemHas types x → MayFeed (stages_after (map start ops) xs) (came 0 x)
replica_feeds types [] xs x fused unclosed has = tt
replica_feeds types (op ∷ ops) xs x fused unclosed has =
    subst (λ ts. MayFeed (stage_after (start op) (map (came 0) xs) ∷ ts) (came 0 x)) (stages-as (map start ops) (gives_all (start op) (map (came 0) xs)))
    (feeds_one op ops types xs x fused unclosed has)

-- ---- all parts

only_zero : (i : ℕ) → i < 1 → i ≡ 0
only_zero i h = omega (arith, h)

fewer : (ps : List Packet) → length (items_in ps) ≤ length ps
fewer [] = omega arith
fewer (P.Item n x ∷ ps) = let le = fewer ps in omega (arith, le)
fewer (P.Pulse n ∷ ps) = let le = fewer ps in omega (arith, le)
fewer (P.Close ∷ ps) = let le = fewer ps in omega (arith, le)
fewer (P.Cut ∷ ps) = let le = fewer ps in omega (arith, le)

enters : (region : RegionPart) (schemas : List Attributes) (ps : List Packet) (p : Packet) (s : Attributes) → Suits (Splitter region) schemas → slice_get schemas 0 ≡ Some s → IsProper s (ps ++ p ∷ []) → length ps < 2 ^ 61
    → Enters region (items_in ps) p
enters region schemas ps (P.Item n x) s suits got proper few =
    ((let le = fewer ps in omega (arith, le, few)), suits s x got (has_item s ps n x proper), unclosed_item s ps n x proper)
enters region schemas ps (P.Pulse n) s suits got proper few = tt
enters region schemas ps P.Close s suits got proper few = tt
enters region schemas ps P.Cut s suits got proper few = tt

comes : (region : RegionPart) (ps : List Packet) (p : Packet) (s : Attributes) → AreFused s region.ops → IsProper s (ps ++ p ∷ []) → Comes (stages_after (map start region.ops) (items_in ps)) p
comes region ps (P.Item n x) s fused proper = replica_feeds s region.ops (items_in ps) x fused (unclosed_item s ps n x proper) (has_item s ps n x proper)
comes region ps (P.Pulse n) s fused proper = tt
comes region ps P.Close s fused proper = tt
comes region ps P.Cut s fused proper = tt

pub takes_law : TakesLaw
takes_law (FromSource source ops outs) schemas T i p s suits within got proper few m = absurd (omega (arith, within))
takes_law (FromLinks op ops outs) schemas T i (P.Item n x) s suits within got proper few m =
    feeds op ops (item_events T) i x suits.0 within (ap any_closes (came_on-items i T) ∙ unclosed_item s (popped i T) n x proper) (subst (λ t. ItemHas t x) (suits.1 i s got) (has_item s (popped i T) n x proper))
takes_law (FromLinks op ops outs) schemas T i (P.Pulse n) s suits within got proper few m = tt
takes_law (FromLinks op ops outs) schemas T i P.Close s suits within got proper few m = tt
takes_law (FromLinks op ops outs) schemas T i P.Cut s suits within got proper few m = tt
takes_law (Splitter region) schemas T i p s suits within got proper few m =
    let zero_is : i ≡ 0 = only_zero i within in
    (zero_is, enters region schemas (popped 0 T) p s suits (ap (slice_get schemas) (sym zero_is) ∙ got) (subst (λ k. IsProper s (popped k T ++ p ∷ [])) zero_is proper) (subst (λ k. length (popped k T) < 2 ^ 61) zero_is few))
takes_law (Replica region channel) schemas T i p s suits within got proper few m =
    let zero_is : i ≡ 0 = only_zero i within in
    (zero_is, comes region (popped 0 T) p s (suits s (ap (slice_get schemas) (sym zero_is) ∙ got)) (subst (λ k. IsProper s (popped k T ++ p ∷ [])) zero_is proper))
takes_law (Merger region outs) schemas T i p s suits within got proper few m = record {
  within = within;
  unended = unended_item s (popped i T) p proper;
  wanted = m.0;
  order = m.1;
}
