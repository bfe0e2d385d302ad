-- The enabled events by their numbers, and the picked ones.
use Prim.Native.Nat.{zero, suc}
use Rattle.std.proofs.Common.{ℕ, ◌+◌, ◌%◌, ◌==◌, nat_lt, ◌&&◌, ◌||◌, not, Bool, true, false, cond, List, [], ◌∷◌, ◌≡◌, ◌⊎◌, refl, subst, length, map, Option, Some, None, option_map, slice_get, inl, inr, sym, ◌∙◌, arith, ap, ◌++◌, ◌<◌, append-nil}
use Rattle.std.specs.Prelude.{filter, is_some}
use Rattle.std.specs.Option.{option_and_then, option_map_or}
use Rattle.std.proofs.lemmas.Bool.{and_parts, ltb-true, eqb-true, cond-true, and_from, or_cases, or_left, or_right, lt-ltb, eq-eqb}
use Rattle.std.proofs.lemmas.Nat.{mod_below}
use Rattle.spl_value.specs.declared.item.Item.{Item}
use Rattle.spl_value.specs.declared.item.Item.TheVariants as I
use Rattle.spl_value.specs.declared.packet.Packet.{Packet}
use Rattle.language_model.specs.Numbering.{numbers_from}
use Rattle.stream_model.specs.Stream.{any_closes, is_closed, is_empty, IsPrefix}
use Rattle.stream_model.specs.Meaning.{Lists}
use Rattle.stream_model.specs.declared.outgoing.Outgoing.{Outgoing}
use Rattle.stream_model.specs.Sending.{outgoing}
use Rattle.network_model.specs.Packets.{has_last}
use Rattle.network_model.specs.Networks.{Part, is_sourced, outputs, Net}
use Rattle.network_model.specs.Receipts.{Receipt, Popped, WasRead, popped, read_in}
use Rattle.network_model.specs.Owed.{taken_of}
use Rattle.network_model.specs.Events.{NetEvent, Read, Pop, Push, Happens}
use Rattle.network_model.specs.States.{At, State, begin, all_taken, put, happens_with, takes, drops, keeps, cut_off, cuts_from, is_cut_receipt, after_all, pushed_on, popped_from}
use Rattle.network_model.specs.Legal.{wants, Enabled, Legal}
use Rattle.network_model.specs.Draws.{draw, next_draw}
use Rattle.network_model.specs.Picking.{Choice, ReadAt, PopAt, PushAt, choice_of, may_read, may_pop, may_happen, front_for, choices, enabled_choices, event_at, drawn, picked_from}
use Rattle.network_model.proofs.Packets.{empty-nil}
use Rattle.network_model.proofs.Receipts.{read_in-append}
use Rattle.spl_value.proofs.SegmentLaws.{not_true}
use Rattle.network_laws.specs.PickedLaws.{ChosenLaw, PickedLaw, EnabledLaw, EventLaw, NoneLaw, ShortLaw}
use Rattle.network_laws.proofs.RegionSends.{closed-cut}

some-of : {A : Type 0} (o : Option A) → is_some o ≡ true → (x : A) × (o ≡ Some x)
some-of None h = absurd (let f : false ≡ true = h in cc)
some-of (Some x) h = (x, refl)

first-for : (o : ℕ) (outgoings : List Outgoing) (p : Packet) → front_for o outgoings ≡ Some p → (others : List Outgoing) × (outgoings ≡ outgoing o p ∷ others)
first-for o [] p e = absurd (cc)
first-for o (s ∷ outgoings) p e = go (s.output == o) refl e
  where
    go : (b : Bool) → (s.output == o) ≡ b → cond b (Some s.packet) None ≡ Some p → (others : List Outgoing) × (s ∷ outgoings ≡ outgoing o p ∷ others)
    go true q f = let at : s.output ≡ o = eqb-true s.output o q in let packet : s.packet ≡ p = cc in (outgoings, λ i. outgoing (at i) (packet i) ∷ outgoings)
    go false q f = absurd (cc)

-- ---- what may happen is enabled

reads-enabled : (net : Net) (st : State) (e : ℕ) (x : Item) → may_happen net st (ReadAt e) ≡ true → Enabled net st (Read e x)
reads-enabled net st e x h =
    let first = and_parts (nat_lt e net.size) (may_read (net.part e) (st e)) h in
    let second = and_parts (is_empty (st e).outbox) (is_sourced (net.part e) && (not (st e).cut && not (any_closes (read_in (st e).kept)))) first.1 in
    let third = and_parts (is_sourced (net.part e)) (not (st e).cut && not (any_closes (read_in (st e).kept))) second.1 in
    let fourth = and_parts (not (st e).cut) (not (any_closes (read_in (st e).kept))) third.1 in
    record {
      element = ltb-true e net.size first.0;
      idle = empty-nil (st e).outbox second.0;
      sourced = third.0;
      whole = not_true (st e).cut fourth.0;
      is_open = not_true (any_closes (read_in (st e).kept)) fourth.1;
    }

pops-enabled : (net : Net) (st : State) (l : ℕ) (p : Packet) → may_happen net st (PopAt l) ≡ true → slice_get (pushed_on net st l) (length (popped_from net st l)) ≡ Some p → Enabled net st (Pop l p)
pops-enabled net st l p h front =
    let a : At = st (net.link l).to in
    let part : Part = net.part (net.link l).to in
    let i : ℕ = (net.link l).input in
    let first = and_parts (nat_lt l net.links) (may_pop part a i && is_some (slice_get (pushed_on net st l) (length (popped_from net st l)))) h in
    let may = and_parts (may_pop part a i) (is_some (slice_get (pushed_on net st l) (length (popped_from net st l)))) first.1 in
    let second = and_parts (is_empty a.outbox) (not (has_last (popped i (all_taken a))) && (a.cut || wants part (taken_of part a.kept) i)) may.0 in
    let third = and_parts (not (has_last (popped i (all_taken a)))) (a.cut || wants part (taken_of part a.kept) i) second.1 in
    record {
      link = ltb-true l net.links first.0;
      idle = empty-nil a.outbox second.0;
      front = front;
      is_open = not_true (has_last (popped i (all_taken a))) third.0;
      wanted = or_cases a.cut (wants part (taken_of part a.kept) i) third.1;
    }

pushes-enabled : (net : Net) (st : State) (l : ℕ) (p : Packet) → may_happen net st (PushAt l) ≡ true → front_for (net.link l).output (st (net.link l).from).outbox ≡ Some p → Enabled net st (Push l p)
pushes-enabled net st l p h front =
    let held : ℕ = length (pushed_on net st l) in
    let most : ℕ = net.capacity + length (popped_from net st l) in
    let first = and_parts (nat_lt l net.links) (nat_lt held most && is_some (front_for (net.link l).output (st (net.link l).from).outbox)) h in
    let room = and_parts (nat_lt held most) (is_some (front_for (net.link l).output (st (net.link l).from).outbox)) first.1 in
    let f = first-for (net.link l).output (st (net.link l).from).outbox p front in
    record { link = ltb-true l net.links first.0; others = f.0; first = f.1; room = ltb-true held most room.0 }

pop-front : (net : Net) (st : State) (l : ℕ) → may_happen net st (PopAt l) ≡ true → (p : Packet) × (slice_get (pushed_on net st l) (length (popped_from net st l)) ≡ Some p)
pop-front net st l h =
    let first = and_parts (nat_lt l net.links) (may_pop (net.part (net.link l).to) (st (net.link l).to) (net.link l).input && is_some (slice_get (pushed_on net st l) (length (popped_from net st l)))) h in
    some-of (slice_get (pushed_on net st l) (length (popped_from net st l)))
    (and_parts (may_pop (net.part (net.link l).to) (st (net.link l).to) (net.link l).input) (is_some (slice_get (pushed_on net st l) (length (popped_from net st l)))) first.1).1

push-front : (net : Net) (st : State) (l : ℕ) → may_happen net st (PushAt l) ≡ true → (p : Packet) × (front_for (net.link l).output (st (net.link l).from).outbox ≡ Some p)
push-front net st l h =
    let held : ℕ = length (pushed_on net st l) in
    let most : ℕ = net.capacity + length (popped_from net st l) in
    let first = and_parts (nat_lt l net.links) (nat_lt held most && is_some (front_for (net.link l).output (st (net.link l).from).outbox)) h in
    some-of (front_for (net.link l).output (st (net.link l).from).outbox) (and_parts (nat_lt held most) (is_some (front_for (net.link l).output (st (net.link l).from).outbox)) first.1).1

may-enabled : (net : Net) (st : State) (choice : Choice) → may_happen net st choice ≡ true → (event : NetEvent) × (choice_of event ≡ choice) × Enabled net st event
may-enabled net st (ReadAt e) h = (Read e I.Final, refl, reads-enabled net st e I.Final h)
may-enabled net st (PopAt l) h = let f = pop-front net st l h in (Pop l f.0, refl, pops-enabled net st l f.0 h f.1)
may-enabled net st (PushAt l) h = let f = push-front net st l h in (Push l f.0, refl, pushes-enabled net st l f.0 h f.1)

-- ---- and nothing else is

none-true : {A : Type 0} (xs : List A) → xs ≡ [] → is_empty xs ≡ true
none-true xs e = ap is_empty e

false-not : (b : Bool) → b ≡ false → not b ≡ true
false-not b e = ap not e

from-either : (b c : Bool) → (b ≡ true) ⊎ (c ≡ true) → (b || c) ≡ true
from-either b c (inl h) = or_left b c h
from-either b c (inr h) = or_right b c h

owed-first : (net : Net) (st : State) (l : ℕ) (p : Packet) → Enabled net st (Push l p) → front_for (net.link l).output (st (net.link l).from).outbox ≡ Some p
owed-first net st l p en =
    ap (front_for (net.link l).output) en.first
    ∙ cond-true ((net.link l).output == (net.link l).output) (Some p) None (eq-eqb (net.link l).output (net.link l).output refl)

enabled-may : (net : Net) (st : State) (event : NetEvent) → Enabled net st event → may_happen net st (choice_of event) ≡ true
enabled-may net st (Read e x) en =
    and_from (nat_lt e net.size) (may_read (net.part e) (st e)) (lt-ltb e net.size en.element)
    (and_from (is_empty (st e).outbox) (is_sourced (net.part e) && (not (st e).cut && not (any_closes (read_in (st e).kept)))) (none-true (st e).outbox en.idle)
    (and_from (is_sourced (net.part e)) (not (st e).cut && not (any_closes (read_in (st e).kept))) en.sourced
    (and_from (not (st e).cut) (not (any_closes (read_in (st e).kept))) (false-not (st e).cut en.whole) (false-not (any_closes (read_in (st e).kept)) en.is_open))))
enabled-may net st (Pop l p) en =
    let a : At = st (net.link l).to in
    let part : Part = net.part (net.link l).to in
    let i : ℕ = (net.link l).input in
    and_from (nat_lt l net.links) (may_pop part a i && is_some (slice_get (pushed_on net st l) (length (popped_from net st l)))) (lt-ltb l net.links en.link)
    (and_from (may_pop part a i) (is_some (slice_get (pushed_on net st l) (length (popped_from net st l))))
    (and_from (is_empty a.outbox) (not (has_last (popped i (all_taken a))) && (a.cut || wants part (taken_of part a.kept) i)) (none-true a.outbox en.idle)
    (and_from (not (has_last (popped i (all_taken a)))) (a.cut || wants part (taken_of part a.kept) i) (false-not (has_last (popped i (all_taken a))) en.is_open)
    (from-either a.cut (wants part (taken_of part a.kept) i) en.wanted)))
    (ap is_some en.front))
enabled-may net st (Push l p) en =
    let held : ℕ = length (pushed_on net st l) in
    let most : ℕ = net.capacity + length (popped_from net st l) in
    and_from (nat_lt l net.links) (nat_lt held most && is_some (front_for (net.link l).output (st (net.link l).from).outbox)) (lt-ltb l net.links en.link)
    (and_from (nat_lt held most) (is_some (front_for (net.link l).output (st (net.link l).from).outbox)) (lt-ltb held most en.room) (ap is_some (owed-first net st l p en)))

pub event_law : EventLaw
event_law net rows st (Read e x) en next = ap (option_map (Read e)) next
event_law net rows st (Pop l p) en next = ap (option_map (Pop l)) en.front
event_law net rows st (Push l p) en next = ap (option_map (Push l)) (owed-first net st l p en)

-- ---- by number

abbrev Has : {A : Type 0} → List A → A → Type 0
Has {A = A} xs x = (n : ℕ) × (slice_get xs n ≡ Some x)

has-left : {A : Type 0} (xs ys : List A) (x : A) → Has xs x → Has (xs ++ ys) x
has-left [] ys x h = absurd (go h.0 h.1)
  where
    go : (n : ℕ) → slice_get [] n ≡ Some x → ⊥
    go n e = absurd (cc)
has-left (y ∷ xs) ys x h = go h.0 h.1 (has-left xs ys x)
  where
    go : (n : ℕ) → slice_get (y ∷ xs) n ≡ Some x → (Has xs x → Has (xs ++ ys) x) → Has (y ∷ (xs ++ ys)) x
    go zero e rest = (0, e)
    go (suc n) e rest = let r = rest (n, e) in (suc r.0, r.1)

has-right : {A : Type 0} (xs ys : List A) (x : A) → Has ys x → Has (xs ++ ys) x
has-right [] ys x h = h
has-right (y ∷ xs) ys x h = let r = has-right xs ys x h in (suc r.0, r.1)

has-number : (f : ℕ → Choice) (k n e : ℕ) → e < n → Has (map f (numbers_from k n)) (f (k + e))
has-number f k zero e lt = absurd (omega (arith, lt))
has-number f k (suc n) zero lt = (0, ap (λ z. Some (f z)) (let e : k ≡ k + 0 = omega arith in e))
has-number f k (suc n) (suc e) lt =
    let r = has-number f (suc k) n e (omega (arith, lt)) in
    (suc r.0, r.1 ∙ ap (λ z. Some (f z)) (let q : suc k + e ≡ k + suc e = omega arith in q))

has-below : (f : ℕ → Choice) (n e : ℕ) → e < n → Has (map f (numbers_from 0 n)) (f e)
has-below f n e lt = subst (λ z. Has (map f (numbers_from 0 n)) (f z)) (let q : 0 + e ≡ e = omega arith in q) (has-number f 0 n e lt)

has-choice : (net : Net) (st : State) (event : NetEvent) → Enabled net st event → Has (choices net) (choice_of event)
has-choice net st (Read e x) en =
    has-left (map ReadAt (numbers_from 0 net.size)) (map PopAt (numbers_from 0 net.links) ++ map PushAt (numbers_from 0 net.links)) (ReadAt e) (has-below ReadAt net.size e en.element)
has-choice net st (Pop l p) en =
    has-right (map ReadAt (numbers_from 0 net.size)) (map PopAt (numbers_from 0 net.links) ++ map PushAt (numbers_from 0 net.links)) (PopAt l)
    (has-left (map PopAt (numbers_from 0 net.links)) (map PushAt (numbers_from 0 net.links)) (PopAt l) (has-below PopAt net.links l en.link))
has-choice net st (Push l p) en =
    has-right (map ReadAt (numbers_from 0 net.size)) (map PopAt (numbers_from 0 net.links) ++ map PushAt (numbers_from 0 net.links)) (PushAt l)
    (has-right (map PopAt (numbers_from 0 net.links)) (map PushAt (numbers_from 0 net.links)) (PushAt l) (has-below PushAt net.links l en.link))

has-filter : (test : Choice → Bool) (xs : List Choice) (n : ℕ) (x : Choice) → slice_get xs n ≡ Some x → test x ≡ true → Has (filter test xs) x
has-filter test [] n x e h = absurd (cc)
has-filter test (y ∷ xs) n x e h = go n (test y) refl e (has-filter test xs)
  where
    go : (n : ℕ) (b : Bool) → test y ≡ b → slice_get (y ∷ xs) n ≡ Some x → ((n : ℕ) (x : Choice) → slice_get xs n ≡ Some x → test x ≡ true → Has (filter test xs) x)
        → Has (cond b (y ∷ filter test xs) (filter test xs)) x
    go zero true q f rest = (0, f)
    go zero false q f rest = let same : y ≡ x = cc in let clash : true ≡ false = sym h ∙ ap test (sym same) ∙ q in absurd (cc)
    go (suc n) true q f rest = let r = rest n x f h in (suc r.0, r.1)
    go (suc n) false q f rest = rest n x f h

filter-passes : (test : Choice → Bool) (xs : List Choice) (n : ℕ) (x : Choice) → slice_get (filter test xs) n ≡ Some x → test x ≡ true
filter-passes test [] n x e = absurd (cc)
filter-passes test (y ∷ xs) n x e = go n (test y) refl e (filter-passes test xs)
  where
    go : (n : ℕ) (b : Bool) → test y ≡ b → slice_get (cond b (y ∷ filter test xs) (filter test xs)) n ≡ Some x → ((n : ℕ) (x : Choice) → slice_get (filter test xs) n ≡ Some x → test x ≡ true)
        → test x ≡ true
    go zero true q f rest = let same : y ≡ x = cc in ap test (sym same) ∙ q
    go (suc n) true q f rest = rest n x f
    go n false q f rest = rest n x f

pub enabled_law : EnabledLaw
enabled_law net st event en =
    let h = has-choice net st event en in
    has-filter (may_happen net st) (choices net) h.0 (choice_of event) h.1 (enabled-may net st event en)

pub chosen_law : ChosenLaw
chosen_law net st n choice e = may-enabled net st choice (filter-passes (may_happen net st) (choices net) n choice e)

pub none_law : NoneLaw
none_law net st event is en =
    let r = enabled_law net st event en in
    let there : slice_get {X = Choice} [] r.0 ≡ Some (choice_of event) = ap (λ cs. slice_get cs r.0) (sym is) ∙ r.1 in
    absurd (cc)

-- ---- what is picked

mapped : {A : Type 0} (f : A → NetEvent) (o : Option A) (event : NetEvent) → option_map f o ≡ Some event → (x : A) × (o ≡ Some x) × (f x ≡ event)
mapped f None event e = absurd (cc)
mapped f (Some x) event e = (x, refl, cc)

event-enabled : (net : Net) (rows : Lists) (st : State) (choice : Choice) (event : NetEvent) → may_happen net st choice ≡ true → event_at net rows st choice ≡ Some event → Enabled net st event
event-enabled net rows st (ReadAt e) event h at =
    let x = mapped (Read e) (slice_get (rows e) (length (read_in (st e).kept))) event at in subst (Enabled net st) x.2 (reads-enabled net st e x.0 h)
event-enabled net rows st (PopAt l) event h at =
    let x = mapped (Pop l) (slice_get (pushed_on net st l) (length (popped_from net st l))) event at in subst (Enabled net st) x.2 (pops-enabled net st l x.0 h x.1)
event-enabled net rows st (PushAt l) event h at =
    let x = mapped (Push l) (front_for (net.link l).output (st (net.link l).from).outbox) event at in subst (Enabled net st) x.2 (pushes-enabled net st l x.0 h x.1)

found : {A B : Type 0} (f : A → Option B) (o : Option A) (y : B) → option_and_then f o ≡ Some y → (x : A) × (o ≡ Some x) × (f x ≡ Some y)
found f None y e = absurd (cc)
found f (Some x) y e = (x, refl, e)

drawn-enabled : (net : Net) (rows : Lists) (st : State) (x : ℕ) (event : NetEvent) → drawn net rows st x ≡ Some event → Enabled net st event
drawn-enabled net rows st x event e =
    let c = found (event_at net rows st) (slice_get (enabled_choices net st) (draw x % length (enabled_choices net st))) event e in
    event-enabled net rows st c.0 event (filter-passes (may_happen net st) (choices net) (draw x % length (enabled_choices net st)) c.0 c.1) c.2

picked-legal : (net : Net) (rows : Lists) (n : ℕ) (st : State) (x : ℕ) → Legal net st (map Happens (picked_from net rows st x n))
picked-legal net rows zero st x = tt
picked-legal net rows (suc n) st x = go (drawn net rows st x) refl (λ event. picked-legal net rows n (happens_with takes net st event) (next_draw x))
  where
    go : (o : Option NetEvent) → drawn net rows st x ≡ o
        → ((event : NetEvent) → Legal net (happens_with takes net st event) (map Happens (picked_from net rows (happens_with takes net st event) (next_draw x) n)))
        → Legal net st (map Happens (option_map_or (λ event. event ∷ picked_from net rows (happens_with takes net st event) (next_draw x) n) o []))
    go None e rest = tt
    go (Some event) e rest = (drawn-enabled net rows st x event e, rest event)

pub picked_law : PickedLaw
picked_law net rows x n = picked-legal net rows n begin x

-- ---- how many are picked

-- what was read begins the rows
abbrev ReadsRows : Lists → State → Type 0
ReadsRows rows st = (e : ℕ) → IsPrefix (read_in (st e).kept) (rows e)

kept-takes : (part : Part) (a : At) (r : Receipt) (P : List Receipt → Type 0) → P a.kept → P (a.kept ++ r ∷ []) → P (takes part a r).kept
kept-takes part a r P same more = go a.cut (is_cut_receipt r) a.cut
  where
    go : (b c d : Bool)
        → P (cond b (drops a r) (cond c (cond d (drops a r) (record { kept = a.kept; dropped = a.dropped ++ r ∷ []; pushed = a.pushed; outbox = cuts_from 0 (outputs part) a.pushed; cut = true })) (keeps part a r))).kept
    go true c d = same
    go false true true = same
    go false true false = same
    go false false d = more

put-reads : (rows : Lists) (st : State) (e : ℕ) (a : At) → ReadsRows rows st → IsPrefix (read_in a.kept) (rows e) → ReadsRows rows (put st e a)
put-reads rows st e a reads h k = go (k == e) refl
  where
    go : (b : Bool) → (k == e) ≡ b → IsPrefix (read_in (cond b a (st k)).kept) (rows k)
    go true q = subst (λ z. IsPrefix (read_in a.kept) (rows z)) (sym (eqb-true k e q)) h
    go false q = reads k

next-front : (xs all : List Item) (x : Item) → IsPrefix xs all → slice_get all (length xs) ≡ Some x → IsPrefix (xs ++ x ∷ []) all
next-front [] [] x p e = absurd (cc)
next-front [] (y ∷ all) x p e = let same : y ≡ x = cc in (all, ap (λ z. z ∷ all) (sym same))
next-front (y ∷ xs) all x p e =
    let r = next-front xs (xs ++ p.0) x (p.0, refl) (ap (λ z. slice_get z (suc (length xs))) p.1 ∙ e) in
    (r.0, ap (λ z. y ∷ z) r.1 ∙ p.1)

reads-more : (rows : Lists) (st : State) (e : ℕ) (part : Part) (r : Receipt) → ReadsRows rows st → IsPrefix (read_in ((st e).kept ++ r ∷ [])) (rows e) → IsPrefix (read_in (takes part (st e) r).kept) (rows e)
reads-more rows st e part r reads more = kept-takes part (st e) r (λ T. IsPrefix (read_in T) (rows e)) (reads e) more

reads-event : (net : Net) (rows : Lists) (st : State) (choice : Choice) (event : NetEvent) → ReadsRows rows st → event_at net rows st choice ≡ Some event → ReadsRows rows (happens_with takes net st event)
reads-event net rows st (ReadAt e) event reads at =
    let x = mapped (Read e) (slice_get (rows e) (length (read_in (st e).kept))) event at in
    let grown = next-front (read_in (st e).kept) (rows e) x.0 (reads e) x.1 in
    subst (λ z. ReadsRows rows (happens_with takes net st z)) x.2
    (put-reads rows st e (takes (net.part e) (st e) (WasRead x.0)) reads
    (reads-more rows st e (net.part e) (WasRead x.0) reads (grown.0, ap (λ z. z ++ grown.0) (read_in-append (st e).kept (WasRead x.0 ∷ [])) ∙ grown.1)))
reads-event net rows st (PopAt l) event reads at =
    let x = mapped (Pop l) (slice_get (pushed_on net st l) (length (popped_from net st l))) event at in
    let to : ℕ = (net.link l).to in
    let r : Receipt = Popped (net.link l).input x.0 in
    let same : read_in ((st to).kept ++ r ∷ []) ≡ read_in (st to).kept = read_in-append (st to).kept (r ∷ []) ∙ append-nil (read_in (st to).kept) in
    subst (λ z. ReadsRows rows (happens_with takes net st z)) x.2
    (put-reads rows st to (takes (net.part to) (st to) r) reads
    (reads-more rows st to (net.part to) r reads ((reads to).0, ap (λ z. z ++ (reads to).0) same ∙ (reads to).1)))
reads-event net rows st (PushAt l) event reads at =
    let x = mapped (Push l) (front_for (net.link l).output (st (net.link l).from).outbox) event at in
    subst (λ z. ReadsRows rows (happens_with takes net st z)) x.2
    (put-reads rows st (net.link l).from (Rattle.network_model.specs.States.puts (st (net.link l).from) (outgoing (net.link l).output x.0)) reads (reads (net.link l).from))

-- where the source isn't at its end the rows have a next item
next-row : (xs all : List Item) → IsPrefix xs all → any_closes xs ≡ false → is_closed all ≡ true → (x : Item) × (slice_get all (length xs) ≡ Some x)
next-row xs all p unended closed = go p.0 p.1
  where
    behind : (xs : List Item) (x : Item) (more : List Item) → slice_get (xs ++ x ∷ more) (length xs) ≡ Some x
    behind [] x more = refl
    behind (y ∷ xs) x more = behind xs x more

    go : (rest : List Item) → xs ++ rest ≡ all → (x : Item) × (slice_get all (length xs) ≡ Some x)
    go [] e =
        let same : xs ≡ all = sym (append-nil xs) ∙ e in
        let clash : false ≡ true = sym unended ∙ (closed-cut xs (ap is_closed same ∙ closed)).1 in
        absurd (cc)
    go (x ∷ more) e = (x, ap (λ z. slice_get z (length xs)) (sym e) ∙ behind xs x more)

choice-event : (net : Net) (rows : Lists) (st : State) (choice : Choice) → ReadsRows rows st → ((e : ℕ) → e < net.size → is_sourced (net.part e) ≡ true → is_closed (rows e) ≡ true)
    → may_happen net st choice ≡ true → (event : NetEvent) × (event_at net rows st choice ≡ Some event)
choice-event net rows st (ReadAt e) reads closed h =
    let en = reads-enabled net st e I.Final h in
    let x = next-row (read_in (st e).kept) (rows e) (reads e) en.is_open (closed e en.element en.sourced) in
    (Read e x.0, ap (option_map (Read e)) x.1)
choice-event net rows st (PopAt l) reads closed h = let f = pop-front net st l h in (Pop l f.0, ap (option_map (Pop l)) f.1)
choice-event net rows st (PushAt l) reads closed h = let f = push-front net st l h in (Push l f.0, ap (option_map (Push l)) f.1)

there-below : (cs : List Choice) (n : ℕ) → n < length cs → (c : Choice) × (slice_get cs n ≡ Some c)
there-below [] n lt = absurd (omega (arith, lt))
there-below (c ∷ cs) zero lt = (c, refl)
there-below (c ∷ cs) (suc n) lt = there-below cs n (omega (arith, lt))

-- what holds of each event that is picked first, of those behind it
abbrev Behind : Net → Lists → State → ℕ → ℕ → Type 0
Behind net rows st x n = (event : NetEvent) → ReadsRows rows (happens_with takes net st event)
    → length (picked_from net rows (happens_with takes net st event) (next_draw x) n) < n
    → enabled_choices net (after_all net (happens_with takes net st event) (map Happens (picked_from net rows (happens_with takes net st event) (next_draw x) n))) ≡ []

short-from : (net : Net) (rows : Lists) → ((e : ℕ) → e < net.size → is_sourced (net.part e) ≡ true → is_closed (rows e) ≡ true)
    → (n : ℕ) (st : State) (x : ℕ) → ReadsRows rows st → length (picked_from net rows st x n) < n
    → enabled_choices net (after_all net st (map Happens (picked_from net rows st x n))) ≡ []
short-from net rows closed zero st x reads lt = absurd (omega (arith, lt))
short-from net rows closed (suc n) st x reads lt =
    some (enabled_choices net st) refl (λ event. short-from net rows closed n (happens_with takes net st event) (next_draw x))
  where
    step : (o : Option NetEvent) → drawn net rows st x ≡ o → length (option_map_or (λ event. event ∷ picked_from net rows (happens_with takes net st event) (next_draw x) n) o []) < suc n
        → (o ≡ None → enabled_choices net st ≡ []) → Behind net rows st x n
        → enabled_choices net (after_all net st (map Happens (option_map_or (λ event. event ∷ picked_from net rows (happens_with takes net st event) (next_draw x) n) o []))) ≡ []
    step None e lt empty rest = empty refl
    step (Some event) e lt empty rest =
        let c = found (event_at net rows st) (slice_get (enabled_choices net st) (draw x % length (enabled_choices net st))) event e in
        rest event (reads-event net rows st c.0 event reads c.2) (omega (arith, lt))

    some : (cs : List Choice) → enabled_choices net st ≡ cs → Behind net rows st x n → enabled_choices net (after_all net st (map Happens (picked_from net rows st x (suc n)))) ≡ []
    some [] is rest = step (drawn net rows st x) refl lt (λ e. is) rest
    some (c ∷ cs) is rest =
        let within : draw x % length (enabled_choices net st) < length (enabled_choices net st) =
        mod_below (draw x) (length (enabled_choices net st)) (subst (λ z. 0 < length z) (sym is) (omega arith)) in
        let at = there-below (enabled_choices net st) (draw x % length (enabled_choices net st)) within in
        let event = choice-event net rows st at.0 reads closed (filter-passes (may_happen net st) (choices net) (draw x % length (enabled_choices net st)) at.0 at.1) in
        let is_drawn : drawn net rows st x ≡ Some event.0 = ap (option_and_then (event_at net rows st)) at.1 ∙ event.1 in
        step (drawn net rows st x) refl lt (λ e. let clash : None ≡ Some event.0 = sym e ∙ is_drawn in absurd (cc)) rest

pub short_law : ShortLaw
short_law net rows x n closed lt = short-from net rows closed n begin x (λ e. (rows e, refl)) lt
