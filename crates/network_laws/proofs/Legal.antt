-- What every legal list of events keeps.
use Rattle.std.proofs.Common.{ℕ, ◌<◌, ◌==◌, Bool, true, false, cond, List, [], ◌∷◌, ◌++◌, ◌≡◌, ◌≢◌, ◌⊎◌, inl, inr, refl, sym, ap, ◌∙◌, append_assoc, append-nil, arith, length, subst, Some}
use Rattle.std.specs.Prelude.{slice_get}
use Rattle.std.proofs.lemmas.Bool.{cond-true, cond-false, eqb-true, eq-eqb, ne_eqb, cases_eq}
use Rattle.spl_value.specs.declared.item.Item.{Item}
use Rattle.spl_value.specs.declared.packet.Packet.{Packet}
use Rattle.stream_model.specs.Stream.{any_closes}
use Rattle.spl_value.specs.Numbered.{closes}
use Rattle.stream_model.specs.declared.outgoing.Outgoing.{Outgoing}
use Rattle.stream_model.specs.Sending.{outgoing, on_output}
use Rattle.network_model.specs.Packets.{is_stream}
use Rattle.network_model.specs.Networks.{Part, outputs, Link, Net}
use Rattle.network_model.specs.Receipts.{Receipt, Popped, WasRead, popped, read_in}
use Rattle.network_model.specs.Events.{Read, Pop, Push, Occurrence, Happens, Lacks, Cuts}
use Rattle.network_model.specs.States.{At, all_taken, cuts_from, cut_off, drops, keeps, is_cut_receipt, takes, lacks, puts, State, begin, put, after, after_all}
use Rattle.network_model.specs.Legal.{MayPop, MayPush, May, Legal}
use Rattle.network_laws.specs.Shaped.{IsNet}
use Rattle.stream_model.proofs.Outputs.{on_output-append}
use Rattle.network_model.proofs.Packets.{is_stream-append}
use Rattle.network_model.proofs.Receipts.{popped-append, read_in-append}
use Rattle.network_laws.proofs.Keeping.{KeepsElement, IsFair, keep-new, keep-puts, keep-takes, keep-lacks, keep-cut_off}

-- ---- states of elements

-- what holds of each element still holds after one is put
pub put-all : (P : ℕ → At → Type 0) (st : State) (f : ℕ) (a : At) → P f a → ((e : ℕ) → P e (st e)) → (e : ℕ) → P e (put st f a e)
put-all P st f a h k e = go (e == f) refl
  where
    go : (b : Bool) → (e == f) ≡ b → P e (cond b a (st e))
    go true q = subst (λ z. P z a) (sym (eqb-true e f q)) h
    go false q = k e

put-hit : (st : State) (f e : ℕ) (a : At) → (e == f) ≡ true → put st f a e ≡ a
put-hit st f e a h = cond-true (e == f) a (st e) h

put-miss : (st : State) (f e : ℕ) (a : At) → (e == f) ≡ false → put st f a e ≡ st e
put-miss st f e a h = cond-false (e == f) a (st e) h

-- what was popped from a link is a front of what was pushed on it
pub record LinkKeeps (k : Link) (st : State) : Type 0 where
  pub waiting : List Packet
  pub are : on_output k.output (st k.from).pushed ≡ popped k.input (all_taken (st k.to)) ++ waiting

pub record NetKeeps (net : Net) (st : State) : Type 0 where
  pub elements : (e : ℕ) → e < net.size → KeepsElement (net.part e) (st e)
  pub links : (l : ℕ) → l < net.links → LinkKeeps (net.link l) st

-- ---- what becomes of the lists of an element

cut_off-same : (part : Part) (a : At) → (all_taken (cut_off part a) ≡ all_taken a) × ((cut_off part a).pushed ≡ a.pushed)
cut_off-same part a = go a.cut
  where
    go : (b : Bool) → (all_taken (cond {A = At} b a (record { kept = a.kept; dropped = a.dropped; pushed = a.pushed; outbox = cuts_from 0 (outputs part) a.pushed; cut = true })) ≡ all_taken a)
        × ((cond {A = At} b a (record { kept = a.kept; dropped = a.dropped; pushed = a.pushed; outbox = cuts_from 0 (outputs part) a.pushed; cut = true })).pushed ≡ a.pushed)
    go true = (refl, refl)
    go false = (refl, refl)

drops-all : (a : At) (taken : Receipt) → all_taken (drops a taken) ≡ all_taken a ++ taken ∷ []
drops-all a taken = sym (append_assoc a.kept a.dropped (taken ∷ []))

-- what it took grows by what it takes, and what it pushed stays
abbrev Takes : At → Receipt → At → Type 0
Takes a taken b = (all_taken b ≡ all_taken a ++ taken ∷ []) × (b.pushed ≡ a.pushed)

lacks-lists : (part : Part) (a : At) (taken : Receipt) → Takes a taken (lacks part a taken)
lacks-lists part a taken = let c = cut_off-same part (drops a taken) in (c.0 ∙ drops-all a taken, c.1)

takes-lists : (part : Part) (a : At) (taken : Receipt) → KeepsElement part a → Takes a taken (takes part a taken)
takes-lists part a taken k = go a.cut (is_cut_receipt taken) refl
  where
    kept : a.cut ≡ false → all_taken (keeps part a taken) ≡ all_taken a ++ taken ∷ []
    kept c =
        let none : a.dropped ≡ [] = k.range.none_dropped c in
        ap (λ z. (a.kept ++ taken ∷ []) ++ z) none ∙ append-nil (a.kept ++ taken ∷ [])
        ∙ ap (λ z. z ++ taken ∷ []) (sym (append-nil a.kept)) ∙ ap (λ z. (a.kept ++ z) ++ taken ∷ []) (sym none)

    go : (b d : Bool) → a.cut ≡ b → Takes a taken (cond b (drops a taken) (cond d (cut_off part (drops a taken)) (keeps part a taken)))
    go true d c = (drops-all a taken, refl)
    go false true c = lacks-lists part a taken
    go false false c = (kept c, refl)

-- ---- links

-- an element where at most more was pushed
abbrev Pushes : State → ℕ → At → Type 0
Pushes st e a = (more : List Outgoing) × (a.pushed ≡ (st e).pushed ++ more) × (all_taken a ≡ all_taken (st e))

carries-pushes : (k : Link) (st other : State) → ((e : ℕ) → Pushes st e (other e)) → LinkKeeps k st → LinkKeeps k other
carries-pushes k st other h c = record {
  waiting = c.waiting ++ on_output k.output (h k.from).0;
  are = ap (on_output k.output) (h k.from).1
      ∙ on_output-append k.output (st k.from).pushed (h k.from).0
      ∙ ap (λ z. z ++ on_output k.output (h k.from).0) c.are
      ∙ append_assoc (popped k.input (all_taken (st k.to))) c.waiting (on_output k.output (h k.from).0)
      ∙ ap (λ z. popped k.input z ++ (c.waiting ++ on_output k.output (h k.from).0)) (sym (h k.to).2);
}

-- the next of those that wait
next_waits : (xs w : List Packet) (p : Packet) → slice_get (xs ++ w) (length xs) ≡ Some p → (v : List Packet) × (w ≡ p ∷ v)
next_waits [] [] p h = absurd (cc)
next_waits [] (q ∷ w) p h = (w, let e : q ≡ p = cc in ap (λ z. z ∷ w) e)
next_waits (x ∷ xs) w p h = next_waits xs w p h

popped-hit : (i j : ℕ) (T : List Receipt) (p : Packet) → (i == j) ≡ true → popped j (T ++ Popped i p ∷ []) ≡ popped j T ++ p ∷ []
popped-hit i j T p e = popped-append j T (Popped i p ∷ []) ∙ ap (λ z. popped j T ++ z) (cond-true (i == j) (p ∷ []) [] e)

popped-miss : (i j : ℕ) (T : List Receipt) (p : Packet) → (i == j) ≡ false → popped j (T ++ Popped i p ∷ []) ≡ popped j T
popped-miss i j T p e = popped-append j T (Popped i p ∷ []) ∙ ap (λ z. popped j T ++ z) (cond-false (i == j) (p ∷ []) [] e) ∙ append-nil (popped j T)

-- the link from which a packet was popped
carries-front : (k : Link) (st : State) (a : At) (p : Packet) → Takes (st k.to) (Popped k.input p) a
    → slice_get (on_output k.output (st k.from).pushed) (length (popped k.input (all_taken (st k.to)))) ≡ Some p
    → LinkKeeps k st → LinkKeeps k (put st k.to a)
carries-front k st a p t g c =
    let w = next_waits (popped k.input (all_taken (st k.to))) c.waiting p (ap (λ z. slice_get z (length (popped k.input (all_taken (st k.to))))) (sym c.are) ∙ g) in
    record {
      waiting = w.0;
      are = ap (on_output k.output) (put-all (λ e b. b.pushed ≡ (st e).pushed) st k.to a t.1 (λ e. refl) k.from)
          ∙ c.are ∙ ap (λ z. popped k.input (all_taken (st k.to)) ++ z) w.1
          ∙ sym (append_assoc (popped k.input (all_taken (st k.to))) (p ∷ []) w.0)
          ∙ ap (λ z. z ++ w.0) (sym (ap (λ z. popped k.input (all_taken z)) (put-hit st k.to k.to a (eq-eqb k.to k.to refl)) ∙ ap (popped k.input) t.0
          ∙ popped-hit k.input k.input (all_taken (st k.to)) p (eq-eqb k.input k.input refl)));
    }

-- a link whose taker's list at its input stays
carries-beside : (m : Link) (st : State) (f : ℕ) (a : At) → a.pushed ≡ (st f).pushed → (m.to ≡ f → popped m.input (all_taken a) ≡ popped m.input (all_taken (st f)))
    → LinkKeeps m st → LinkKeeps m (put st f a)
carries-beside m st f a pushed stays c = record {
  waiting = c.waiting;
  are = ap (on_output m.output) (put-all (λ e b. b.pushed ≡ (st e).pushed) st f a pushed (λ e. refl) m.from) ∙ c.are ∙ ap (λ z. z ++ c.waiting) (sym (same (cases_eq m.to f)));
}
  where
    same : (m.to ≡ f) ⊎ (m.to ≢ f) → popped m.input (all_taken (put st f a m.to)) ≡ popped m.input (all_taken (st m.to))
    same (inl e) = ap (λ z. popped m.input (all_taken z)) (put-hit st f m.to a (eq-eqb m.to f e)) ∙ stays e ∙ ap (λ z. popped m.input (all_taken (st z))) (sym e)
    same (inr n) = ap (λ z. popped m.input (all_taken z)) (put-miss st f m.to a (ne_eqb m.to f n))

-- ---- events

fair-pop : (net : Net) (st : State) (l : ℕ) (p : Packet) → IsNet net → l < net.links → KeepsElement (net.part (net.link l).to) (st (net.link l).to)
    → IsFair (net.part (net.link l).to) (st (net.link l).to) (Popped (net.link l).input p)
fair-pop net st l p is lt k = record {
  in_range = λ i le. cond-false ((net.link l).input == i) (p ∷ []) [] (ne_eqb (net.link l).input i (λ (e : (net.link l).input ≡ i). let w = is.input l lt in omega (arith, e, w, le)));
  streams = ap is_stream (read_in-append (all_taken (st (net.link l).to)) (Popped (net.link l).input p ∷ []) ∙ append-nil (read_in (all_taken (st (net.link l).to)))) ∙ k.streams;
}

one-stream : (x : Item) → is_stream (x ∷ []) ≡ true
one-stream x = go (closes x)
  where
    go : (b : Bool) → cond b true true ≡ true
    go true = refl
    go false = refl

fair-read : (part : Part) (a : At) (x : Item) → a.cut ≡ false → any_closes (read_in a.kept) ≡ false → KeepsElement part a → IsFair part a (WasRead x)
fair-read part a x c open_list k = record {
  in_range = λ i le. refl;
  streams = ap (λ T. is_stream (read_in (T ++ WasRead x ∷ []))) (ap (λ z. a.kept ++ z) (k.range.none_dropped c) ∙ append-nil a.kept)
      ∙ ap is_stream (read_in-append a.kept (WasRead x ∷ [])) ∙ is_stream-append (read_in a.kept) (x ∷ []) open_list ∙ one-stream x;
}

elements-put : (net : Net) (st : State) (f : ℕ) (a : At) → (f < net.size → KeepsElement (net.part f) a) → ((e : ℕ) → e < net.size → KeepsElement (net.part e) (st e))
    → (e : ℕ) → e < net.size → KeepsElement (net.part e) (put st f a e)
elements-put net st f a h k = put-all (λ e b. e < net.size → KeepsElement (net.part e) b) st f a h k

-- a packet was popped
keep-pop : (net : Net) (st : State) (l : ℕ) (p : Packet) (a : At) → IsNet net → MayPop net st l p → KeepsElement (net.part (net.link l).to) a
    → Takes (st (net.link l).to) (Popped (net.link l).input p) a → NetKeeps net st → NetKeeps net (put st (net.link l).to a)
keep-pop net st l p a is may here t k = record {
  elements = elements-put net st (net.link l).to a (λ lt. here) k.elements;
  links = λ m lt. go m lt (cases_eq l m);
}
  where
    go : (m : ℕ) → m < net.links → (l ≡ m) ⊎ (l ≢ m) → LinkKeeps (net.link m) (put st (net.link l).to a)
    go m lt (inl e) = subst (λ z. LinkKeeps (net.link z) (put st (net.link l).to a)) e (carries-front (net.link l) st a p t may.front (k.links l may.link))
    go m lt (inr n) = carries-beside (net.link m) st (net.link l).to a t.1
        (λ to. ap (popped (net.link m).input) t.0 ∙ popped-miss (net.link l).input (net.link m).input (all_taken (st (net.link l).to)) p
        (ne_eqb (net.link l).input (net.link m).input (λ e. n (is.one l m may.link lt (sym to) e)))) (k.links m lt)

-- an item was read
keep-read : (net : Net) (st : State) (e : ℕ) (x : Item) (a : At) → KeepsElement (net.part e) a → Takes (st e) (WasRead x) a → NetKeeps net st → NetKeeps net (put st e a)
keep-read net st e x a here t k = record {
  elements = elements-put net st e a (λ lt. here) k.elements;
  links = λ m lt. carries-beside (net.link m) st e a t.1
      (λ to. ap (popped (net.link m).input) t.0 ∙ popped-append (net.link m).input (all_taken (st e)) (WasRead x ∷ []) ∙ append-nil (popped (net.link m).input (all_taken (st e)))) (k.links m lt);
}

keep-push : (net : Net) (st : State) (l : ℕ) (p : Packet) → IsNet net → MayPush net st l p → NetKeeps net st → NetKeeps net (put st (net.link l).from (puts (st (net.link l).from) (outgoing (net.link l).output p)))
keep-push net st l p is may k =
    let f : ℕ = (net.link l).from in
    let a : At = puts (st (net.link l).from) (outgoing (net.link l).output p) in
    record {
      elements = elements-put net st (net.link l).from a
          (λ lt. keep-puts (net.part (net.link l).from) (st (net.link l).from) (outgoing (net.link l).output p) may.others may.first (k.elements (net.link l).from lt)) k.elements;
      links = λ m lt. carries-pushes (net.link m) st (put st (net.link l).from a)
          (put-all (λ e b. Pushes st e b) st (net.link l).from a (outgoing (net.link l).output p ∷ [], refl, refl) (λ e. ([], sym (append-nil (st e).pushed), refl))) (k.links m lt);
    }

keep-cut : (net : Net) (st : State) (e : ℕ) → NetKeeps net st → NetKeeps net (put st e (cut_off (net.part e) (st e)))
keep-cut net st e k =
    let same = cut_off-same (net.part e) (st e) in
    record {
      elements = elements-put net st e (cut_off (net.part e) (st e)) (λ lt. keep-cut_off (net.part e) (st e) (k.elements e lt)) k.elements;
      links = λ m lt. carries-beside (net.link m) st e (cut_off (net.part e) (st e)) same.1 (λ to. ap (popped (net.link m).input) same.0) (k.links m lt);
    }

pub keep-begin : (net : Net) → IsNet net → NetKeeps net begin
keep-begin net is = record {
  elements = λ e lt. keep-new (net.part e);
  links = λ l lt. record { waiting = []; are = refl };
}

pub keep-after : (net : Net) (st : State) (h : Occurrence) → IsNet net → May net st h → NetKeeps net st → NetKeeps net (after net st h)
keep-after net st (Happens (Read e x)) is may k =
    let here : KeepsElement (net.part e) (st e) = k.elements e may.element in
    keep-read net st e x (takes (net.part e) (st e) (WasRead x))
    (keep-takes (net.part e) (st e) (WasRead x) (fair-read (net.part e) (st e) x may.whole may.is_open here) here)
    (takes-lists (net.part e) (st e) (WasRead x) here) k
keep-after net st (Happens (Pop l p)) is may k =
    let e : ℕ = (net.link l).to in
    let taken : Receipt = Popped (net.link l).input p in
    let here : KeepsElement (net.part (net.link l).to) (st (net.link l).to) = k.elements (net.link l).to (is.within l may.link) in
    keep-pop net st l p (takes (net.part e) (st e) taken) is may
    (keep-takes (net.part e) (st e) taken (fair-pop net st l p is may.link here) here)
    (takes-lists (net.part e) (st e) taken here) k
keep-after net st (Happens (Push l p)) is may k = keep-push net st l p is may k
keep-after net st (Lacks (Read e x)) is may k =
    let here : KeepsElement (net.part e) (st e) = k.elements e may.0.element in
    keep-read net st e x (lacks (net.part e) (st e) (WasRead x))
    (keep-lacks (net.part e) (st e) (WasRead x) (fair-read (net.part e) (st e) x may.0.whole may.0.is_open here) here)
    (lacks-lists (net.part e) (st e) (WasRead x)) k
keep-after net st (Lacks (Pop l p)) is may k =
    let e : ℕ = (net.link l).to in
    let taken : Receipt = Popped (net.link l).input p in
    let here : KeepsElement (net.part (net.link l).to) (st (net.link l).to) = k.elements (net.link l).to (is.within l may.0.link) in
    keep-pop net st l p (lacks (net.part e) (st e) taken) is may.0
    (keep-lacks (net.part e) (st e) taken (fair-pop net st l p is may.0.link here) here)
    (lacks-lists (net.part e) (st e) taken) k
keep-after net st (Lacks (Push l p)) is may k = absurd may.1
keep-after net st (Cuts e) is may k = keep-cut net st e k

pub keep-all : (net : Net) (st : State) (list : List Occurrence) → IsNet net → Legal net st list → NetKeeps net st → NetKeeps net (after_all net st list)
keep-all net st [] is legal k = k
keep-all net st (h ∷ list) is legal k = keep-all net (after net st h) list is legal.1 (keep-after net st h is legal.0 k)
