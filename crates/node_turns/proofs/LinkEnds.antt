-- The ends of links of a node as one of them takes or sends a packet.
use Rattle.std.proofs.Common.{ℕ, zero, suc, ◌==◌, ◌<◌, ◌≤◌, ◌^◌, ◌≡◌, ◌≢◌, List, [], ◌∷◌, ◌++◌, length, get_or, set}
use Rattle.std.proofs.Common.{refl, sym, ap, ◌∙◌, subst, ⊎_elim, append-nil, arith}
use Rattle.std.proofs.lemmas.Bool.{cond-true, cond-false, eq-eqb, ne_eqb}
use Rattle.std.proofs.lemmas.Bool.Decides.{eqb_tells}
use Rattle.std.proofs.lemmas.List.{get_or-set_same, get_or-set_other, length-set}
use Rattle.spl_value.specs.declared.packet.Packet.{Packet}
use Rattle.stream_model.specs.Sending.{on_output, outgoing}
use Rattle.stream_model.proofs.Outputs.{on_output-append}
use Rattle.network_model.specs.Receipts.{Popped, popped}
use Rattle.network_model.specs.States.{At, all_taken}
use Rattle.network_model.proofs.Receipts.{popped-append}
use Rattle.ordered_link.specs.declared.ends.Link.{Link}
use Rattle.crossbeam_queue.specs.Fifo.{Held}
use Rattle.ordered_link.specs.Ends.{IsSenderOf, IsTakerOf, capacity_of, sent, taken, wear_of}
use Rattle.ordered_link.specs.Rule.{IsSentUpTo}
use Rattle.node_turns.specs.declared.ends.Inlet.{Inlet}
use Rattle.node_turns.specs.declared.ends.Outlet.{Outlet}
use Rattle.node_turns.specs.Placed.{InsPlaced, IsSender, IsTaker, OutsPlaced, SentIs, TakenIs}

-- what holds of the element that is put at a place, and of the others at theirs
at_places : {A : Type 0} (P : ℕ → A → Type 0) (xs : List A) (k : ℕ) (x : A) → k < length xs → P k x
    → ((i : ℕ) (d : A) → i < length xs → i ≢ k → P i (get_or xs i d))
    → (i : ℕ) (d : A) → i < length (set xs k x) → P i (get_or (set xs k x) i d)
at_places P xs k x low here others i d below = ⊎_elim
    (λ e. subst (λ j. P j (get_or (set xs k x) j d)) (sym e.1) (subst (P k) (sym (get_or-set_same xs k x d low)) here))
    (λ n. subst (P i) (sym (get_or-set_other xs k i x d n.1)) (others i d (omega (arith, length-set xs k x)) n.1))
    (eqb_tells i k)

-- ---- taking

pub ins_placed : (links : List Link) (ins : List Inlet) (k : ℕ) (x : Inlet) → k < length ins → IsTaker links x
    → InsPlaced links ins → InsPlaced links (set ins k x)
ins_placed links ins k x low here all = at_places (λ i y. IsTaker links y) ins k x low here
    (λ i d below other. all i d below)

pub taken_more : (ins : List Inlet) (k : ℕ) (old new : Inlet) (p : Packet) (a b : At) → k < length ins
    → old ≡ get_or ins k old
    → taken new.pass ≡ taken old.pass ++ p ∷ [] → all_taken b ≡ all_taken a ++ Popped k p ∷ []
    → TakenIs ins a → TakenIs (set ins k new) b
taken_more ins k old new p a b low is more all was =
    at_places (λ i (y : Inlet). popped i (all_taken b) ≡ taken y.pass) ins k new low
    (ap (popped k) all ∙ popped-append k (all_taken a) (Popped k p ∷ [])
    ∙ ap (λ xs. popped k (all_taken a) ++ xs) (cond-true (k == k) (p ∷ []) [] (eq-eqb k k refl))
    ∙ ap (λ xs. xs ++ p ∷ []) (was k old low ∙ ap (λ (y : Inlet). taken y.pass) (sym is)) ∙ sym more)
    (λ i d below other. ap (popped i) all ∙ popped-append i (all_taken a) (Popped k p ∷ [])
    ∙ ap (λ xs. popped i (all_taken a) ++ xs) (cond-false (k == i) (p ∷ []) [] (ne_eqb k i
    (λ (e : k ≡ i). other (sym e))))
    ∙ append-nil (popped i (all_taken a)) ∙ was i d below)

-- none was there
pub taken_none : (ins : List Inlet) (k : ℕ) (old new : Inlet) (a : At) → k < length ins → old ≡ get_or ins k old
    → taken new.pass ≡ taken old.pass → TakenIs ins a → TakenIs (set ins k new) a
taken_none ins k old new a low is same was =
    at_places (λ i (y : Inlet). popped i (all_taken a) ≡ taken y.pass) ins k new low
    (was k old low ∙ ap (λ (y : Inlet). taken y.pass) (sym is) ∙ sym same) (λ i d below other. was i d below)

-- ---- sending

pub outs_placed : (links : List Link) (outs : List Outlet) (k : ℕ) (x : Outlet) → k < length outs → IsSender links x
    → OutsPlaced links outs → OutsPlaced links (set outs k x)
outs_placed links outs k x low here all = at_places (λ i y. IsSender links y) outs k x low here
    (λ i d below other. all i d below)

pub sent_more : (outs : List Outlet) (k : ℕ) (old new : Outlet) (p : Packet) (a b : At) → k < length outs
    → old ≡ get_or outs k old
    → sent new.pass ≡ sent old.pass ++ p ∷ [] → b.pushed ≡ a.pushed ++ outgoing k p ∷ []
    → SentIs outs a → SentIs (set outs k new) b
sent_more outs k old new p a b low is more all was =
    at_places (λ o (y : Outlet). on_output o b.pushed ≡ sent y.pass) outs k new low
    (ap (on_output k) all ∙ on_output-append k a.pushed (outgoing k p ∷ [])
    ∙ ap (λ xs. on_output k a.pushed ++ xs) (cond-true (k == k) (p ∷ []) [] (eq-eqb k k refl))
    ∙ ap (λ xs. xs ++ p ∷ []) (was k old low ∙ ap (λ (y : Outlet). sent y.pass) (sym is)) ∙ sym more)
    (λ o d below other. ap (on_output o) all ∙ on_output-append o a.pushed (outgoing k p ∷ [])
    ∙ ap (λ xs. on_output o a.pushed ++ xs) (cond-false (k == o) (p ∷ []) [] (ne_eqb k o
    (λ (e : k ≡ o). other (sym e))))
    ∙ append-nil (on_output o a.pushed) ∙ was o d below)

-- it was handed back
pub sent_none : (outs : List Outlet) (k : ℕ) (old new : Outlet) (a : At) → k < length outs → old ≡ get_or outs k old
    → sent new.pass ≡ sent old.pass → SentIs outs a → SentIs (set outs k new) a
sent_none outs k old new a low is same was =
    at_places (λ o (y : Outlet). on_output o a.pushed ≡ sent y.pass) outs k new low
    (was k old low ∙ ap (λ (y : Outlet). sent y.pass) (sym is) ∙ sym same) (λ o d below other. was o d below)

-- the lists of the state are as they were
pub taken_kept : (ins : List Inlet) (a b : At) → all_taken b ≡ all_taken a → TakenIs ins a → TakenIs ins b
taken_kept ins a b same was i d below = ap (popped i) same ∙ was i d below

pub sent_kept : (outs : List Outlet) (a b : At) → b.pushed ≡ a.pushed → SentIs outs a → SentIs outs b
sent_kept outs a b same was o d below = ap (on_output o) same ∙ was o d below

-- an element that is there is the same whatever stands for one that isn't
pub get_or_any : {A : Type 0} (xs : List A) (i : ℕ) (d e : A) → i < length xs → get_or xs i d ≡ get_or xs i e
get_or_any [] i d e low = absurd (omega arith)
get_or_any (x ∷ xs) zero d e low = refl
get_or_any (x ∷ xs) (suc i) d e low = get_or_any xs i d e (omega arith)

-- the end of a link that was lent for a call
pub taker_after : (links : List Link) (old new : Inlet) (l : Link) → new.link ≡ old.link → l ≡ get_or links old.link l
    → IsTakerOf l new.pass → IsTaker links old → IsTaker links new
taker_after links old new l same is ends t =
    let at : (d : Link) → get_or links new.link d ≡ l = λ d.
    ap (λ i. get_or links i d) same ∙ get_or_any links old.link d l t.within ∙ sym is in
    record {
      within = omega (arith, same, t.within);
      taker = λ d. subst (λ (x : Link). IsTakerOf x new.pass) (sym (at d)) ends;
      wear = λ d. subst (λ i. wear_of (get_or links i d) ≤ 2 ^ 61) (sym same) (t.wear d);
    }

pub sender_after : (links : List Link) (old new : Outlet) (l : Link) → new.link ≡ old.link → l ≡ get_or links old.link l
    → IsSenderOf l new.pass → IsSender links old → IsSender links new
sender_after links old new l same is ends t =
    let at : (d : Link) → get_or links new.link d ≡ l = λ d.
    ap (λ i. get_or links i d) same ∙ get_or_any links old.link d l t.within ∙ sym is in
    record {
      within = omega (arith, same, t.within);
      sender = λ d. subst (λ (x : Link). IsSenderOf x new.pass) (sym (at d)) ends;
    }

-- what was taken from a link is no more than it carries
pub within_wear : (links : List Link) (old new : Inlet) (l : Link) → l ≡ get_or links old.link l → IsTakerOf l new.pass
    → IsTaker links old → length (taken new.pass) ≤ 2 ^ 61
within_wear links old new l is ends t =
    let w : wear_of l ≤ 2 ^ 61 = subst (λ (x : Link). wear_of x ≤ 2 ^ 61) (sym is) (t.wear l) in
    omega (arith, new.pass.counted, new.pass.within, ends.2, w)

-- the link of an output was full
pub full_at : (links : List Link) (outs : List Outlet) (k : ℕ) (old : Outlet) (l0 : Link) → k < length outs
    → old ≡ get_or outs k old → old.link < length links → l0 ≡ get_or links old.link l0
    → Held (capacity_of l0) (IsSentUpTo (sent old.pass)) → (d : Outlet) (l : Link)
    → Held (capacity_of (get_or links (get_or outs k d).link l)) (IsSentUpTo (sent (get_or outs k d).pass))
full_at links outs k old l0 low is within lis held d l =
    subst (λ (o : Outlet). Held (capacity_of (get_or links o.link l)) (IsSentUpTo (sent o.pass)))
    (sym (get_or_any outs k d old low ∙ sym is))
    (subst (λ (x : Link). Held (capacity_of x) (IsSentUpTo (sent old.pass)))
    (sym (get_or_any links old.link l l0 within ∙ sym lis)) held)
