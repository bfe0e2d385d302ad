-- Marks that are made right, one by one.
use Rattle.std.proofs.Common.{◌≡◌, ◌≢◌, ◌<◌, ◌≤◌, ◌+◌, ◌⊎◌, inl, inr, ℕ, ◌==◌, Bool, true, false, List, [], ◌∷◌, length, set, get_or, slice_get, Some, None, refl, sym, ap, subst, ◌∙◌, arith, length-set, cond}
use Rattle.std.specs.Prelude.{is_some}
use Rattle.std.proofs.lemmas.Bool.{cases_eq, cases_lt, eqb-true}
use Rattle.std.proofs.lemmas.Option.{slice_get-get_or, slice_get_within}
use Rattle.stream_model.specs.declared.outgoing.Outgoing.{Outgoing}
use Rattle.stream_model.specs.declared.shape.ShapeLink.{ShapeLink}
use Rattle.network_model.specs.Networks.{Net}
use Rattle.network_model.specs.Picking.{Choice, PopAt, PushAt, ReadAt, front_for, may_happen}
use Rattle.network_model.specs.States.{State}
use Rattle.link_queues.specs.Ends.{IsLeading, LeadsTo}
use Rattle.link_queues.specs.Links.{Links}
use Rattle.link_queues.proofs.Listing.{get_set, get_set_other, get_there}
use Rattle.enabled_events.specs.Marks.{AreRighted, IsEvent, IsFront, IsRefreshed, IsRight, place_of}
use Rattle.enabled_events.specs.Moments.{IsLinked, Moment}
use Rattle.enabled_events.specs.Standing.{LinksAt}

-- ---- places

pub place_below : (net : Net) (c : Choice) → IsEvent net c → place_of net c < net.size + net.links + net.links
place_below net (ReadAt e) h = omega arith
place_below net (PopAt l) h = omega arith
place_below net (PushAt l) h = omega arith

place_one : (net : Net) (c d : Choice) → IsEvent net c → IsEvent net d → place_of net c ≡ place_of net d → c ≡ d
place_one net (ReadAt a) (ReadAt b) g h e = ap ReadAt e
place_one net (ReadAt a) (PopAt b) g h e = absurd (omega arith)
place_one net (ReadAt a) (PushAt b) g h e = absurd (omega arith)
place_one net (PopAt a) (ReadAt b) g h e = absurd (omega arith)
place_one net (PopAt a) (PopAt b) g h e = let same : a ≡ b = omega arith in ap PopAt same
place_one net (PopAt a) (PushAt b) g h e = absurd (omega arith)
place_one net (PushAt a) (ReadAt b) g h e = absurd (omega arith)
place_one net (PushAt a) (PopAt b) g h e = absurd (omega arith)
place_one net (PushAt a) (PushAt b) g h e = let same : a ≡ b = omega arith in ap PushAt same

-- ---- marks

pub righted_none : (net : Net) (st : State) (marks : List Bool) → AreRighted net st marks marks
righted_none net st marks = record { count = refl; each = λ c ev. inr refl }

pub right_stays : (net : Net) (st : State) (old new : List Bool) (c : Choice) → AreRighted net st old new → IsEvent net c → IsRight net st old c → IsRight net st new c
right_stays net st old new c k ev right = go (k.each c ev)
  where
    go : (IsRight net st new c ⊎ (slice_get new (place_of net c) ≡ slice_get old (place_of net c))) → IsRight net st new c
    go (inl h) = h
    go (inr same) = same ∙ right

pub righted_then : (net : Net) (st : State) (a b c : List Bool) → AreRighted net st a b → AreRighted net st b c → AreRighted net st a c
righted_then net st a b c h k = record { count = k.count ∙ h.count; each = λ d ev. go d ev (k.each d ev) (h.each d ev) }
  where
    go : (d : Choice) → IsEvent net d → (IsRight net st c d ⊎ (slice_get c (place_of net d) ≡ slice_get b (place_of net d)))
        → (IsRight net st b d ⊎ (slice_get b (place_of net d) ≡ slice_get a (place_of net d)))
        → IsRight net st c d ⊎ (slice_get c (place_of net d) ≡ slice_get a (place_of net d))
    go d ev (inl right) y = inl right
    go d ev (inr same) (inl right) = inl (same ∙ right)
    go d ev (inr same) (inr before) = inr (same ∙ before)

-- one mark is set
pub set_right : (net : Net) (st : State) (old new : List Bool) (c : Choice) (place : ℕ) (enabled : Bool) → length old ≡ net.size + net.links + net.links → IsEvent net c
    → new ≡ set old place enabled → place ≡ place_of net c → enabled ≡ may_happen net st c → AreRighted net st old new × IsRight net st new c
set_right net st old new c place enabled count ev e at is = (record { count = ap length now ∙ length-set old (place_of net c) (may_happen net st c); each = each }, right)
  where
    now : new ≡ set old (place_of net c) (may_happen net st c)
    now = e ∙ ap (λ p. set old p enabled) at ∙ ap (set old (place_of net c)) is

    right : IsRight net st new c
    right =
        ap (λ ms. slice_get ms (place_of net c)) now
        ∙ get_set old (place_of net c) (may_happen net st c) (subst (λ n. place_of net c < n) (sym count) (place_below net c ev))

    each : (d : Choice) → IsEvent net d → IsRight net st new d ⊎ (slice_get new (place_of net d) ≡ slice_get old (place_of net d))
    each d evd = go (cases_eq (place_of net c) (place_of net d))
      where
        go : ((place_of net c ≡ place_of net d) ⊎ (place_of net c ≢ place_of net d)) → IsRight net st new d ⊎ (slice_get new (place_of net d) ≡ slice_get old (place_of net d))
        go (inl same) = inl (subst (IsRight net st new) (place_one net c d ev evd same) right)
        go (inr other) = inr (ap (λ ms. slice_get ms (place_of net d)) now ∙ get_set_other old (place_of net c) (place_of net d) (may_happen net st c) other)

-- ---- pops of some links

abbrev pub Popping : Net → State → List ℕ → ℕ → List Bool → List Bool → Type 0
Popping net st row i old new =
    AreRighted net st old new × ((j l : ℕ) → j < i → slice_get row j ≡ Some l → IsRight net st new (PopAt l))

pub pops_none : (net : Net) (st : State) (row : List ℕ) (marks : List Bool) → Popping net st row 0 marks marks
pops_none net st row marks = (righted_none net st marks, λ j l h e. absurd (omega arith))

pub pops_next : (net : Net) (st : State) (row : List ℕ) (i d : ℕ) (old mid new : List Bool) → ((j l : ℕ) → slice_get row j ≡ Some l → l < net.links) → i < length row
    → Popping net st row i old mid → AreRighted net st mid new → IsRight net st new (PopAt (get_or row i d)) → Popping net st row (i + 1) old new
pops_next net st row i d old mid new rows lt p k right = (righted_then net st old mid new p.0 k, λ j l h e. go j l h e (cases_lt j i))
  where
    go : (j l : ℕ) → j < i + 1 → slice_get row j ≡ Some l → ((j < i) ⊎ (i ≤ j)) → IsRight net st new (PopAt l)
    go j l h e (inl before) = right_stays net st mid new (PopAt l) k (rows j l e) (p.1 j l before e)
    go j l h e (inr here) =
        let same : j ≡ i = omega arith in
        let there : Some l ≡ Some (get_or row i d) = sym e ∙ ap (slice_get row) same ∙ slice_get-get_or row i d lt in
        let is : l ≡ get_or row i d = cc in
        subst (λ z. IsRight net st new (PopAt z)) (sym is) right

-- ---- the push of what comes first

pub leads_none : (m : Moment) (links : Links) (e output : ℕ) (marks : List Bool) → LinksAt m links → IsLeading links.ends e output None
    → (l : ℕ) → l < m.net.links → (m.net.link l).from ≡ e → (m.net.link l).output ≡ output → IsRight m.net m.state marks (PushAt l)
leads_none m links e output marks k none l lt from out =
    let there = get_there links.ends l (subst (λ n. l < n) (sym k.count) lt) in
    let is = k.ends l there.0 there.1 in
    absurd (none l there.0 there.1 (ap (λ (x : ShapeLink). x.from) is ∙ from) (ap (λ (x : ShapeLink). x.output) is ∙ out))

pub leads_within : (m : Moment) (links : Links) (e output link : ℕ) → LinksAt m links → IsLeading links.ends e output (Some link) → link < m.net.links
leads_within m links e output link k lead = subst (λ n. link < n) k.count (slice_get_within links.ends link lead.0 lead.1)

pub leads_some : (m : Moment) (links : Links) (e output link : ℕ) (marks : List Bool) → IsLinked m.net → LinksAt m links → IsLeading links.ends e output (Some link)
    → IsRight m.net m.state marks (PushAt link)
    → (l : ℕ) → l < m.net.links → (m.net.link l).from ≡ e → (m.net.link l).output ≡ output → IsRight m.net m.state marks (PushAt l)
leads_some m links e output link marks w k lead right l lt from out =
    let is = k.ends link lead.0 lead.1 in
    let same : link ≡ l = w.one_output link l (leads_within m links e output link k lead) lt
    (ap (λ (x : ShapeLink). x.from) (sym is) ∙ lead.2 ∙ sym from) (ap (λ (x : ShapeLink). x.output) (sym is) ∙ lead.3 ∙ sym out) in
    subst (λ z. IsRight m.net m.state marks (PushAt z)) same right

pub no_front : (st : State) (e output : ℕ) → (st e).outbox ≡ [] → IsFront st e output → ⊥
no_front st e output none front = let clash : false ≡ true = sym (ap (λ z. is_some (front_for output z)) none) ∙ front in cc

pub one_front : (st : State) (e output o : ℕ) (s : Outgoing) (rest : List Outgoing) → (st e).outbox ≡ s ∷ rest → s.output ≡ o → IsFront st e output → output ≡ o
one_front st e output o s rest are is front = go (s.output == output) refl (sym (ap (λ z. is_some (front_for output z)) are) ∙ front)
  where
    go : (b : Bool) → (s.output == output) ≡ b → is_some (cond b (Some s.packet) None) ≡ true → output ≡ o
    go true q h = sym (eqb-true s.output output q) ∙ is
    go false q h = absurd (let clash : false ≡ true = h in cc)

-- ---- all of an element

pub entering_within : (m : Moment) (links : Links) (e : ℕ) (row : List ℕ) → LinksAt m links → LeadsTo links.ends e row → (j l : ℕ) → slice_get row j ≡ Some l → l < m.net.links
entering_within m links e row k leads j l at =
    let there = leads.alone j l at in
    subst (λ n. l < n) k.count (slice_get_within links.ends l there.0 there.1)

pub refreshed : (m : Moment) (links : Links) (e : ℕ) (row : List ℕ) (a b c d : List Bool) → LinksAt m links → LeadsTo links.ends e row → e < m.net.size
    → AreRighted m.net m.state a b → IsRight m.net m.state b (ReadAt e)
    → AreRighted m.net m.state b c → ((j l : ℕ) → slice_get row j ≡ Some l → IsRight m.net m.state c (PopAt l))
    → AreRighted m.net m.state c d
    → ((l : ℕ) → l < m.net.links → (m.net.link l).from ≡ e → IsFront m.state e (m.net.link l).output → IsRight m.net m.state d (PushAt l))
    → IsRefreshed m.net m.state e a d
refreshed m links e row a b c d k leads lt ab read bc pops cd pushes = record {
  righted = righted_then m.net m.state a b d ab (righted_then m.net m.state b c d bc cd);
  reads = right_stays m.net m.state b d (ReadAt e) (righted_then m.net m.state b c d bc cd) lt read;
  pops = λ l within to. (
      let there = get_there links.ends l (subst (λ n. l < n) (sym k.count) within) in
      let is = k.ends l there.0 there.1 in
      let place = leads.listed l there.0 there.1 (ap (λ (x : ShapeLink). x.to) is ∙ to) in
      right_stays m.net m.state c d (PopAt l) cd within (pops place.0 l place.1));
  pushes = pushes;
}
