-- Steps of a network that stands for a moment.
use Rattle.std.proofs.Common.{◌≡◌, ◌≢◌, ◌<◌, ◌⊎◌, inl, inr, ℕ, Bool, true, false, List, [], ◌∷◌, ◌++◌, sym, ap, subst, ◌∙◌}
use Rattle.std.proofs.lemmas.Bool.{cases_eq}
use Rattle.spl_value.specs.declared.item.Item.{Item}
use Rattle.spl_value.specs.declared.packet.Packet.{Packet}
use Rattle.stream_model.specs.Operators.{Operator}
use Rattle.stream_model.specs.Sending.{outgoing}
use Rattle.stream_model.specs.Stream.{Event}
use Rattle.stream_model.specs.declared.outgoing.Outgoing.{Outgoing}
use Rattle.std.specs.Prelude.{is_some}
use Rattle.network_model.specs.Picking.{PopAt, PushAt, ReadAt, front_for, may_happen}
use Rattle.network_model.specs.Receipts.{Receipt, Popped, WasRead, popped}
use Rattle.network_model.specs.States.{all_taken, popped_from, pushed_on, put, puts}
use Rattle.elements.specs.declared.element.Element.{Element}
use Rattle.link_queues.specs.Links.{Links, waits_on}
use Rattle.link_queues.proofs.Listing.{get_there}
use Rattle.enabled_events.specs.Marks.{AreRighted, IsRefreshed, IsRight, MarksAt}
use Rattle.enabled_events.specs.Moments.{Moment, moved}
use Rattle.enabled_events.specs.Standing.{ElementsAt, PartsAt}
use Rattle.enabled_events.proofs.Righting.{right_stays, righted_none, righted_then}
use Rattle.net_core.specs.Stepping.{taking}
use Rattle.net_core.proofs.Enabling.{reading}
use Rattle.net_core.proofs.Linking.{pop_links, pop_others, popped_beside, popped_read, push_links, push_others, push_popped, pushed_stays, read_links, with_waiting}
use Rattle.net_core.proofs.Putting.{Takes, taking_lists}
use Rattle.net_core.proofs.Unmoved.{all_right, no_first, other_front}

module _ {R : Type 0} (spec : R → Operator) (stands : R → List Event → Type 0) (m : Moment) (elements : List (Element R)) (links : Links)
    (k : PartsAt spec stands m elements links) where
  -- an element that isn't cut has dropped nothing
  whole : (e : ℕ) → e < m.net.size → (m.state e).cut ≡ false → (m.state e).dropped ≡ []
  whole e lt =
      let there = get_there elements e (subst (λ n. e < n) (sym k.elements_at.count) lt) in
      (k.elements_at.each e there.0 there.1).at.none_dropped

  taken : (b : Bool) (e : ℕ) (r : Receipt) → e < m.net.size → Takes (m.state e) r (taking b (m.net.part e) (m.state e) r)
  taken b e r lt = taking_lists b (m.net.part e) (m.state e) r (whole e lt)

  -- ---- an item is read

  pub read_parts : (b : Bool) (e : ℕ) (x : Item) (es : List (Element R)) → e < m.net.size
      → ElementsAt spec stands (moved m (put m.state e (taking b (m.net.part e) (m.state e) (WasRead x)))) es
      → PartsAt spec stands (moved m (put m.state e (taking b (m.net.part e) (m.state e) (WasRead x)))) es links
  read_parts b e x es lt at = record {
    linked = k.linked;
    few = k.few;
    elements_at = at;
    links_at = read_links m links k.linked k.links_at e x (taking b (m.net.part e) (m.state e) (WasRead x)) (taken b e (WasRead x) lt);
  }

  pub read_marks : (b : Bool) (e : ℕ) (x : Item) (old new : List Bool) → may_happen m.net m.state (ReadAt e) ≡ true → MarksAt m.net m.state old
      → IsRefreshed m.net (put m.state e (taking b (m.net.part e) (m.state e) (WasRead x))) e old new
      → MarksAt m.net (put m.state e (taking b (m.net.part e) (m.state e) (WasRead x))) new
  read_marks b e x old new may marks r =
      let says = reading m.net m.state e may in
      let t = taken b e (WasRead x) says.element in
      all_right m.net m.state e (taking b (m.net.part e) (m.state e) (WasRead x)) old new new r
      (righted_none m.net (put m.state e (taking b (m.net.part e) (m.state e) (WasRead x))) new)
      (λ l lt from. inr (no_first (m.state e).outbox (m.net.link l).output says.idle))
      (λ l lt to. inr (pushed_stays m.net m.state e (taking b (m.net.part e) (m.state e) (WasRead x)) t.1 l))
      (λ l lt from. inr (
        pushed_stays m.net m.state e (taking b (m.net.part e) (m.state e) (WasRead x)) t.1 l,
        popped_beside m.net m.state e (taking b (m.net.part e) (m.state e) (WasRead x)) l
            (λ to. ap (popped (m.net.link l).input) t.0 ∙ popped_read (m.net.link l).input (all_taken (m.state e)) x),
      ))
      marks

  -- ---- a packet is popped

  pub pop_parts : (b : Bool) (l : ℕ) (p : Packet) (rest : List Packet) (es : List (Element R)) → l < m.net.links → waits_on links l ≡ p ∷ rest
      → ElementsAt spec stands (moved m (put m.state (m.net.link l).to (taking b (m.net.part (m.net.link l).to) (m.state (m.net.link l).to) (Popped (m.net.link l).input p)))) es
      → PartsAt spec stands (moved m (put m.state (m.net.link l).to (taking b (m.net.part (m.net.link l).to) (m.state (m.net.link l).to) (Popped (m.net.link l).input p)))) es
      (with_waiting links l rest)
  pop_parts b l p rest es lt are at = record {
    linked = k.linked;
    few = k.few;
    elements_at = at;
    links_at = pop_links m links k.linked k.links_at l p rest (taking b (m.net.part (m.net.link l).to) (m.state (m.net.link l).to) (Popped (m.net.link l).input p)) lt are
        (taken b (m.net.link l).to (Popped (m.net.link l).input p) (k.linked.to l lt));
  }

  pub pop_marks : (b : Bool) (l : ℕ) (p : Packet) (old mid new : List Bool) → l < m.net.links → (m.state (m.net.link l).to).outbox ≡ [] → MarksAt m.net m.state old
      → IsRefreshed m.net (put m.state (m.net.link l).to (taking b (m.net.part (m.net.link l).to) (m.state (m.net.link l).to) (Popped (m.net.link l).input p))) (m.net.link l).to old mid
      → AreRighted m.net (put m.state (m.net.link l).to (taking b (m.net.part (m.net.link l).to) (m.state (m.net.link l).to) (Popped (m.net.link l).input p))) mid new
      → IsRight m.net (put m.state (m.net.link l).to (taking b (m.net.part (m.net.link l).to) (m.state (m.net.link l).to) (Popped (m.net.link l).input p))) new (PushAt l)
      → MarksAt m.net (put m.state (m.net.link l).to (taking b (m.net.part (m.net.link l).to) (m.state (m.net.link l).to) (Popped (m.net.link l).input p))) new
  pop_marks b l p old mid new lt idle marks r more right =
      let t = taken b (m.net.link l).to (Popped (m.net.link l).input p) (k.linked.to l lt) in
      all_right m.net m.state (m.net.link l).to (taking b (m.net.part (m.net.link l).to) (m.state (m.net.link l).to) (Popped (m.net.link l).input p)) old mid new r more
      (λ j within from. inr (no_first (m.state (m.net.link l).to).outbox (m.net.link j).output idle))
      (λ j within to. inr (pushed_stays m.net m.state (m.net.link l).to
      (taking b (m.net.part (m.net.link l).to) (m.state (m.net.link l).to) (Popped (m.net.link l).input p)) t.1 j))
      (λ j within from. others j within (cases_eq l j)) marks
    where
      others : (j : ℕ) → j < m.net.links → ((l ≡ j) ⊎ (l ≢ j))
          → IsRight m.net (put m.state (m.net.link l).to (taking b (m.net.part (m.net.link l).to) (m.state (m.net.link l).to) (Popped (m.net.link l).input p))) new (PushAt j)
          ⊎ ((pushed_on m.net (put m.state (m.net.link l).to (taking b (m.net.part (m.net.link l).to) (m.state (m.net.link l).to) (Popped (m.net.link l).input p))) j ≡ pushed_on m.net m.state j)
          × (popped_from m.net (put m.state (m.net.link l).to (taking b (m.net.part (m.net.link l).to) (m.state (m.net.link l).to) (Popped (m.net.link l).input p))) j ≡ popped_from m.net m.state j))
      others j within (inl same) = inl (subst
          (λ z. IsRight m.net (put m.state (m.net.link l).to (taking b (m.net.part (m.net.link l).to) (m.state (m.net.link l).to) (Popped (m.net.link l).input p))) new (PushAt z)) same right)
      others j within (inr other) = inr (
        pushed_stays m.net m.state (m.net.link l).to (taking b (m.net.part (m.net.link l).to) (m.state (m.net.link l).to) (Popped (m.net.link l).input p))
            (taken b (m.net.link l).to (Popped (m.net.link l).input p) (k.linked.to l lt)).1 j,
        pop_others m links k.linked k.links_at l p (taking b (m.net.part (m.net.link l).to) (m.state (m.net.link l).to) (Popped (m.net.link l).input p)) lt
            (taken b (m.net.link l).to (Popped (m.net.link l).input p) (k.linked.to l lt)) j within other,
      )

  -- ---- a packet is pushed

  pub push_parts : (l : ℕ) (p : Packet) (es : List (Element R)) → l < m.net.links
      → ElementsAt spec stands (moved m (put m.state (m.net.link l).from (puts (m.state (m.net.link l).from) (outgoing (m.net.link l).output p)))) es
      → PartsAt spec stands (moved m (put m.state (m.net.link l).from (puts (m.state (m.net.link l).from) (outgoing (m.net.link l).output p)))) es
      (with_waiting links l (waits_on links l ++ p ∷ []))
  push_parts l p es lt at = record {
    linked = k.linked;
    few = k.few;
    elements_at = at;
    links_at = push_links m links k.linked k.links_at l p lt;
  }

  pub push_marks : (l : ℕ) (p : Packet) (rest : List Outgoing) (old mid mid2 new : List Bool) → l < m.net.links
      → (m.state (m.net.link l).from).outbox ≡ outgoing (m.net.link l).output p ∷ rest → MarksAt m.net m.state old
      → IsRefreshed m.net (put m.state (m.net.link l).from (puts (m.state (m.net.link l).from) (outgoing (m.net.link l).output p))) (m.net.link l).from old mid
      → AreRighted m.net (put m.state (m.net.link l).from (puts (m.state (m.net.link l).from) (outgoing (m.net.link l).output p))) mid mid2
      → IsRight m.net (put m.state (m.net.link l).from (puts (m.state (m.net.link l).from) (outgoing (m.net.link l).output p))) mid2 (PopAt l)
      → AreRighted m.net (put m.state (m.net.link l).from (puts (m.state (m.net.link l).from) (outgoing (m.net.link l).output p))) mid2 new
      → IsRight m.net (put m.state (m.net.link l).from (puts (m.state (m.net.link l).from) (outgoing (m.net.link l).output p))) new (PushAt l)
      → MarksAt m.net (put m.state (m.net.link l).from (puts (m.state (m.net.link l).from) (outgoing (m.net.link l).output p))) new
  push_marks l p rest old mid mid2 new lt are marks r pop-righted pop-right push-righted push-right =
      all_right m.net m.state (m.net.link l).from (puts (m.state (m.net.link l).from) (outgoing (m.net.link l).output p)) old mid new r
      (righted_then m.net (put m.state (m.net.link l).from (puts (m.state (m.net.link l).from) (outgoing (m.net.link l).output p))) mid mid2 new pop-righted push-righted)
      (λ j within from. from-it j within from (cases_eq l j))
      (λ j within to. to-it j within (cases_eq l j))
      (λ j within from. inr (push_others m links k.linked k.links_at l p lt j within (λ q. from (ap (λ z. (m.net.link z).from) (sym q))), push_popped m links k.linked k.links_at l p j))
      marks
    where
      from-it : (j : ℕ) → j < m.net.links → (m.net.link j).from ≡ (m.net.link l).from → ((l ≡ j) ⊎ (l ≢ j))
          → IsRight m.net (put m.state (m.net.link l).from (puts (m.state (m.net.link l).from) (outgoing (m.net.link l).output p))) new (PushAt j)
          ⊎ (is_some (front_for (m.net.link j).output (m.state (m.net.link l).from).outbox) ≡ false)
      from-it j within from (inl same) = inl (subst
          (λ z. IsRight m.net (put m.state (m.net.link l).from (puts (m.state (m.net.link l).from) (outgoing (m.net.link l).output p))) new (PushAt z)) same push-right)
      from-it j within from (inr other) = inr (other_front (m.state (m.net.link l).from).outbox (m.net.link l).output (m.net.link j).output p rest are
          (λ q. other (k.linked.one_output l j lt within (sym from) q)))

      to-it : (j : ℕ) → j < m.net.links → ((l ≡ j) ⊎ (l ≢ j))
          → IsRight m.net (put m.state (m.net.link l).from (puts (m.state (m.net.link l).from) (outgoing (m.net.link l).output p))) new (PopAt j)
          ⊎ (pushed_on m.net (put m.state (m.net.link l).from (puts (m.state (m.net.link l).from) (outgoing (m.net.link l).output p))) j ≡ pushed_on m.net m.state j)
      to-it j within (inl same) = inl (subst
          (λ z. IsRight m.net (put m.state (m.net.link l).from (puts (m.state (m.net.link l).from) (outgoing (m.net.link l).output p))) new (PopAt z)) same
          (right_stays m.net (put m.state (m.net.link l).from (puts (m.state (m.net.link l).from) (outgoing (m.net.link l).output p))) mid2 new (PopAt l) push-righted lt pop-right))
      to-it j within (inr other) = inr (push_others m links k.linked k.links_at l p lt j within other)
