-- Links behind an event.
use Rattle.std.proofs.Common.{◌≡◌, ◌≢◌, ◌<◌, ◌==◌, ◌⊎◌, inl, inr, ℕ, List, [], ◌∷◌, ◌++◌, length, set, slice_get, refl, sym, ap, subst, ◌∙◌, length-set, append_assoc, append-nil}
use Rattle.std.specs.Option.{unwrap_or}
use Rattle.std.proofs.lemmas.Bool.{cases_eq, cond-false, cond-true, eq-eqb, ne_eqb}
use Rattle.spl_value.specs.declared.item.Item.{Item}
use Rattle.spl_value.specs.declared.packet.Packet.{Packet}
use Rattle.stream_model.specs.Sending.{on_output, outgoing}
use Rattle.stream_model.specs.declared.outgoing.Outgoing.{Outgoing}
use Rattle.stream_model.proofs.Outputs.{on_output-append}
use Rattle.network_model.specs.Networks.{Net}
use Rattle.network_model.specs.Receipts.{Receipt, Popped, WasRead, popped}
use Rattle.network_model.specs.States.{At, State, all_taken, popped_from, pushed_on, put, puts}
use Rattle.network_model.proofs.Receipts.{popped-append}
use Rattle.link_queues.specs.Links.{Links, waits_on}
use Rattle.link_queues.proofs.Listing.{get_set, get_set_other}
use Rattle.enabled_events.specs.Moments.{IsLinked, Moment, moved}
use Rattle.enabled_events.specs.Standing.{LinksAt}
use Rattle.net_core.proofs.Putting.{Takes, put_hit, put_miss}

-- ---- what was pushed and popped

-- an element took something: what was pushed stays
module _ (net : Net) (st : State) (e : ℕ) (a : At) where
  pub pushed_stays : a.pushed ≡ (st e).pushed → (l : ℕ) → pushed_on net (put st e a) l ≡ pushed_on net st l
  pushed_stays same l = go (cases_eq e (net.link l).from)
    where
      go : ((e ≡ (net.link l).from) ⊎ (e ≢ (net.link l).from)) → pushed_on net (put st e a) l ≡ pushed_on net st l
      go (inl is) = ap (λ z. on_output (net.link l).output (put st e a z).pushed) (sym is) ∙ ap (λ (b : At). on_output (net.link l).output b.pushed) (put_hit st e a)
          ∙ ap (on_output (net.link l).output) same ∙ ap (λ z. on_output (net.link l).output (st z).pushed) is
      go (inr other) = ap (λ (b : At). on_output (net.link l).output b.pushed) (put_miss st e (net.link l).from a other)

  pub popped_beside : (l : ℕ) → ((net.link l).to ≡ e → popped (net.link l).input (all_taken a) ≡ popped (net.link l).input (all_taken (st e)))
      → popped_from net (put st e a) l ≡ popped_from net st l
  popped_beside l same = go (cases_eq e (net.link l).to)
    where
      go : ((e ≡ (net.link l).to) ⊎ (e ≢ (net.link l).to)) → popped_from net (put st e a) l ≡ popped_from net st l
      go (inl is) = ap (λ z. popped (net.link l).input (all_taken (put st e a z))) (sym is) ∙ ap (λ b. popped (net.link l).input (all_taken b)) (put_hit st e a)
          ∙ same (sym is) ∙ ap (λ z. popped (net.link l).input (all_taken (st z))) is
      go (inr other) = ap (λ b. popped (net.link l).input (all_taken b)) (put_miss st e (net.link l).to a other)

  pub pushed_beside : (l : ℕ) → ((net.link l).from ≡ e → on_output (net.link l).output a.pushed ≡ on_output (net.link l).output (st e).pushed)
      → pushed_on net (put st e a) l ≡ pushed_on net st l
  pushed_beside l same = go (cases_eq e (net.link l).from)
    where
      go : ((e ≡ (net.link l).from) ⊎ (e ≢ (net.link l).from)) → pushed_on net (put st e a) l ≡ pushed_on net st l
      go (inl is) = ap (λ z. on_output (net.link l).output (put st e a z).pushed) (sym is) ∙ ap (λ (b : At). on_output (net.link l).output b.pushed) (put_hit st e a)
          ∙ same (sym is) ∙ ap (λ z. on_output (net.link l).output (st z).pushed) is
      go (inr other) = ap (λ (b : At). on_output (net.link l).output b.pushed) (put_miss st e (net.link l).from a other)

popped_hit : (i : ℕ) (T : List Receipt) (p : Packet) → popped i (T ++ Popped i p ∷ []) ≡ popped i T ++ p ∷ []
popped_hit i T p = popped-append i T (Popped i p ∷ []) ∙ ap (λ z. popped i T ++ z) (cond-true (i == i) (p ∷ []) [] (eq-eqb i i refl))

popped_miss : (i j : ℕ) (T : List Receipt) (p : Packet) → i ≢ j → popped j (T ++ Popped i p ∷ []) ≡ popped j T
popped_miss i j T p other =
    popped-append j T (Popped i p ∷ []) ∙ ap (λ z. popped j T ++ z) (cond-false (i == j) (p ∷ []) [] (ne_eqb i j other)) ∙ append-nil (popped j T)

pub popped_read : (i : ℕ) (T : List Receipt) (x : Item) → popped i (T ++ WasRead x ∷ []) ≡ popped i T
popped_read i T x = popped-append i T (WasRead x ∷ []) ∙ append-nil (popped i T)

output_hit : (o : ℕ) (sent : List Outgoing) (p : Packet) → on_output o (sent ++ outgoing o p ∷ []) ≡ on_output o sent ++ p ∷ []
output_hit o sent p = on_output-append o sent (outgoing o p ∷ []) ∙ ap (λ z. on_output o sent ++ z) (cond-true (o == o) (p ∷ []) [] (eq-eqb o o refl))

output_miss : (o q : ℕ) (sent : List Outgoing) (p : Packet) → o ≢ q → on_output q (sent ++ outgoing o p ∷ []) ≡ on_output q sent
output_miss o q sent p other =
    on_output-append q sent (outgoing o p ∷ []) ∙ ap (λ z. on_output q sent ++ z) (cond-false (o == q) (p ∷ []) [] (ne_eqb o q other)) ∙ append-nil (on_output q sent)

-- ---- what waits

waits-set : (links : Links) (l : ℕ) (ps : List Packet) → l < length links.waiting → unwrap_or (slice_get (set links.waiting l ps) l) [] ≡ ps
waits-set links l ps lt = ap (λ o. unwrap_or o []) (get_set links.waiting l ps lt)

waits-other : (links : Links) (l k : ℕ) (ps : List Packet) → l ≢ k → unwrap_or (slice_get (set links.waiting l ps) k) [] ≡ waits_on links k
waits-other links l k ps other = ap (λ o. unwrap_or o []) (get_set_other links.waiting l k ps other)

-- the waiting packets of one link are others
abbrev pub with_waiting : Links → ℕ → List Packet → Links
with_waiting links l ps = record { ends = links.ends; waiting = set links.waiting l ps; capacity = links.capacity; elements = links.elements }

module _ (m : Moment) (links : Links) (w : IsLinked m.net) (k : LinksAt m links) where
  -- an item is read
  pub read_links : (e : ℕ) (x : Item) (a : At) → Takes (m.state e) (WasRead x) a → LinksAt (moved m (put m.state e a)) links
  read_links e x a t = record {
    count = k.count;
    room = k.room;
    ends = k.ends;
    size = k.size;
    capacity = k.capacity;
    waits = λ l lt. pushed_stays m.net m.state e a t.1 l ∙ k.waits l lt
        ∙ ap (λ z. z ++ waits_on links l) (sym (popped_beside m.net m.state e a l
        (λ to. ap (popped (m.net.link l).input) t.0 ∙ popped_read (m.net.link l).input (all_taken (m.state e)) x)));
  }

  -- a packet is popped
  pub pop_others : (l : ℕ) (p : Packet) (a : At) → l < m.net.links → Takes (m.state (m.net.link l).to) (Popped (m.net.link l).input p) a
      → (j : ℕ) → j < m.net.links → l ≢ j → popped_from m.net (put m.state (m.net.link l).to a) j ≡ popped_from m.net m.state j
  pop_others l p a lt t j within other = popped_beside m.net m.state (m.net.link l).to a j
      (λ to. ap (popped (m.net.link j).input) t.0
      ∙ popped_miss (m.net.link l).input (m.net.link j).input (all_taken (m.state (m.net.link l).to)) p (λ e. other (w.one_input l j lt within (sym to) e)))

  pop-here : (l : ℕ) (p : Packet) (a : At) → Takes (m.state (m.net.link l).to) (Popped (m.net.link l).input p) a
      → popped_from m.net (put m.state (m.net.link l).to a) l ≡ popped_from m.net m.state l ++ p ∷ []
  pop-here l p a t =
      ap (λ b. popped (m.net.link l).input (all_taken b)) (put_hit m.state (m.net.link l).to a) ∙ ap (popped (m.net.link l).input) t.0
      ∙ popped_hit (m.net.link l).input (all_taken (m.state (m.net.link l).to)) p

  pub pop_links : (l : ℕ) (p : Packet) (rest : List Packet) (a : At) → l < m.net.links → waits_on links l ≡ p ∷ rest
      → Takes (m.state (m.net.link l).to) (Popped (m.net.link l).input p) a → LinksAt (moved m (put m.state (m.net.link l).to a)) (with_waiting links l rest)
  pop_links l p rest a lt are t = record {
    count = k.count;
    room = length-set links.waiting l rest ∙ k.room;
    ends = k.ends;
    size = k.size;
    capacity = k.capacity;
    waits = λ j within. go j within (cases_eq l j);
  }
    where
      here : pushed_on m.net (put m.state (m.net.link l).to a) l
          ≡ popped_from m.net (put m.state (m.net.link l).to a) l ++ waits_on (with_waiting links l rest) l
      here =
          pushed_stays m.net m.state (m.net.link l).to a t.1 l ∙ k.waits l lt ∙ ap (λ z. popped_from m.net m.state l ++ z) are
          ∙ sym (append_assoc (popped_from m.net m.state l) (p ∷ []) rest) ∙ ap (λ z. z ++ rest) (sym (pop-here l p a t))
          ∙ ap (λ z. popped_from m.net (put m.state (m.net.link l).to a) l ++ z) (sym (waits-set links l rest (subst (λ n. l < n) (sym k.room) lt)))

      go : (j : ℕ) → j < m.net.links → ((l ≡ j) ⊎ (l ≢ j)) → pushed_on m.net (put m.state (m.net.link l).to a) j
          ≡ popped_from m.net (put m.state (m.net.link l).to a) j ++ waits_on (with_waiting links l rest) j
      go j within (inl same) = subst (λ z. pushed_on m.net (put m.state (m.net.link l).to a) z
          ≡ popped_from m.net (put m.state (m.net.link l).to a) z ++ waits_on (with_waiting links l rest) z) same here
      go j within (inr other) =
          pushed_stays m.net m.state (m.net.link l).to a t.1 j ∙ k.waits j within
          ∙ ap (λ z. z ++ waits_on links j) (sym (pop_others l p a lt t j within other))
          ∙ ap (λ z. popped_from m.net (put m.state (m.net.link l).to a) j ++ z) (sym (waits-other links l j rest other))

  -- a packet is pushed
  pub push_others : (l : ℕ) (p : Packet) → l < m.net.links → (j : ℕ) → j < m.net.links → l ≢ j
      → pushed_on m.net (put m.state (m.net.link l).from (puts (m.state (m.net.link l).from) (outgoing (m.net.link l).output p))) j ≡ pushed_on m.net m.state j
  push_others l p lt j within other =
      pushed_beside m.net m.state (m.net.link l).from (puts (m.state (m.net.link l).from) (outgoing (m.net.link l).output p)) j
      (λ from. output_miss (m.net.link l).output (m.net.link j).output (m.state (m.net.link l).from).pushed p (λ e. other (w.one_output l j lt within (sym from) e)))

  pub push_popped : (l : ℕ) (p : Packet) (j : ℕ)
      → popped_from m.net (put m.state (m.net.link l).from (puts (m.state (m.net.link l).from) (outgoing (m.net.link l).output p))) j ≡ popped_from m.net m.state j
  push_popped l p j =
      popped_beside m.net m.state (m.net.link l).from (puts (m.state (m.net.link l).from) (outgoing (m.net.link l).output p)) j (λ to. refl)

  pub push_links : (l : ℕ) (p : Packet) → l < m.net.links
      → LinksAt (moved m (put m.state (m.net.link l).from (puts (m.state (m.net.link l).from) (outgoing (m.net.link l).output p))))
      (with_waiting links l (waits_on links l ++ p ∷ []))
  push_links l p lt = record {
    count = k.count;
    room = length-set links.waiting l (waits_on links l ++ p ∷ []) ∙ k.room;
    ends = k.ends;
    size = k.size;
    capacity = k.capacity;
    waits = λ j within. go j within (cases_eq l j);
  }
    where
      here : pushed_on m.net (put m.state (m.net.link l).from (puts (m.state (m.net.link l).from) (outgoing (m.net.link l).output p))) l
          ≡ popped_from m.net (put m.state (m.net.link l).from (puts (m.state (m.net.link l).from) (outgoing (m.net.link l).output p))) l
          ++ waits_on (with_waiting links l (waits_on links l ++ p ∷ [])) l
      here =
          ap (λ (b : At). on_output (m.net.link l).output b.pushed)
          (put_hit m.state (m.net.link l).from (puts (m.state (m.net.link l).from) (outgoing (m.net.link l).output p)))
          ∙ output_hit (m.net.link l).output (m.state (m.net.link l).from).pushed p ∙ ap (λ z. z ++ p ∷ []) (k.waits l lt)
          ∙ append_assoc (popped_from m.net m.state l) (waits_on links l) (p ∷ [])
          ∙ ap (λ z. z ++ (waits_on links l ++ p ∷ [])) (sym (push_popped l p l))
          ∙ ap (λ z. popped_from m.net (put m.state (m.net.link l).from (puts (m.state (m.net.link l).from) (outgoing (m.net.link l).output p))) l ++ z)
          (sym (waits-set links l (waits_on links l ++ p ∷ []) (subst (λ n. l < n) (sym k.room) lt)))

      go : (j : ℕ) → j < m.net.links → ((l ≡ j) ⊎ (l ≢ j))
          → pushed_on m.net (put m.state (m.net.link l).from (puts (m.state (m.net.link l).from) (outgoing (m.net.link l).output p))) j
          ≡ popped_from m.net (put m.state (m.net.link l).from (puts (m.state (m.net.link l).from) (outgoing (m.net.link l).output p))) j
          ++ waits_on (with_waiting links l (waits_on links l ++ p ∷ [])) j
      go j within (inl same) = subst (λ z. pushed_on m.net (put m.state (m.net.link l).from (puts (m.state (m.net.link l).from) (outgoing (m.net.link l).output p))) z
          ≡ popped_from m.net (put m.state (m.net.link l).from (puts (m.state (m.net.link l).from) (outgoing (m.net.link l).output p))) z
          ++ waits_on (with_waiting links l (waits_on links l ++ p ∷ [])) z) same here
      go j within (inr other) =
          push_others l p lt j within other ∙ k.waits j within ∙ ap (λ z. z ++ waits_on links j) (sym (push_popped l p j))
          ∙ ap (λ z. popped_from m.net (put m.state (m.net.link l).from (puts (m.state (m.net.link l).from) (outgoing (m.net.link l).output p))) j ++ z)
          (sym (waits-other links l j (waits_on links l ++ p ∷ []) other))
