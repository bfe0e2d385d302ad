-- Marks behind an event: those of an element are refreshed, and other events are enabled as before.
use Rattle.std.proofs.Common.{◌≡◌, ◌≢◌, ◌<◌, ◌+◌, ◌==◌, ◌⊎◌, inl, inr, ℕ, Bool, true, false, ◌&&◌, List, [], ◌∷◌, length, slice_get, Some, None, refl, sym, ap, subst, ◌∙◌, nat_lt}
use Rattle.std.specs.Prelude.{is_some}
use Rattle.std.proofs.lemmas.Bool.{and_right, cases_eq, cond-false, ne_eqb}
use Rattle.spl_value.specs.declared.packet.Packet.{Packet}
use Rattle.stream_model.specs.Sending.{outgoing}
use Rattle.stream_model.specs.declared.outgoing.Outgoing.{Outgoing}
use Rattle.network_model.specs.Networks.{Net}
use Rattle.network_model.specs.Picking.{Choice, PopAt, PushAt, ReadAt, front_for, may_happen, may_pop, may_read}
use Rattle.network_model.specs.Receipts.{popped}
use Rattle.network_model.specs.States.{At, State, all_taken, popped_from, pushed_on, put}
use Rattle.enabled_events.specs.Marks.{AreRighted, IsEvent, IsRefreshed, IsRight, MarksAt}
use Rattle.enabled_events.proofs.Righting.{right_stays, righted_then}
use Rattle.net_core.proofs.Putting.{put_miss}

-- ---- what stays

module _ (net : Net) (st : State) (e : ℕ) (a : At) where
  read-same : (k : ℕ) → k ≢ e → may_happen net (put st e a) (ReadAt k) ≡ may_happen net st (ReadAt k)
  read-same k other = ap (λ b. nat_lt k net.size && may_read (net.part k) b) (put_miss st e k a (λ q. other (sym q)))

  pop-same : (l : ℕ) → (net.link l).to ≢ e → pushed_on net (put st e a) l ≡ pushed_on net st l → may_happen net (put st e a) (PopAt l) ≡ may_happen net st (PopAt l)
  pop-same l other pushed =
      ap (λ b. nat_lt l net.links && (may_pop (net.part (net.link l).to) b (net.link l).input
      && is_some (slice_get (pushed_on net (put st e a) l) (length (popped (net.link l).input (all_taken b))))))
      (put_miss st e (net.link l).to a (λ q. other (sym q)))
      ∙ ap (λ ps. nat_lt l net.links && (may_pop (net.part (net.link l).to) (st (net.link l).to) (net.link l).input
      && is_some (slice_get ps (length (popped_from net st l))))) pushed

  push-same : (l : ℕ) → (net.link l).from ≢ e → pushed_on net (put st e a) l ≡ pushed_on net st l → popped_from net (put st e a) l ≡ popped_from net st l
      → may_happen net (put st e a) (PushAt l) ≡ may_happen net st (PushAt l)
  push-same l other pushed popped-same =
      ap (λ ps. nat_lt l net.links && (nat_lt (length ps) (net.capacity + length (popped_from net (put st e a) l))
      && is_some (front_for (net.link l).output (put st e a (net.link l).from).outbox))) pushed
      ∙ ap (λ ps. nat_lt l net.links && (nat_lt (length (pushed_on net st l)) (net.capacity + length ps)
      && is_some (front_for (net.link l).output (put st e a (net.link l).from).outbox))) popped-same
      ∙ ap (λ (b : At). nat_lt l net.links && (nat_lt (length (pushed_on net st l)) (net.capacity + length (popped_from net st l))
      && is_some (front_for (net.link l).output b.outbox))) (put_miss st e (net.link l).from a (λ q. other (sym q)))

-- nothing is pushed on a link for which nothing comes first
push-none : (net : Net) (st : State) (l e : ℕ) → (net.link l).from ≡ e → is_some (front_for (net.link l).output (st e).outbox) ≡ false → may_happen net st (PushAt l) ≡ false
push-none net st l e from none =
    let here = ap (λ k. is_some (front_for (net.link l).output (st k).outbox)) from ∙ none in
    and_right (nat_lt l net.links) _ (and_right (nat_lt (length (pushed_on net st l)) (net.capacity + length (popped_from net st l))) _ here)

-- ---- all marks

-- a mark is right, or its event is enabled as before
abbrev pub IsSettled : Net → State → State → List Bool → Choice → Type 0
IsSettled net st after new c = IsRight net after new c ⊎ (may_happen net after c ≡ may_happen net st c)

pub marks_after : (net : Net) (st after : State) (old new : List Bool) → MarksAt net st old → AreRighted net after old new
    → ((c : Choice) → IsEvent net c → IsSettled net st after new c) → MarksAt net after new
marks_after net st after old new k righted settled = record { count = righted.count ∙ k.count; each = λ c ev. go c ev (settled c ev) }
  where
    go : (c : Choice) → IsEvent net c → IsSettled net st after new c → IsRight net after new c
    go c ev (inl right) = right
    go c ev (inr same) = right_stays net after old new c righted ev (k.each c ev ∙ ap Some (sym same))

module _ (net : Net) (st : State) (e : ℕ) (a : At) (old mid new : List Bool) (r : IsRefreshed net (put st e a) e old mid) (more : AreRighted net (put st e a) mid new)
    (pushes : (l : ℕ) → l < net.links → (net.link l).from ≡ e → IsRight net (put st e a) new (PushAt l) ⊎ (is_some (front_for (net.link l).output (st e).outbox) ≡ false))
    (pops : (l : ℕ) → l < net.links → (net.link l).to ≢ e → IsRight net (put st e a) new (PopAt l) ⊎ (pushed_on net (put st e a) l ≡ pushed_on net st l))
    (others : (l : ℕ) → l < net.links → (net.link l).from ≢ e → IsRight net (put st e a) new (PushAt l)
    ⊎ ((pushed_on net (put st e a) l ≡ pushed_on net st l) × (popped_from net (put st e a) l ≡ popped_from net st l))) where
  settled : (c : Choice) → IsEvent net c → IsSettled net st (put st e a) new c
  settled (ReadAt k) ev = go (cases_eq k e)
    where
      go : ((k ≡ e) ⊎ (k ≢ e)) → IsSettled net st (put st e a) new (ReadAt k)
      go (inl same) = inl (right_stays net (put st e a) mid new (ReadAt k) more ev (subst (λ z. IsRight net (put st e a) mid (ReadAt z)) (sym same) r.reads))
      go (inr other) = inr (read-same net st e a k other)
  settled (PopAt l) ev = go (cases_eq (net.link l).to e)
    where
      beside : (net.link l).to ≢ e → (IsRight net (put st e a) new (PopAt l) ⊎ (pushed_on net (put st e a) l ≡ pushed_on net st l))
          → IsSettled net st (put st e a) new (PopAt l)
      beside other (inl right) = inl right
      beside other (inr same) = inr (pop-same net st e a l other same)

      go : (((net.link l).to ≡ e) ⊎ ((net.link l).to ≢ e)) → IsSettled net st (put st e a) new (PopAt l)
      go (inl to) = inl (right_stays net (put st e a) mid new (PopAt l) more ev (r.pops l ev to))
      go (inr other) = beside other (pops l ev other)
  settled (PushAt l) ev = go (cases_eq (net.link l).from e)
    where
      beside : (net.link l).from ≢ e → (IsRight net (put st e a) new (PushAt l)
          ⊎ ((pushed_on net (put st e a) l ≡ pushed_on net st l) × (popped_from net (put st e a) l ≡ popped_from net st l)))
          → IsSettled net st (put st e a) new (PushAt l)
      beside other (inl right) = inl right
      beside other (inr same) = inr (push-same net st e a l other same.0 same.1)

      from-it : (net.link l).from ≡ e → (b : Bool) → is_some (front_for (net.link l).output (put st e a e).outbox) ≡ b
          → (IsRight net (put st e a) new (PushAt l) ⊎ (is_some (front_for (net.link l).output (st e).outbox) ≡ false)) → IsSettled net st (put st e a) new (PushAt l)
      from-it from true q x = inl (right_stays net (put st e a) mid new (PushAt l) more ev (r.pushes l ev from q))
      from-it from false q (inl right) = inl right
      from-it from false q (inr none) = inr (push-none net (put st e a) l e from q ∙ sym (push-none net st l e from none))

      go : (((net.link l).from ≡ e) ⊎ ((net.link l).from ≢ e)) → IsSettled net st (put st e a) new (PushAt l)
      go (inl from) = from-it from (is_some (front_for (net.link l).output (put st e a e).outbox)) refl (pushes l ev from)
      go (inr other) = beside other (others l ev other)

  pub all_right : MarksAt net st old → MarksAt net (put st e a) new
  all_right k = marks_after net st (put st e a) old new k (righted_then net (put st e a) old mid new r.righted more) settled

-- nothing comes first on another output
pub other_front : (outbox : List Outgoing) (o q : ℕ) (p : Packet) (rest : List Outgoing) → outbox ≡ outgoing o p ∷ rest → o ≢ q → is_some (front_for q outbox) ≡ false
other_front outbox o q p rest are other = ap (λ z. is_some (front_for q z)) are ∙ ap is_some (cond-false (o == q) (Some p) None (ne_eqb o q other))

pub no_first : (outbox : List Outgoing) (q : ℕ) → outbox ≡ [] → is_some (front_for q outbox) ≡ false
no_first outbox q none = ap (λ z. is_some (front_for q z)) none
