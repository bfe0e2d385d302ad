-- Elements of which one changes.
use Rattle.std.proofs.Common.{◌≡◌, ◌≢◌, ◌<◌, ◌==◌, ◌⊎◌, inl, inr, ℕ, Bool, true, false, List, [], ◌∷◌, ◌++◌, set, slice_get, Option, Some, None, refl, sym, ap, subst, ◌∙◌, length-set, append_assoc, append-nil, cond}
use Rattle.std.specs.Prelude.{MatchOption}
use Rattle.std.proofs.lemmas.Bool.{cases_eq, cond-false, cond-true, eq-eqb, ne_eqb}
use Rattle.spl_value.specs.declared.packet.Packet.{Packet}
use Rattle.stream_model.specs.Operators.{Operator}
use Rattle.stream_model.specs.Sending.{outgoing}
use Rattle.stream_model.specs.Stream.{Event}
use Rattle.stream_model.specs.declared.outgoing.Outgoing.{Outgoing}
use Rattle.network_model.specs.Networks.{Part, outputs}
use Rattle.network_model.specs.Receipts.{Receipt}
use Rattle.network_model.specs.States.{At, State, all_taken, cut_off, cuts_from, drops, is_cut_receipt, keeps, lacks, put, puts, takes}
use Rattle.elements.specs.Standing.{IsAt, WasPut, schemas_of}
use Rattle.elements.specs.declared.element.Element.{Element}
use Rattle.link_queues.proofs.Listing.{get_set, get_set_other}
use Rattle.enabled_events.specs.Moments.{Moment, moved}
use Rattle.enabled_events.specs.Standing.{ElementAt, ElementsAt}
use Rattle.net_core.specs.Stepping.{taking}

-- ---- states

pub put_hit : (st : State) (e : ℕ) (a : At) → put st e a e ≡ a
put_hit st e a = cond-true (e == e) a (st e) (eq-eqb e e refl)

pub put_miss : (st : State) (e f : ℕ) (a : At) → e ≢ f → put st e a f ≡ st f
put_miss st e f a other = cond-false (f == e) a (st f) (ne_eqb f e (λ q. other (sym q)))

-- ---- elements

module _ {R : Type 0} (spec : R → Operator) (stands : R → List Event → Type 0) (m : Moment) (elements : List (Element R)) (e : ℕ) (x : Element R) (a : At)
    (k : ElementsAt spec stands m elements) (lt : e < m.net.size) where
  pub elements_put : IsAt spec stands (m.net.part e) x a (m.poured e) → schemas_of x ≡ m.schemas e → ElementsAt spec stands (moved m (put m.state e a)) (set elements e x)
  elements_put at schemas = record { count = length-set elements e x ∙ k.count; each = λ f y got. go f y got (cases_eq e f) }
    where
      here : ElementAt spec stands (moved m (put m.state e a)) e x
      here = record { at = subst (λ b. IsAt spec stands (m.net.part e) x b (m.poured e)) (sym (put_hit m.state e a)) at; schemas = schemas }

      go : (f : ℕ) (y : Element R) → slice_get (set elements e x) f ≡ Some y → ((e ≡ f) ⊎ (e ≢ f)) → ElementAt spec stands (moved m (put m.state e a)) f y
      go f y got (inl same) =
          let both : Some x ≡ Some y = sym (get_set elements e x (subst (λ n. e < n) (sym k.count) lt)) ∙ ap (slice_get (set elements e x)) same ∙ got in
          let is : x ≡ y = cc in
          subst (λ z. ElementAt spec stands (moved m (put m.state e a)) f z) is (subst (λ z. ElementAt spec stands (moved m (put m.state e a)) z x) same here)
      go f y got (inr other) =
          let old = k.each f y (sym (get_set_other elements e f x other) ∙ got) in
          record { at = subst (λ b. IsAt spec stands (m.net.part f) y b (m.poured f)) (sym (put_miss m.state e f a other)) old.at; schemas = old.schemas }

-- what an element puts
pub put_option : {R : Type 0} (spec : R → Operator) (stands : R → List Event → Type 0) (m : Moment) (elements : List (Element R)) (e : ℕ) (x : Element R)
    → ElementsAt spec stands m elements → e < m.net.size → schemas_of x ≡ m.schemas e → (r : Option (ℕ × Packet))
    → MatchOption r (((m.state e).outbox ≡ []) × IsAt spec stands (m.net.part e) x (m.state e) (m.poured e))
    (λ p. WasPut (m.net.part e) x (m.state e) (outgoing p.0 p.1) × IsAt spec stands (m.net.part e) x (puts (m.state e) (outgoing p.0 p.1)) (m.poured e))
    → MatchOption r ((m.state e).outbox ≡ [])
    (λ p. ((rest : List Outgoing) × ((m.state e).outbox ≡ outgoing p.0 p.1 ∷ rest))
    × ElementsAt spec stands (moved m (put m.state e (puts (m.state e) (outgoing p.0 p.1)))) (set elements e x))
put_option spec stands m elements e x k lt schemas None h = h.0
put_option spec stands m elements e x k lt schemas (Some p) h =
    ((h.0.rest, h.0.front), elements_put spec stands m elements e x (puts (m.state e) (outgoing p.0 p.1)) k lt h.1 schemas)

-- ---- what becomes of the lists of an element

cut_off-lists : (part : Part) (a : At) → (all_taken (cut_off part a) ≡ all_taken a) × ((cut_off part a).pushed ≡ a.pushed)
cut_off-lists part a = go a.cut
  where
    go : (b : Bool) → (all_taken (cond {A = At} b a (record { kept = a.kept; dropped = a.dropped; pushed = a.pushed; outbox = cuts_from 0 (outputs part) a.pushed; cut = true })) ≡ all_taken a)
        × ((cond {A = At} b a (record { kept = a.kept; dropped = a.dropped; pushed = a.pushed; outbox = cuts_from 0 (outputs part) a.pushed; cut = true })).pushed ≡ a.pushed)
    go true = (refl, refl)
    go false = (refl, refl)

-- what it took grows by what it takes, and what it pushed stays
abbrev pub Takes : At → Receipt → At → Type 0
Takes a taken b = (all_taken b ≡ all_taken a ++ taken ∷ []) × (b.pushed ≡ a.pushed)

drops-lists : (a : At) (taken : Receipt) → all_taken (drops a taken) ≡ all_taken a ++ taken ∷ []
drops-lists a taken = sym (append_assoc a.kept a.dropped (taken ∷ []))

lacks-lists : (part : Part) (a : At) (taken : Receipt) → Takes a taken (lacks part a taken)
lacks-lists part a taken = let c = cut_off-lists part (drops a taken) in (c.0 ∙ drops-lists a taken, c.1)

takes-lists : (part : Part) (a : At) (taken : Receipt) → (a.cut ≡ false → a.dropped ≡ []) → Takes a taken (takes part a taken)
takes-lists part a taken whole = go a.cut (is_cut_receipt taken) refl
  where
    kept : a.cut ≡ false → all_taken (keeps part a taken) ≡ all_taken a ++ taken ∷ []
    kept c =
        let none : a.dropped ≡ [] = whole c in
        ap (λ z. (a.kept ++ taken ∷ []) ++ z) none ∙ append-nil (a.kept ++ taken ∷ [])
        ∙ ap (λ z. z ++ taken ∷ []) (sym (append-nil a.kept)) ∙ ap (λ z. (a.kept ++ z) ++ taken ∷ []) (sym none)

    go : (b d : Bool) → a.cut ≡ b → Takes a taken (cond b (drops a taken) (cond d (cut_off part (drops a taken)) (keeps part a taken)))
    go true d c = (drops-lists a taken, refl)
    go false true c = lacks-lists part a taken
    go false false c = (kept c, refl)

pub taking_lists : (b : Bool) (part : Part) (a : At) (taken : Receipt) → (a.cut ≡ false → a.dropped ≡ []) → Takes a taken (taking b part a taken)
taking_lists true part a taken whole = takes-lists part a taken whole
taking_lists false part a taken whole = lacks-lists part a taken
