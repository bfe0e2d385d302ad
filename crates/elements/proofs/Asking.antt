-- What an element wants, and what it does next.
use Rattle.std.proofs.Common.{ℕ, ◌<◌, ◌&&◌, ◌||◌, not, Bool, true, false, List, [], ◌∷◌, ◌≡◌, ◌⊎◌, inl, inr, refl, sym, ap, ◌∙◌, subst, None, Some, slice_get, suc, zero}
use Rattle.spl_value.proofs.Bools.{and_parts}
use Rattle.spl_value.proofs.SegmentLaws.{not_true}
use Rattle.std.proofs.lemmas.Option.{slice_get-get_or, slice_get_within}
use Rattle.spl_value.specs.declared.packet.Packet.{Packet}
use Rattle.spl_value.specs.declared.types.Named.{Named}
use Rattle.spl_value.specs.declared.types.SplType.{SplType}
use Rattle.spl_value.specs.declared.value.Value.{Value}
use Rattle.stream_model.specs.Operators.{Operator}
use Rattle.stream_model.specs.Stream.{Event, any_closes, is_closed}
use Rattle.network_model.specs.Legal.{IsDone, wants_at}
use Rattle.network_model.specs.Networks.{Part, inputs, is_sourced}
use Rattle.network_model.specs.Packets.{has_last}
use Rattle.network_model.specs.Receipts.{popped, read_in}
use Rattle.network_model.specs.States.{At, all_taken}
use Rattle.elements.specs.declared.element.Element.{Element}
use Rattle.elements.specs.declared.input.Input.{Input}
use Rattle.elements.specs.Inputs.{all_ended, follows, new_input, noted_all}
use Rattle.elements.specs.Standing.{ComesNext, IsAt, StillReads}
use Rattle.elements.specs.Works.{HasInput, wants_more}
use Rattle.elements.proofs.Propers.{proper_last, proper_next}
use Rattle.elements.proofs.Receiving.{ended-is}
use Rattle.elements.proofs.Taking.{taken_kept}
use Rattle.elements.proofs.Working.{works_want}

ended_each : (xs : List Input) → all_ended xs ≡ true → (i : ℕ) (x : Input) → slice_get xs i ≡ Some x → x.ended ≡ true
ended_each [] all i x got = cc
ended_each (y ∷ xs) all zero x got = let same : y ≡ x = cc in ap (λ (z : Input). z.ended) (sym same) ∙ (and_parts y.ended (all_ended xs) all).0
ended_each (y ∷ xs) all (suc i) x got = ended_each xs (and_parts y.ended (all_ended xs) all).1 i x got

all_each : (xs : List Input) → ((i : ℕ) (x : Input) → slice_get xs i ≡ Some x → x.ended ≡ true) → all_ended xs ≡ true
all_each [] each = refl
all_each (y ∷ xs) each = ap (λ b. b && all_ended xs) (each 0 y refl) ∙ all_each xs (λ i x got. each (suc i) x got)

module _ {R : Type 0} (spec : R → Operator) (stands : R → List Event → Type 0) where
  -- ---- inputs

  asked : (e : Element R) (part : Part) (a : At) (poured : List (List Value)) → IsAt spec stands part e a poured → (i : ℕ) (x : Input) → slice_get e.inputs i ≡ Some x → has_last (popped i (all_taken a)) ≡ x.ended
  asked e part a poured at i x got = sym (ap (λ (z : Input). z.ended) (at.spent.taken i x got) ∙ ended-is (popped i (all_taken a)))

  pub has_input : (e : Element R) (part : Part) (a : At) (poured : List (List Value)) → IsAt spec stands part e a poured → e.cut ≡ false → (i : ℕ) → i < inputs part → HasInput e.work i
  has_input e part a poured at cut i within = (works_want spec stands part a.kept e.work e.fans e.tuples i (at.work (sym at.spent.cut ∙ cut)) within).0

  pub wants_cut : (e : Element R) (i : ℕ) (x : Input) → Some x ≡ slice_get e.inputs i → x.ended ≡ false → e.cut ≡ true → (part : Part) (a : At) (poured : List (List Value)) → IsAt spec stands part e a poured → i < inputs part
      → e.cut ≡ (not (has_last (popped i (all_taken a))) && (a.cut || wants_at part a i))
  wants_cut e i x got opened cut part a poured at within =
      cut ∙ ap (λ c. c || wants_at part a i) (sym cut ∙ at.spent.cut) ∙ ap (λ b. not b && (a.cut || wants_at part a i)) (sym (asked e part a poured at i x (sym got) ∙ opened))

  pub wants_whole : (e : Element R) (i : ℕ) (x : Input) (w : Bool) → Some x ≡ slice_get e.inputs i → x.ended ≡ false → e.cut ≡ false → w ≡ wants_more e.work i
      → (part : Part) (a : At) (poured : List (List Value)) → IsAt spec stands part e a poured → i < inputs part → w ≡ (not (has_last (popped i (all_taken a))) && (a.cut || wants_at part a i))
  wants_whole e i x w got opened cut is part a poured at within =
      let uncut : a.cut ≡ false = sym at.spent.cut ∙ cut in
      let unended : has_last (popped i (all_taken a)) ≡ false = asked e part a poured at i x (sym got) ∙ opened in
      is ∙ (works_want spec stands part a.kept e.work e.fans e.tuples i (at.work uncut) within).1 (ap (λ T. has_last (popped i T)) (sym (taken_kept spec stands a e poured part uncut at)) ∙ unended)
      ∙ ap (λ c. c || wants_at part a i) (sym uncut) ∙ ap (λ b. not b && (a.cut || wants_at part a i)) (sym unended)

  pub wants_none : (e : Element R) (i : ℕ) (x : Input) → Some x ≡ slice_get e.inputs i → x.ended ≡ true → (part : Part) (a : At) (poured : List (List Value)) → IsAt spec stands part e a poured
      → not x.ended ≡ (not (has_last (popped i (all_taken a))) && (a.cut || wants_at part a i))
  wants_none e i x got ended part a poured at = ap not ended ∙ ap (λ b. not b && (a.cut || wants_at part a i)) (sym (asked e part a poured at i x (sym got) ∙ ended))

  pub no_input : (e : Element R) (i : ℕ) → None ≡ slice_get e.inputs i → (part : Part) (a : At) (poured : List (List Value)) → IsAt spec stands part e a poured → i < inputs part → ⊥
  no_input e i none part a poured at within =
      let some = slice_get-get_or e.inputs i new_input (subst (λ n. i < n) (sym at.spent.input_count) within) in
      let clash = none ∙ some in cc

  -- ---- what it does next

  pub reads_still : (e : Element R) (part : Part) (a : At) (poured : List (List Value)) → IsAt spec stands part e a poured → (e.reads && not e.cut) ≡ true → StillReads part a
  reads_still e part a poured at on =
      let both = and_parts e.reads (not e.cut) on in
      let uncut : a.cut ≡ false = sym at.spent.cut ∙ not_true e.cut both.1 in
      let source = and_parts (is_sourced part) (not (any_closes (read_in a.kept))) (sym (at.reads uncut) ∙ both.0) in
      record { whole = uncut; sourced = source.0; unclosed = not_true (any_closes (read_in a.kept)) source.1 }

  pub reads_no_more : (e : Element R) (part : Part) (a : At) (poured : List (List Value)) → IsAt spec stands part e a poured → (e.reads && not e.cut) ≡ false → StillReads part a → ⊥
  reads_no_more e part a poured at off still =
      let reads : e.reads ≡ true = at.reads still.whole ∙ ap (λ b. b && not (any_closes (read_in a.kept))) still.sourced ∙ ap not still.unclosed in
      let on : (e.reads && not e.cut) ≡ true = ap (λ b. b && not e.cut) reads ∙ ap not (at.spent.cut ∙ still.whole) in
      let clash : false ≡ true = sym off ∙ on in cc

  pub is_done : (e : Element R) (part : Part) (a : At) (poured : List (List Value)) → IsAt spec stands part e a poured → (e.reads && not e.cut) ≡ false → all_ended e.inputs ≡ true → a.outbox ≡ [] → IsDone part a
  is_done e part a poured at off all none = record {
    inputs_end = λ i within. (
        let got = slice_get-get_or e.inputs i new_input (subst (λ n. i < n) (sym at.spent.input_count) within) in
        asked e part a poured at i _ got ∙ ended_each e.inputs all i _ got);
    source_ends = λ sourced. by_cut sourced a.cut refl;
    pushed = none;
  }
    where
      by_closed : is_sourced part ≡ true → a.cut ≡ false → (b : Bool) → any_closes (read_in a.kept) ≡ b → (a.cut ≡ true) ⊎ (is_closed (read_in a.kept) ≡ true)
      by_closed sourced uncut true q = inr (sym at.spent.closed ∙ q)
      by_closed sourced uncut false q = absurd (reads_no_more e part a poured at off (record { whole = uncut; sourced = sourced; unclosed = q }))

      by_cut : is_sourced part ≡ true → (b : Bool) → a.cut ≡ b → (a.cut ≡ true) ⊎ (is_closed (read_in a.kept) ≡ true)
      by_cut sourced true q = inl q
      by_cut sourced false q = by_closed sourced q (any_closes (read_in a.kept)) refl

  pub not_done : (e : Element R) (part : Part) (a : At) (poured : List (List Value)) → IsAt spec stands part e a poured → all_ended e.inputs ≡ false → IsDone part a → ⊥
  not_done e part a poured at off done =
      let all : all_ended e.inputs ≡ true = all_each e.inputs (λ i x got. sym (asked e part a poured at i x got) ∙ done.inputs_end i (within i x got)) in
      let clash : false ≡ true = sym off ∙ all in cc
    where
      within : (i : ℕ) (x : Input) → slice_get e.inputs i ≡ Some x → i < inputs part
      within i x got = subst (λ n. i < n) at.spent.input_count (slice_get_within e.inputs i x got)

  -- ---- what may come next

  pub may_come : (e : Element R) (i : ℕ) (p : Packet) (r : Bool) → ((x : Input) (s : List (Named SplType)) → slice_get e.inputs i ≡ Some x → slice_get e.ins i ≡ Some s → r ≡ follows s x p)
      → (part : Part) (a : At) (poured : List (List Value)) → IsAt spec stands part e a poured → i < inputs part → a.outbox ≡ []
      → (not (has_last (popped i (all_taken a))) && (a.cut || wants_at part a i)) ≡ true → (s : List (Named SplType)) → slice_get e.ins i ≡ Some s
      → (r ≡ true → ComesNext s part a i p) × (ComesNext s part a i p → r ≡ true)
  may_come e i p r is part a poured at within idle wanted s got =
      let there = slice_get-get_or e.inputs i new_input (subst (λ n. i < n) (sym at.spent.input_count) within) in
      let same : r ≡ follows s (noted_all new_input (popped i (all_taken a))) p = is _ s there got ∙ ap (λ z. follows s z p) (at.spent.taken i _ there) in (
        λ yes. record { idle = idle; wanted = wanted; proper = proper_next s (popped i (all_taken a)) p (at.spent.proper i s got) (sym same ∙ yes) },
        λ next. same ∙ proper_last s (popped i (all_taken a)) p next.proper,
      )
