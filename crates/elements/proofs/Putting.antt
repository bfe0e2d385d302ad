-- A packet is put.
use Rattle.std.proofs.Common.{ℕ, zero, suc, ◌+◌, ◌<◌, ◌≤◌, ◌==◌, ◌||◌, Bool, true, false, cond, List, [], ◌∷◌, ◌++◌, ◌≡◌, drop, length, refl, sym, ap, ◌∙◌, append-nil, arith, Option, Some, None, slice_get}
use Rattle.std.specs.Option.{MatchOption}
use Rattle.std.proofs.lemmas.Bool.{cond-true, cond-false, eq-eqb, eqb-true, ne_eqb}
use Rattle.std.specs.List.{list_any}
use Rattle.spl_value.specs.declared.packet.Packet.{Packet}
use Rattle.spl_value.specs.declared.packet.Packet.TheVariants as P
use Rattle.spl_value.specs.declared.value.Value.{Value}
use Rattle.spl_value.specs.Numbered.{is_last}
use Rattle.stream_model.specs.Operators.{Operator}
use Rattle.stream_model.specs.Sending.{on_output, outgoing}
use Rattle.stream_model.specs.Stream.{Event}
use Rattle.stream_model.specs.declared.outgoing.Outgoing.{Outgoing}
use Rattle.network_model.specs.Networks.{Part, outputs}
use Rattle.network_model.specs.Packets.{has_last}
use Rattle.network_model.specs.Receipts.{Receipt}
use Rattle.network_model.specs.States.{At, cuts_from, puts}
use Rattle.network_model.proofs.ElementRule.{rule-puts, rule-unputs}
use Rattle.stream_model.proofs.Outputs.{on_output-append}
use Rattle.element_notes.specs.Endings.{sent_on}
use Rattle.element_notes.specs.Noting.{HasNoted}
use Rattle.element_notes.specs.declared.notes.Notes.{Notes}
use Rattle.element_outboxes.specs.Waiting.{IsFree, waits}
use Rattle.element_outboxes.specs.declared.outbox.Outbox.{Outbox}
use Rattle.elements.specs.declared.element.Element.{Element}
use Rattle.elements.specs.declared.output.Output.{Output}
use Rattle.elements.specs.Outputs.{IsPut, IsSet, first_open}
use Rattle.elements.specs.Standing.{IsAt, IsSpent, WasPut}

any-more : (ps : List Packet) (p : Packet) → list_any is_last (ps ++ p ∷ []) ≡ (list_any is_last ps || is_last p)
any-more [] p = go (is_last p)
  where
    go : (b : Bool) → (b || false) ≡ (false || b)
    go true = refl
    go false = refl
any-more (q ∷ ps) p = ap (λ b. is_last q || b) (any-more ps p) ∙ go (is_last q) (list_any is_last ps) (is_last p)
  where
    go : (a b c : Bool) → (a || (b || c)) ≡ ((a || b) || c)
    go true b c = refl
    go false b c = refl

pub last-put : (o : ℕ) (pushed : List Outgoing) (s : Outgoing) → has_last (on_output o (pushed ++ s ∷ [])) ≡ cond (s.output == o) (has_last (on_output o pushed) || is_last s.packet) (has_last (on_output o pushed))
last-put o pushed s = ap has_last (on_output-append o pushed (s ∷ [])) ∙ go (s.output == o)
  where
    go : (b : Bool) → has_last (on_output o pushed ++ cond b (s.packet ∷ []) []) ≡ cond b (has_last (on_output o pushed) || is_last s.packet) (has_last (on_output o pushed))
    go true = any-more (on_output o pushed) s.packet
    go false = ap has_last (append-nil (on_output o pushed))

-- ---- an element that is cut

abbrev Tells : ℕ → List Output → List Outgoing → Type 0
Tells o outs pushed = (i : ℕ) (x : Output) → slice_get outs i ≡ Some x → x.ended ≡ has_last (on_output (o + i) pushed)

tells_rest : (o : ℕ) (x : Output) (outs : List Output) (pushed : List Outgoing) → Tells o (x ∷ outs) pushed → Tells (suc o) outs pushed
tells_rest o x outs pushed t i y got = t (suc i) y got ∙ ap (λ n. has_last (on_output n pushed)) (let z : o + suc i ≡ suc o + i = omega arith in z)

tells_first : (o : ℕ) (x : Output) (outs : List Output) (pushed : List Outgoing) → Tells o (x ∷ outs) pushed → has_last (on_output o pushed) ≡ x.ended
tells_first o x outs pushed t = ap (λ n. has_last (on_output n pushed)) (let z : o ≡ o + 0 = omega arith in z) ∙ sym (t 0 x refl)

cuts_none : (o : ℕ) (outs : List Output) (pushed : List Outgoing) → first_open o outs ≡ None → Tells o outs pushed → cuts_from o (length outs) pushed ≡ []
cuts_none o [] pushed none t = refl
cuts_none o (x ∷ outs) pushed none t = go x.ended refl none (λ n. cuts_none (suc o) outs pushed n (tells_rest o x outs pushed t))
  where
    go : (b : Bool) → x.ended ≡ b → cond b (first_open (suc o) outs) (Some o) ≡ None → (first_open (suc o) outs ≡ None → cuts_from (suc o) (length outs) pushed ≡ [])
        → cond (has_last (on_output o pushed)) (cuts_from (suc o) (length outs) pushed) (outgoing o P.Cut ∷ cuts_from (suc o) (length outs) pushed) ≡ []
    go true e n ih = cond-true (has_last (on_output o pushed)) _ _ (tells_first o x outs pushed t ∙ e) ∙ ih n
    go false e n ih = cc

-- what is put on an earlier output doesn't matter
cuts_same : (o n k : ℕ) (pushed : List Outgoing) → k < o → cuts_from o n (pushed ++ outgoing k P.Cut ∷ []) ≡ cuts_from o n pushed
cuts_same o zero k pushed lt = refl
cuts_same o (suc n) k pushed lt =
    let same : has_last (on_output o (pushed ++ outgoing k P.Cut ∷ [])) ≡ has_last (on_output o pushed) = last-put o pushed (outgoing k P.Cut) ∙ cond-false (k == o) _ _ (ne_eqb k o (λ e. omega arith)) in
    ap (λ b. cond b (cuts_from (suc o) n (pushed ++ outgoing k P.Cut ∷ [])) (outgoing o P.Cut ∷ cuts_from (suc o) n (pushed ++ outgoing k P.Cut ∷ []))) same
    ∙ ap (λ ss. cond (has_last (on_output o pushed)) ss (outgoing o P.Cut ∷ ss)) (cuts_same (suc o) n k pushed (omega arith))

at_least : (o : ℕ) (outs : List Output) (k : ℕ) → first_open o outs ≡ Some k → o ≤ k
at_least o [] k e = cc
at_least o (x ∷ outs) k e = go x.ended e (λ q. at_least (suc o) outs k q)
  where
    go : (b : Bool) → cond b (first_open (suc o) outs) (Some o) ≡ Some k → (first_open (suc o) outs ≡ Some k → suc o ≤ k) → o ≤ k
    go true e ih = let z : suc o ≤ k = ih e in omega arith
    go false e ih = let z : o ≡ k = cc in omega arith

cuts_first : (o : ℕ) (outs : List Output) (pushed : List Outgoing) (k : ℕ) → first_open o outs ≡ Some k → Tells o outs pushed
    → (rest : List Outgoing) × (cuts_from o (length outs) pushed ≡ outgoing k P.Cut ∷ rest) × (cuts_from o (length outs) (pushed ++ outgoing k P.Cut ∷ []) ≡ rest)
cuts_first o [] pushed k e t = absurd (cc)
cuts_first o (x ∷ outs) pushed k e t = go x.ended refl e (λ q. cuts_first (suc o) outs pushed k q (tells_rest o x outs pushed t))
  where
    go : (b : Bool) → x.ended ≡ b → cond b (first_open (suc o) outs) (Some o) ≡ Some k
        → (first_open (suc o) outs ≡ Some k → (rest : List Outgoing) × (cuts_from (suc o) (length outs) pushed ≡ outgoing k P.Cut ∷ rest) × (cuts_from (suc o) (length outs) (pushed ++ outgoing k P.Cut ∷ []) ≡ rest))
        → (rest : List Outgoing) × (cuts_from o (suc (length outs)) pushed ≡ outgoing k P.Cut ∷ rest) × (cuts_from o (suc (length outs)) (pushed ++ outgoing k P.Cut ∷ []) ≡ rest)
    go true q e ih =
        let r = ih e in
        let after : suc o ≤ k = at_least (suc o) outs k e in
        let here : has_last (on_output o pushed) ≡ true = tells_first o x outs pushed t ∙ q in
        let still : has_last (on_output o (pushed ++ outgoing k P.Cut ∷ [])) ≡ true = last-put o pushed (outgoing k P.Cut) ∙ cond-false (k == o) _ _ (ne_eqb k o (λ f. omega arith)) ∙ here in
        (r.0, cond-true (has_last (on_output o pushed)) _ _ here ∙ r.1, cond-true (has_last (on_output o (pushed ++ outgoing k P.Cut ∷ []))) _ _ still ∙ r.2)
    go false q e ih =
        let is : o ≡ k = cc in
        let here : has_last (on_output o pushed) ≡ false = tells_first o x outs pushed t ∙ q in
        let closed : has_last (on_output o (pushed ++ outgoing k P.Cut ∷ [])) ≡ true = last-put o pushed (outgoing k P.Cut) ∙ cond-true (k == o) _ _ (eq-eqb k o (sym is)) ∙ either (has_last (on_output o pushed)) in (
          cuts_from (suc o) (length outs) pushed,
          cond-false (has_last (on_output o pushed)) _ _ here ∙ ap (λ j. outgoing j P.Cut ∷ cuts_from (suc o) (length outs) pushed) is,
          cond-true (has_last (on_output o (pushed ++ outgoing k P.Cut ∷ []))) _ _ closed ∙ cuts_same (suc o) (length outs) k pushed (omega arith),
        )
      where
        either : (b : Bool) → (b || true) ≡ true
        either true = refl
        either false = refl

tells_all : (outs : List Output) (pushed : List Outgoing) → ((o : ℕ) (x : Output) → slice_get outs o ≡ Some x → x.ended ≡ has_last (on_output o pushed)) → Tells 0 outs pushed
tells_all outs pushed is i x got = is i x got ∙ ap (λ n. has_last (on_output n pushed)) (let z : i ≡ 0 + i = omega arith in z)

module _ {R : Type 0} (spec : R → Operator) (stands : R → List Event → Type 0) where
  -- the element behind a packet that was put
  abbrev pub handed_out : Element R → Outbox → List Output → Bool → ℕ → Notes → Element R
  handed_out e outbox outs was n notes = record { alloc = e.alloc; work = e.work; ins = e.ins; inputs = e.inputs; reads = e.reads; fans = e.fans; outbox = outbox; outputs = outs; was_ended = was; was_sent = n; tuples = e.tuples; notes = notes; cut = e.cut }

  -- what its notes say of a packet that was put
  abbrev pub NotesPut : Notes → Notes → ℕ → Outgoing → Type 0
  NotesPut old new n s = (part : Part) (kept : List Receipt) (pushed : List Outgoing) (poured : List (List Value)) → HasNoted part old kept pushed poured
      → HasNoted part new kept (pushed ++ s ∷ []) poured × (s.output < outputs part → n ≡ sent_on s.output pushed)

  put_spent : (e : Element R) (outbox : Outbox) (outs : List Output) (was : Bool) (n : ℕ) (notes : Notes) (s : Outgoing) → NotesPut e.notes notes n s → IsPut s.output s.packet e.outputs outs → (part : Part) (a : At) (poured : List (List Value)) → IsSpent part e a poured
      → (rest : List Outgoing) → a.outbox ≡ s ∷ rest → (a.cut ≡ true → drop 1 a.outbox ≡ cuts_from 0 (outputs part) (a.pushed ++ s ∷ [])) → IsSpent part (handed_out e outbox outs was n notes) (puts a s) poured
  put_spent e outbox outs was n notes s notes_put noted part a poured spent rest first cuts = record {
    cut = spent.cut;
    input_count = spent.input_count;
    taken = spent.taken;
    schema_count = spent.schema_count;
    proper = spent.proper;
    output_count = noted.count ∙ spent.output_count;
    put = λ o y got. (
        let x = noted.each o y got in
        x.2 ∙ ap (λ b. cond (s.output == o) (b || is_last s.packet) b) (spent.put o x.0 x.1) ∙ sym (last-put o a.pushed s));
    few = spent.few;
    rule = rule-puts part a s rest first spent.rule;
    cuts = cuts;
    closed = spent.closed;
    front = spent.front;
    notes = (notes_put part a.kept a.pushed poured spent.notes).0;
  }

  put_before : (e : Element R) (outs : List Output) (was : Bool) (s : Outgoing) → IsPut s.output s.packet e.outputs outs → ((x : Output) → slice_get e.outputs s.output ≡ Some x → was ≡ x.ended)
      → (part : Part) (a : At) (poured : List (List Value)) → IsSpent part e a poured → (y : Output) → slice_get outs s.output ≡ Some y → was ≡ has_last (on_output s.output a.pushed)
  put_before e outs was s noted before part a poured spent y got = let x = noted.each s.output y got in before x.0 x.1 ∙ spent.put s.output x.0 x.1

  pub put_one : (e : Element R) (outbox : Outbox) (outs : List Output) (was : Bool) (n : ℕ) (notes : Notes) (s : Outgoing) → NotesPut e.notes notes n s → waits e.outbox ≡ s ∷ waits outbox → IsFree outbox → IsPut s.output s.packet e.outputs outs
      → ((x : Output) → slice_get e.outputs s.output ≡ Some x → was ≡ x.ended) → e.cut ≡ false
      → (part : Part) (a : At) (poured : List (List Value)) → IsAt spec stands part e a poured
      → WasPut part (handed_out e outbox outs was n notes) a s × IsAt spec stands part (handed_out e outbox outs was n notes) (puts a s) poured
  put_one e outbox outs was n notes s notes_put taken free noted before cut part a poured at =
      let uncut : a.cut ≡ false = sym at.spent.cut ∙ cut in
      let first : a.outbox ≡ s ∷ waits outbox = at.outbox uncut ∙ taken in (
        record {
          rest = waits outbox;
          front = first;
          cuts = at.spent.cuts;
          before = put_before e outs was s noted before part a poured at.spent;
          free = λ q. free;
          sent = (notes_put part a.kept a.pushed poured at.spent.notes).1;
        },
        record {
          spent = put_spent e outbox outs was n notes s notes_put noted part a poured at.spent (waits outbox) first (λ q. let clash : true ≡ false = sym q ∙ uncut in cc);
          outbox = λ q. ap (drop 1) first;
          tuples = at.tuples;
          kept = at.kept;
          none_dropped = at.none_dropped;
          reads = at.reads;
          work = at.work;
        },
      )

  pub put_cut_one : (e : Element R) (outs : List Output) (was : Bool) (n : ℕ) (notes : Notes) (k : ℕ) → NotesPut e.notes notes n (outgoing k P.Cut) → e.cut ≡ true → first_open 0 e.outputs ≡ Some k → IsPut k P.Cut e.outputs outs
      → ((x : Output) → slice_get e.outputs k ≡ Some x → was ≡ x.ended)
      → (part : Part) (a : At) (poured : List (List Value)) → IsAt spec stands part e a poured
      → WasPut part (handed_out e e.outbox outs was n notes) a (outgoing k P.Cut) × IsAt spec stands part (handed_out e e.outbox outs was n notes) (puts a (outgoing k P.Cut)) poured
  put_cut_one e outs was n notes k notes_put cut opened noted before part a poured at =
      let is : a.cut ≡ true = sym at.spent.cut ∙ cut in
      let c = cuts_first 0 e.outputs a.pushed k opened (tells_all e.outputs a.pushed at.spent.put) in
      let count : length e.outputs ≡ outputs part = at.spent.output_count in
      let first : a.outbox ≡ outgoing k P.Cut ∷ c.0 = at.spent.cuts is ∙ ap (λ n. cuts_from 0 n a.pushed) (sym count) ∙ c.1 in (
        record {
          rest = c.0;
          front = first;
          cuts = at.spent.cuts;
          before = put_before e outs was (outgoing k P.Cut) noted before part a poured at.spent;
          free = λ q. absurd (let clash : true ≡ false = sym is ∙ q in cc);
          sent = (notes_put part a.kept a.pushed poured at.spent.notes).1;
        },
        record {
          spent = put_spent e e.outbox outs was n notes (outgoing k P.Cut) notes_put noted part a poured at.spent c.0 first (λ q. ap (drop 1) first ∙ sym c.2 ∙ ap (λ n. cuts_from 0 n (a.pushed ++ outgoing k P.Cut ∷ [])) count);
          outbox = λ q. let clash : true ≡ false = sym is ∙ q in cc;
          tuples = at.tuples;
          kept = at.kept;
          none_dropped = at.none_dropped;
          reads = at.reads;
          work = at.work;
        },
      )

  pub none_cut : (e : Element R) → e.cut ≡ true → first_open 0 e.outputs ≡ None → (part : Part) (a : At) (poured : List (List Value)) → IsAt spec stands part e a poured → a.outbox ≡ []
  none_cut e cut none part a poured at =
      at.spent.cuts (sym at.spent.cut ∙ cut) ∙ ap (λ n. cuts_from 0 n a.pushed) (sym at.spent.output_count)
      ∙ cuts_none 0 e.outputs a.pushed none (tells_all e.outputs a.pushed at.spent.put)

  pub front_cut : (e : Element R) (r : Option ℕ) → e.cut ≡ true → r ≡ first_open 0 e.outputs → (part : Part) (a : At) (poured : List (List Value)) → IsAt spec stands part e a poured
      → MatchOption r (a.outbox ≡ []) (λ o. (s : Outgoing) × (rest : List Outgoing) × (a.outbox ≡ s ∷ rest) × (s.output ≡ o))
  front_cut e None cut first part a poured at = none_cut e cut (sym first) part a poured at
  front_cut e (Some k) cut first part a poured at =
      let c = cuts_first 0 e.outputs a.pushed k (sym first) (tells_all e.outputs a.pushed at.spent.put) in
      (outgoing k P.Cut, c.0, at.spent.cuts (sym at.spent.cut ∙ cut) ∙ ap (λ n. cuts_from 0 n a.pushed) (sym at.spent.output_count) ∙ c.1, refl)

  pub unput_one : (e : Element R) (outbox : Outbox) (outs : List Output) (notes : Notes) (s : Outgoing)
      → ((part : Part) (kept : List Receipt) (pushed : List Outgoing) (poured : List (List Value)) → HasNoted part e.notes kept (pushed ++ s ∷ []) poured → (s.output < outputs part → e.was_sent ≡ sent_on s.output pushed) → HasNoted part notes kept pushed poured)
      → IsSet s.output e.was_ended e.outputs outs → (e.cut ≡ false → IsFree e.outbox → waits outbox ≡ s ∷ waits e.outbox)
      → (part : Part) (a : At) (poured : List (List Value)) → WasPut part e a s → IsAt spec stands part e (puts a s) poured
      → IsAt spec stands part (handed_out e outbox outs e.was_ended e.was_sent notes) a poured
  unput_one e outbox outs notes s notes_back set back part a poured was at = record {
    spent = record {
      cut = at.spent.cut;
      input_count = at.spent.input_count;
      taken = at.spent.taken;
      schema_count = at.spent.schema_count;
      proper = at.spent.proper;
      output_count = set.count ∙ at.spent.output_count;
      put = λ o y got. (
          let x = set.each o y got in
          x.2 ∙ ended o (s.output == o) refl x.0 x.1);
      few = at.spent.few;
      rule = rule-unputs part a s was.rest was.front at.spent.rule;
      cuts = was.cuts;
      closed = at.spent.closed;
      front = at.spent.front;
      notes = notes_back part a.kept a.pushed poured at.spent.notes was.sent;
    };
    outbox = λ q. was.front ∙ ap (λ z. s ∷ z) (sym (ap (drop 1) was.front) ∙ at.outbox q) ∙ sym (back (at.spent.cut ∙ q) (was.free q));
    tuples = at.tuples;
    kept = at.kept;
    none_dropped = at.none_dropped;
    reads = at.reads;
    work = at.work;
  }
    where
      ended : (o : ℕ) (b : Bool) → (s.output == o) ≡ b → (x : Output) → slice_get e.outputs o ≡ Some x → cond b e.was_ended x.ended ≡ has_last (on_output o a.pushed)
      ended o true q x got =
          let same : s.output ≡ o = eqb-true s.output o q in
          was.before x (ap (slice_get e.outputs) same ∙ got) ∙ ap (λ n. has_last (on_output n a.pushed)) same
      ended o false q x got = at.spent.put o x got ∙ last-put o a.pushed s ∙ cond-false (s.output == o) _ _ q
