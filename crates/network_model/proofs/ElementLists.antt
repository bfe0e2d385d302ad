-- The lists of an element that keeps its rule: what it took, and what it pushed on each output.
use Rattle.std.proofs.Common.{ℕ, zero, suc, ◌+◌, ◌<◌, ◌≤◌, ◌==◌, nat_lt, nat_le, Bool, true, false, cond, ◌&&◌, ◌||◌, List, [], ◌∷◌, ◌++◌, ◌≡◌, ◌⊎◌, inl, inr, refl, sym, ap, ◌∙◌, append-nil, arith, length}
use Rattle.std.specs.List.{list_all}
use Rattle.std.proofs.lemmas.Bool.{cond-true, cond-false, eq-eqb, ne_eqb, cases_lt, and_parts, and_from, lt-ltb}
use Rattle.std.proofs.lemmas.List.Folds.{list_all-append}
use Rattle.spl_value.specs.declared.packet.Packet.{Packet}
use Rattle.spl_value.specs.declared.packet.Packet.TheVariants as P
use Rattle.spl_value.specs.Numbered.{is_last, stops_once}
use Rattle.stream_model.specs.Stream.{Event, is_closed, IsPrefix}
use Rattle.stream_model.specs.Inputs.{inputs_of, came_on}
use Rattle.stream_model.specs.Operators.{Operator, ports}
use Rattle.stream_model.specs.Stages.{Stage, start, next, stage_after}
use Rattle.stream_model.specs.Meaning.{arrive}
use Rattle.stream_model.specs.Laws.{has_ended}
use Rattle.stream_model.specs.Records.{up_to_end}
use Rattle.stream_model.specs.declared.outgoing.Outgoing.{Outgoing}
use Rattle.stream_model.specs.Sending.{outgoing, on_output}
use Rattle.stream_model.proofs.Outputs.{on_output-append}
use Rattle.network_model.specs.Packets.{items_in, has_last, without_cut}
use Rattle.network_model.specs.Networks.{Part, FromSource, FromLinks, Splitter, Replica, Merger, outputs}
use Rattle.network_model.specs.Receipts.{Receipt, Popped, WasRead, popped, read_in, event_first, item_events, Taken}
use Rattle.network_model.specs.Owed.{owed, item_lists, Binds, entries_of, taken_of, owed_for}
use Rattle.network_model.specs.States.{At, all_taken, cuts_from}
use Rattle.network_model.specs.Legal.{IsDone}
use Rattle.network_model.specs.Joined.{IsRecorded, Recorded, IsCutOff, taken_at}
use Rattle.network_model.specs.PartLaws.{IsLess, IsPart, Merges}
use Rattle.network_model.specs.ElementRule.{DoneLaw, IsCutBehind, KeepsRule, MovesLaw, TakesInRange}
use Rattle.network_model.proofs.Packets.{front-trans, front-on_output, front-without_cut, without_cut-append, stops-front}
use Rattle.network_model.proofs.Arrivals.{arrive-own, front_to_end}
use Rattle.network_model.proofs.Receipts.{popped-append, read_in-append, came_on-items, front-inputs, front-popped, own-front, entries-found, found-here}
use Rattle.network_model.proofs.ElementRule.{binds-merges}

-- what is kept is less than with what was dropped
pub taken-at : (part : Part) (a : At) → IsLess (taken_of part a.kept) (taken_at part a)
taken-at part a = record {
  packets = front-popped a.kept a.dropped;
  items = (read_in a.dropped, sym (read_in-append a.kept a.dropped));
  entries = ([], append-nil (entries_of part a.kept));
  found = found-here part a.kept;
}

-- ---- records

-- an element of a list that isn't empty
event_first-named : (n j : ℕ) (p : Packet) (events : List Event) → j < n → list_all (λ i. nat_lt i n) (inputs_of events) ≡ true
    → list_all (λ i. nat_lt i n) (inputs_of (event_first j p events)) ≡ true
event_first-named n j (P.Item k x) events lt h = and_from (nat_lt j n) (list_all (λ i. nat_lt i n) (inputs_of events)) (lt-ltb j n lt) h
event_first-named n j (P.Pulse k) events lt h = h
event_first-named n j P.Close events lt h = h
event_first-named n j P.Cut events lt h = h

named-events : (n : ℕ) (T : List Receipt) → ((i : ℕ) → n ≤ i → popped i T ≡ []) → list_all (λ i. nat_lt i n) (inputs_of (item_events T)) ≡ true
named-events n [] h = refl
named-events n (WasRead x ∷ T) h = named-events n T h
named-events n (Popped j p ∷ T) h = event_first-named n j p (item_events T) (low (cases_lt j n)) (named-events n T (λ i le. rest i (j == i) (h i le)))
  where
    rest : (i : ℕ) (b : Bool) → cond b (p ∷ popped i T) (popped i T) ≡ [] → popped i T ≡ []
    rest i true e = absurd (cc)
    rest i false e = e

    low : (j < n) ⊎ (n ≤ j) → j < n
    low (inl lt) = lt
    low (inr le) =
        let there : p ∷ popped j T ≡ [] = sym (cond-true (j == j) (p ∷ popped j T) (popped j T) (eq-eqb j j refl)) ∙ h j le in absurd (cc)

front-named : (n : ℕ) (a b : List ℕ) → IsPrefix a b → list_all (λ i. nat_lt i n) b ≡ true → list_all (λ i. nat_lt i n) a ≡ true
front-named n a b p h =
    (and_parts (list_all (λ i. nat_lt i n) a) (list_all (λ i. nat_lt i n) p.0) (sym (list_all-append (λ i. nat_lt i n) a p.0) ∙ ap (list_all (λ i. nat_lt i n)) p.1 ∙ h)).0

to_end-twice : (s : Stage) (events : List Event) → up_to_end s (up_to_end s events) ≡ up_to_end s events
to_end-twice s [] = refl
to_end-twice s (e ∷ events) = go (next s e).over (to_end-twice (next s e) events)
  where
    go : (b : Bool) → up_to_end (next s e) (up_to_end (next s e) events) ≡ up_to_end (next s e) events
        → e ∷ cond b [] (up_to_end (next s e) (cond b [] (up_to_end (next s e) events))) ≡ e ∷ cond b [] (up_to_end (next s e) events)
    go true rest = refl
    go false rest = ap (λ z. e ∷ z) rest

-- the events up to the end end the operator, or they are all
to_end-cases : (s : Stage) (events : List Event) → ((stage_after s (up_to_end s events)).over ≡ true) ⊎ (up_to_end s events ≡ events)
to_end-cases s [] = inr refl
to_end-cases s (e ∷ events) = go (next s e).over refl (to_end-cases (next s e) events)
  where
    go : (b : Bool) → (next s e).over ≡ b → ((stage_after (next s e) (up_to_end (next s e) events)).over ≡ true) ⊎ (up_to_end (next s e) events ≡ events)
        → ((stage_after (next s e) (cond b [] (up_to_end (next s e) events))).over ≡ true) ⊎ (e ∷ cond b [] (up_to_end (next s e) events) ≡ e ∷ events)
    go true q rest = inl q
    go false q (inl h) = inl h
    go false q (inr h) = inr (ap (λ z. e ∷ z) h)

pub recorded-links : (op : Operator) (ops : List Operator) (outs : List ℕ) (a : At) → TakesInRange (FromLinks op ops outs) a → IsRecorded op (taken_at (FromLinks op ops outs) a) a.cut
recorded-links op ops outs a k = record {
  named = front-named (length (ports op)) (inputs_of own) (inputs_of (item_events a.kept)) own_inputs
      (named-events (length (ports op)) a.kept (λ i le. front_none (popped i a.kept) (popped i a.dropped) (sym (popped-append i a.kept a.dropped) ∙ k.in_range i le)));
  found = entries-found (FromLinks op ops outs) a.kept a.dropped;
  in_time = ap (up_to_end (start op)) arrived ∙ to_end-twice (start op) (item_events a.kept) ∙ sym arrived;
  all = λ c. all (k.none_dropped c) (to_end-cases (start op) (item_events a.kept));
}
  where
    own : List Event
    own = up_to_end (start op) (item_events a.kept)

    front_none : (xs ys : List Packet) → xs ++ ys ≡ [] → xs ≡ []
    front_none [] ys e = refl
    front_none (x ∷ xs) ys e = absurd (cc)

    own_inputs : IsPrefix (inputs_of (up_to_end (start op) (item_events a.kept))) (inputs_of (item_events a.kept))
    own_inputs = front-inputs (up_to_end (start op) (item_events a.kept)) (item_events a.kept) (front_to_end (start op) (item_events a.kept))

    arrived : arrive (item_lists (taken_at (FromLinks op ops outs) a)) (inputs_of (up_to_end (start op) (item_events a.kept))) ≡ up_to_end (start op) (item_events a.kept)
    arrived = arrive-own (up_to_end (start op) (item_events a.kept)) (item_lists (taken_at (FromLinks op ops outs) a)) (own-front op a.kept a.dropped)

    all : a.dropped ≡ [] → ((stage_after (start op) (up_to_end (start op) (item_events a.kept))).over ≡ true) ⊎ (up_to_end (start op) (item_events a.kept) ≡ item_events a.kept)
        → (has_ended op (arrive (item_lists (taken_at (FromLinks op ops outs) a)) (inputs_of (up_to_end (start op) (item_events a.kept)))) ≡ true)
        ⊎ ((i : ℕ) → i < length (ports op) → came_on (λ j. j == i) (arrive (item_lists (taken_at (FromLinks op ops outs) a)) (inputs_of (up_to_end (start op) (item_events a.kept))))
        ≡ item_lists (taken_at (FromLinks op ops outs) a) i)
    all none (inl ended) = inl (ap (has_ended op) arrived ∙ ended)
    all none (inr whole) = inr (λ i lt. ap (came_on (λ j. j == i)) (arrived ∙ whole) ∙ came_on-items i a.kept
        ∙ ap (λ T. items_in (popped i T)) (sym (append-nil a.kept) ∙ ap (λ z. a.kept ++ z) (sym none)))

pub recorded : (part : Part) (a : At) → TakesInRange part a → Recorded part (taken_at part a) a.cut
recorded (FromSource source ops outs) a k = refl
recorded (FromLinks op ops outs) a k = recorded-links op ops outs a k
recorded (Splitter region) a k = refl
recorded (Replica region channel) a k = refl
recorded (Merger region outs) a k = refl

pub recorded-moves : (part : Part) (t : Taken) (cut : Bool) → Recorded part t cut → Recorded part t true
recorded-moves (FromSource source ops outs) t cut r = r
recorded-moves (FromLinks op ops outs) t cut r = record { named = r.named; found = r.found; in_time = r.in_time; all = λ c. absurd (cc) }
recorded-moves (Splitter region) t cut r = r
recorded-moves (Replica region channel) t cut r = r
recorded-moves (Merger region outs) t cut r = r

-- ---- what was pushed

cuts-before : (n o j : ℕ) (front : List Outgoing) → j < o → on_output j (cuts_from o n front) ≡ []
cuts-before zero o j front lt = refl
cuts-before (suc n) o j front lt = go (has_last (on_output o front)) (cuts-before n (suc o) j front (omega (arith, lt)))
  where
    go : (b : Bool) → on_output j (cuts_from (suc o) n front) ≡ [] → on_output j (cond b (cuts_from (suc o) n front) (outgoing o P.Cut ∷ cuts_from (suc o) n front)) ≡ []
    go true rest = rest
    go false rest = cond-false (o == j) (P.Cut ∷ on_output j (cuts_from (suc o) n front)) (on_output j (cuts_from (suc o) n front)) (ne_eqb o j (λ (e : o ≡ j). omega (arith, e, lt))) ∙ rest

pub cuts-at : (n o k j : ℕ) (front : List Outgoing) → j ≡ o + k → k < n → on_output j (cuts_from o n front) ≡ cond (has_last (on_output j front)) [] (P.Cut ∷ [])
cuts-at zero o k j front e lt = absurd (omega (arith, lt))
cuts-at (suc n) o zero j front e lt =
    let same : o ≡ j = omega (arith, e) in
    go (has_last (on_output o front)) refl same (cuts-before n (suc o) j front (omega (arith, e)))
  where
    go : (b : Bool) → has_last (on_output o front) ≡ b → o ≡ j → on_output j (cuts_from (suc o) n front) ≡ []
        → on_output j (cond b (cuts_from (suc o) n front) (outgoing o P.Cut ∷ cuts_from (suc o) n front)) ≡ cond (has_last (on_output j front)) [] (P.Cut ∷ [])
    go true q same rest = rest ∙ sym (cond-true (has_last (on_output j front)) [] (P.Cut ∷ []) (ap (λ z. has_last (on_output z front)) (sym same) ∙ q))
    go false q same rest =
        cond-true (o == j) (P.Cut ∷ on_output j (cuts_from (suc o) n front)) (on_output j (cuts_from (suc o) n front)) (eq-eqb o j same)
        ∙ ap (λ z. P.Cut ∷ z) rest ∙ sym (cond-false (has_last (on_output j front)) [] (P.Cut ∷ []) (ap (λ z. has_last (on_output z front)) (sym same) ∙ q))
cuts-at (suc n) o (suc k) j front e lt = go (has_last (on_output o front)) (cuts-at n (suc o) k j front (omega (arith, e)) (omega (arith, lt)))
  where
    go : (b : Bool) → on_output j (cuts_from (suc o) n front) ≡ cond (has_last (on_output j front)) [] (P.Cut ∷ [])
        → on_output j (cond b (cuts_from (suc o) n front) (outgoing o P.Cut ∷ cuts_from (suc o) n front)) ≡ cond (has_last (on_output j front)) [] (P.Cut ∷ [])
    go true rest = rest
    go false rest = cond-false (o == j) (P.Cut ∷ on_output j (cuts_from (suc o) n front)) (on_output j (cuts_from (suc o) n front)) (ne_eqb o j (λ (f : o ≡ j). omega (arith, e, f))) ∙ rest

pub all-pushed : (part : Part) (a : At) → IsPart part → KeepsRule part a → TakesInRange part a → IsDone part a → a.cut ≡ false → Binds part (taken_at part a) → (o : ℕ) → on_output o a.pushed ≡ on_output o (owed part (taken_at part a))
all-pushed part a laws k r d c b o =
    let before : Binds part (taken_of part a.kept) = laws.binds (taken_of part a.kept) (taken_at part a) (taken-at part a) b in
    let all : a.kept ≡ all_taken a = sym (append-nil a.kept) ∙ ap (λ z. a.kept ++ z) (sym (r.none_dropped c)) in
    ap (on_output o) (sym (append-nil a.pushed) ∙ ap (λ z. a.pushed ++ z) (sym d.pushed) ∙ k.whole c (binds-merges part a.kept before)
    ∙ ap (λ T. owed part (record { packets = λ i. popped i T; items = read_in T; entries = entries_of part a.kept })) all)

cut-pushed : (part : Part) (a : At) → IsPart part → KeepsRule part a → IsDone part a → a.cut ≡ true → Binds part (taken_at part a) → (o : ℕ) → o < outputs part
    → IsCutOff (on_output o (owed part (taken_at part a))) (on_output o a.pushed)
cut-pushed part a laws k d c b o lt = record {
  front = on_output o f.front;
  is_front = front-trans (on_output o f.front) (on_output o (owed_for part a.kept)) (on_output o (owed part (taken_at part a)))
      (front-on_output o f.front (owed_for part a.kept) (f.is_front (binds-merges part a.kept (laws.binds (taken_of part a.kept) (taken_at part a) (taken-at part a) b))))
      (front-on_output o (owed_for part a.kept) (owed part (taken_at part a)) (laws.grows (taken_of part a.kept) (taken_at part a) (taken-at part a) b));
  is_sent = go (has_last (on_output o f.front)) refl;
}
  where
    f : IsCutBehind part a
    f = k.off c

    sent : on_output o a.pushed ≡ on_output o f.front ++ cond (has_last (on_output o f.front)) [] (P.Cut ∷ [])
    sent =
        ap (on_output o) (sym (append-nil a.pushed) ∙ ap (λ z. a.pushed ++ z) (sym d.pushed) ∙ f.owes)
        ∙ on_output-append o f.front (cuts_from 0 (outputs part) f.front)
        ∙ ap (λ z. on_output o f.front ++ z) (cuts-at (outputs part) 0 o o f.front (omega arith) lt)

    go : (l : Bool) → has_last (on_output o f.front) ≡ l
        → ((has_last (on_output o f.front) ≡ true) × (on_output o a.pushed ≡ on_output o f.front)) ⊎ ((has_last (on_output o f.front) ≡ false) × (on_output o a.pushed ≡ on_output o f.front ++ P.Cut ∷ []))
    go true q = inl (q, sent ∙ ap (λ l. on_output o f.front ++ cond l [] (P.Cut ∷ [])) q ∙ append-nil (on_output o f.front))
    go false q = inr (q, sent ∙ ap (λ l. on_output o f.front ++ cond l [] (P.Cut ∷ [])) q)

pub stops-push : (xs : List Packet) → stops_once xs ≡ true → has_last xs ≡ false → stops_once (xs ++ P.Cut ∷ []) ≡ true
stops-push [] s h = refl
stops-push (x ∷ xs) s h = go (is_last x) s h (stops-push xs)
  where
    go : (b : Bool) → (cond b (nat_le (length xs) 0) true && stops_once xs) ≡ true → (b || has_last xs) ≡ false → (stops_once xs ≡ true → has_last xs ≡ false → stops_once (xs ++ P.Cut ∷ []) ≡ true)
        → (cond b (nat_le (length (xs ++ P.Cut ∷ [])) 0) true && stops_once (xs ++ P.Cut ∷ [])) ≡ true
    go true q l rest = absurd (cc)
    go false q l rest = rest q l

pub stops-pushed : (part : Part) (a : At) → IsPart part → KeepsRule part a → TakesInRange part a → IsDone part a → Binds part (taken_at part a) → (o : ℕ) → o < outputs part → stops_once (on_output o a.pushed) ≡ true
stops-pushed part a laws k r d b o lt = go a.cut refl
  where
    front : (f : List Packet) → IsPrefix f (on_output o (owed part (taken_at part a))) → stops_once f ≡ true
    front f p = stops-front f p.0 (ap stops_once p.1 ∙ laws.stops (taken_at part a) o b)

    sent : (c : IsCutOff (on_output o (owed part (taken_at part a))) (on_output o a.pushed))
        → ((has_last c.front ≡ true) × (on_output o a.pushed ≡ c.front)) ⊎ ((has_last c.front ≡ false) × (on_output o a.pushed ≡ c.front ++ P.Cut ∷ [])) → stops_once (on_output o a.pushed) ≡ true
    sent c (inl h) = ap stops_once h.1 ∙ front c.front c.is_front
    sent c (inr h) = ap stops_once h.1 ∙ stops-push c.front (front c.front c.is_front) h.0

    go : (cut : Bool) → a.cut ≡ cut → stops_once (on_output o a.pushed) ≡ true
    go true c = let off = cut-pushed part a laws k d c b o lt in sent off off.is_sent
    go false c = ap stops_once (all-pushed part a laws k r d c b o) ∙ laws.stops (taken_at part a) o b

pub lists-done : DoneLaw
lists-done part a laws k r d = record {
  inputs_end = d.inputs_end;
  no_others = r.in_range;
  source_ends = λ s. ends a.cut refl (d.source_ends s);
  recorded = recorded part a r;
  all_sent = λ c b o lt. all-pushed part a laws k r d c b o;
  front_sent = λ c b o lt. cut-pushed part a laws k d c b o lt;
}
  where
    ends : (b : Bool) → a.cut ≡ b → (a.cut ≡ true) ⊎ (is_closed (read_in a.kept) ≡ true) → (a.cut ≡ true) ⊎ (is_closed (read_in (all_taken a)) ≡ true)
    ends b c (inl cut) = inl cut
    ends true c (inr h) = inl c
    ends false c (inr h) = inr (ap (λ z. is_closed (read_in (a.kept ++ z))) (r.none_dropped c) ∙ ap (λ T. is_closed (read_in T)) (append-nil a.kept) ∙ h)

-- ---- at any moment

without_cut-cuts : (n o j : ℕ) (front : List Outgoing) → without_cut (on_output j (cuts_from o n front)) ≡ []
without_cut-cuts zero o j front = refl
without_cut-cuts (suc n) o j front = go (has_last (on_output o front)) (o == j) (without_cut-cuts n (suc o) j front)
  where
    go : (b c : Bool) → without_cut (on_output j (cuts_from (suc o) n front)) ≡ [] → without_cut (on_output j (cond b (cuts_from (suc o) n front) (outgoing o P.Cut ∷ cuts_from (suc o) n front))) ≡ []
    go true c rest = rest
    go false c rest = behind (o == j) rest
      where
        behind : (d : Bool) → without_cut (on_output j (cuts_from (suc o) n front)) ≡ [] → without_cut (cond d (P.Cut ∷ on_output j (cuts_from (suc o) n front)) (on_output j (cuts_from (suc o) n front))) ≡ []
        behind true rest = rest
        behind false rest = rest

-- what was pushed is a front of what is owed for what counts
pub pushed-kept : (part : Part) (a : At) → KeepsRule part a → Merges part a.kept → (o : ℕ) → IsPrefix (without_cut (on_output o a.pushed)) (without_cut (on_output o (owed_for part a.kept)))
pushed-kept part a k m o = go a.cut refl
  where
    go : (c : Bool) → a.cut ≡ c → IsPrefix (without_cut (on_output o a.pushed)) (without_cut (on_output o (owed_for part a.kept)))
    go false c =
        front-without_cut (on_output o a.pushed) (on_output o (owed_for part a.kept))
        (front-on_output o a.pushed (owed_for part a.kept) (a.outbox, k.whole c m))
    go true c =
        let f : IsCutBehind part a = k.off c in
        let all : IsPrefix (without_cut (on_output o a.pushed)) (without_cut (on_output o (f.front ++ cuts_from 0 (outputs part) f.front))) =
        front-without_cut (on_output o a.pushed) (on_output o (f.front ++ cuts_from 0 (outputs part) f.front)) (front-on_output o a.pushed (f.front ++ cuts_from 0 (outputs part) f.front) (a.outbox, f.owes)) in
        let same : without_cut (on_output o (f.front ++ cuts_from 0 (outputs part) f.front)) ≡ without_cut (on_output o f.front) =
        ap without_cut (on_output-append o f.front (cuts_from 0 (outputs part) f.front)) ∙ without_cut-append (on_output o f.front) (on_output o (cuts_from 0 (outputs part) f.front))
        ∙ ap (λ z. without_cut (on_output o f.front) ++ z) (without_cut-cuts (outputs part) 0 o f.front) ∙ append-nil (without_cut (on_output o f.front)) in
        front-trans (without_cut (on_output o a.pushed)) (without_cut (on_output o f.front)) (without_cut (on_output o (owed_for part a.kept)))
        (all.0, all.1 ∙ same)
        (front-without_cut (on_output o f.front) (on_output o (owed_for part a.kept)) (front-on_output o f.front (owed_for part a.kept) (f.is_front m)))

-- and so of what is owed for all that was taken
pushed-front : (part : Part) (a : At) → IsPart part → KeepsRule part a → Binds part (taken_at part a) → (o : ℕ) → IsPrefix (without_cut (on_output o a.pushed)) (without_cut (on_output o (owed part (taken_at part a))))
pushed-front part a laws k b o =
    let before : Binds part (taken_of part a.kept) = laws.binds (taken_of part a.kept) (taken_at part a) (taken-at part a) b in
    front-trans (without_cut (on_output o a.pushed)) (without_cut (on_output o (owed_for part a.kept))) (without_cut (on_output o (owed part (taken_at part a))))
    (pushed-kept part a k (binds-merges part a.kept before) o)
    (front-without_cut (on_output o (owed_for part a.kept)) (on_output o (owed part (taken_at part a)))
    (front-on_output o (owed_for part a.kept) (owed part (taken_at part a)) (laws.grows (taken_of part a.kept) (taken_at part a) (taken-at part a) b)))

pub lists-move : MovesLaw
lists-move part a laws k r = record {
  no_others = r.in_range;
  recorded = recorded-moves part (taken_at part a) a.cut (recorded part a r);
  sends = λ b o within. pushed-front part a laws k b o;
}

-- nothing was pushed behind `Close` or `Cut`
pub stops-kept_in : (part : Part) (a : At) → IsPart part → KeepsRule part a → Binds part (taken_of part a.kept) → (o : ℕ) → o < outputs part → stops_once (on_output o a.pushed) ≡ true
stops-kept_in part a laws k before o lt = go a.cut refl
  where
    front : (f : List Outgoing) → IsPrefix f (owed_for part a.kept) → stops_once (on_output o f) ≡ true
    front f p = let q : IsPrefix (on_output o f) (on_output o (owed_for part a.kept)) = front-on_output o f (owed_for part a.kept) p in
        stops-front (on_output o f) q.0 (ap stops_once q.1 ∙ laws.stops (taken_of part a.kept) o before)

    go : (c : Bool) → a.cut ≡ c → stops_once (on_output o a.pushed) ≡ true
    go false c = front a.pushed (a.outbox, k.whole c (binds-merges part a.kept before))
    go true c =
        let f : IsCutBehind part a = k.off c in
        let all : IsPrefix (on_output o a.pushed) (on_output o (f.front ++ cuts_from 0 (outputs part) f.front)) = front-on_output o a.pushed (f.front ++ cuts_from 0 (outputs part) f.front) (a.outbox, f.owes) in
        let same : on_output o (f.front ++ cuts_from 0 (outputs part) f.front) ≡ on_output o f.front ++ cond (has_last (on_output o f.front)) [] (P.Cut ∷ []) =
        on_output-append o f.front (cuts_from 0 (outputs part) f.front) ∙ ap (λ z. on_output o f.front ++ z) (cuts-at (outputs part) 0 o o f.front (omega arith) lt) in
        stops-front (on_output o a.pushed) all.0 (ap stops_once (all.1 ∙ same) ∙ last (has_last (on_output o f.front)) refl)
      where
        last : (h : Bool) → has_last (on_output o (k.off c).front) ≡ h → stops_once (on_output o (k.off c).front ++ cond h [] (P.Cut ∷ [])) ≡ true
        last true q = ap stops_once (append-nil (on_output o (k.off c).front)) ∙ front (k.off c).front ((k.off c).is_front (binds-merges part a.kept before))
        last false q = stops-push (on_output o (k.off c).front) (front (k.off c).front ((k.off c).is_front (binds-merges part a.kept before))) q
