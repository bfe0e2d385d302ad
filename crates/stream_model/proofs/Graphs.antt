-- The streams of an ordered graph.
use Prim.Native.Nat.{zero, suc}
use Rattle.std.proofs.Common.{ℕ, ◌+◌, ◌==◌, nat_lt, Bool, true, false, cond, not, ◌||◌, List, [], ◌∷◌, ◌++◌, ◌≡◌, refl, sym, ap, ◌∙◌, append_assoc, map, length, reverse, slice_get, Option, Some, None, position, inl, inr, arith}
use Rattle.std.specs.List.{cons_option, filter_map, list_any, position_or_len}
use Rattle.std.specs.Option.{option_map_or}
use Rattle.std.proofs.Math.Path.{fun_ext}
use Rattle.std.proofs.lemmas.Bool.{cond-false, cases_Bool, or_parts, or_left, or_right, or_from, eq-eqb, le-ltb}
use Rattle.std.proofs.lemmas.List.{reverse-append}
use Rattle.std.proofs.lemmas.List.Folds.{list_any-append}
use Rattle.stream_model.specs.Stream.{Event, came}
use Rattle.stream_model.specs.Operators.{Operator, connections}
use Rattle.stream_model.specs.Meaning.{Lists, Entries, arrive, lists_at, events_at, events_of, meaning, made_by, makes, streams_of, in_topo}
use Rattle.stream_model.specs.Laws.{makes_stream, reads_stream, is_made, GraphLaw, EventsLaw, TopoEventsLaw}

-- where nothing passes, there is no position
position_or_len-none : (test : ℕ → Bool) (xs : List ℕ) → list_any test xs ≡ false → position_or_len test xs ≡ length xs
position_or_len-none test [] h = refl
position_or_len-none test (x ∷ xs) h =
    let parts = or_parts (test x) (list_any test xs) h in
    let rest = position_or_len-none test xs parts.1 in
    ap (λ b. cond (not b) (1 + position_or_len test xs) 0) parts.0 ∙ omega (arith, rest)

position-none : (test : ℕ → Bool) (xs : List ℕ) → list_any test xs ≡ false → position test xs ≡ None
position-none test xs h =
    cond-false (nat_lt (position_or_len test xs) (length xs)) (Some (position_or_len test xs)) None
    (le-ltb (position_or_len test xs) (length xs) (let e = position_or_len-none test xs h in omega (arith, e)))

-- where there is one, something passes
position-some : (test : ℕ → Bool) (xs : List ℕ) (k : ℕ) → position test xs ≡ Some k → list_any test xs ≡ true
position-some test xs k h = elim (cases_Bool (list_any test xs)) [ inl found ↦ found | inr none ↦ let e = position-none test xs none in absurd (cc) ]

list_any-reverse : {X : Type 0} (test : X → Bool) (xs : List X) → list_any test xs ≡ false → list_any test (reverse xs) ≡ false
list_any-reverse test [] h = refl
list_any-reverse test (x ∷ xs) h =
    let parts = or_parts (test x) (list_any test xs) h in
    ap (list_any test) (reverse-append (x ∷ []) xs) ∙ list_any-append test (reverse xs) (x ∷ [])
    ∙ or_from (list_any test (reverse xs)) (test x || false) (list_any-reverse test xs parts.1) (or_from (test x) false parts.0 refl)

-- an operator that doesn't make the stream leaves it as it was
streams_of-step : (op : Operator) (earlier : List Operator) (rows : Lists) (entries : Entries) (s : ℕ) → makes_stream op s ≡ false
    → streams_of (op ∷ earlier) rows entries s ≡ streams_of earlier rows entries s
streams_of-step op earlier rows entries s h =
    ap (λ at. option_map_or (λ p. makes op p (streams_of earlier rows entries) rows entries) at (streams_of earlier rows entries s)) (position-none (λ o. o == s) op.outs h)

streams_of-append : (later earlier : List Operator) (rows : Lists) (entries : Entries) (s : ℕ) → is_made later s ≡ false
    → streams_of (later ++ earlier) rows entries s ≡ streams_of earlier rows entries s
streams_of-append [] earlier rows entries s h = refl
streams_of-append (op ∷ later) earlier rows entries s h =
    let parts = or_parts (makes_stream op s) (is_made later s) h in
    streams_of-step op (later ++ earlier) rows entries s parts.0 ∙ streams_of-append later earlier rows entries s parts.1

-- what an operator makes of streams depends on those that it reads
abbrev Agree : Lists → Lists → List ℕ → Type 0
Agree one other reads = (s : ℕ) → list_any (λ i. i == s) reads ≡ true → one s ≡ other s

agree-first : (one other : Lists) (s : ℕ) (ss : List ℕ) → Agree one other (s ∷ ss) → one s ≡ other s
agree-first one other s ss agree = agree s (or_left (s == s) (list_any (λ i. i == s) ss) (eq-eqb s s refl))

agree-rest : (one other : Lists) (s : ℕ) (ss : List ℕ) → Agree one other (s ∷ ss) → Agree one other ss
agree-rest one other s ss agree t h = agree t (or_right (s == t) (list_any (λ i. i == t) ss) h)

lists_at-same : (one other : Lists) (ss : List ℕ) (i : ℕ) → Agree one other ss → lists_at one ss i ≡ lists_at other ss i
lists_at-same one other [] i agree = refl
lists_at-same one other (s ∷ ss) zero agree = agree-first one other s ss agree
lists_at-same one other (s ∷ ss) (suc i) agree = lists_at-same one other ss i (agree-rest one other s ss agree)

events_at-same : (one other : Lists) (ss entries : List ℕ) → Agree one other ss → events_at one ss entries ≡ events_at other ss entries
events_at-same one other [] entries agree = refl
events_at-same one other (s ∷ []) entries agree = ap (map (came 0)) (agree-first one other s [] agree)
events_at-same one other (s ∷ t ∷ ss) entries agree = ap (λ (lists : Lists). arrive lists entries) (fun_ext (λ i. lists_at-same one other (s ∷ t ∷ ss) i agree))

makes-same : (op : Operator) (p : ℕ) (one other rows : Lists) (entries : Entries) → Agree one other (connections op)
    → makes op p one rows entries ≡ makes op p other rows entries
makes-same op p one other rows entries agree =
    ap (λ (events : List Event). made_by op.clauses op p events (rows op.number)) (events_at-same one other (connections op) (entries op.number) agree)

reverse-around : (before after : List Operator) (op : Operator) → reverse (before ++ op ∷ after) ≡ reverse after ++ op ∷ reverse before
reverse-around before after op =
    reverse-append before (op ∷ after)
    ∙ ap (λ xs. xs ++ reverse before) (reverse-append (op ∷ []) after)
    ∙ append_assoc (reverse after) (op ∷ []) (reverse before)

-- the streams, the last operator first, at one of its operators
streams_of-at : (before after : List Operator) (op : Operator) (p s : ℕ) (rows : Lists) (entries : Entries)
    → ((t : ℕ) → makes_stream op t ≡ true → is_made after t ≡ false)
    → ((t : ℕ) → reads_stream op t ≡ true → is_made (op ∷ after) t ≡ false)
    → position (λ o. o == s) op.outs ≡ Some p
    → streams_of (reverse after ++ op ∷ reverse before) rows entries s ≡ makes op p (streams_of (reverse after ++ op ∷ reverse before) rows entries) rows entries
streams_of-at before after op p s rows entries once forward at =
    streams_of-append (reverse after) (op ∷ reverse before) rows entries s
    (list_any-reverse (λ o. makes_stream o s) after (once s (position-some (λ o. o == s) op.outs p at)))
    ∙ ap (λ found. option_map_or (λ q. makes op q (streams_of (reverse before) rows entries) rows entries) found (streams_of (reverse before) rows entries s)) at
    ∙ sym (makes-same op p (streams_of (reverse after ++ op ∷ reverse before) rows entries) (streams_of (reverse before) rows entries) rows entries
    (λ t h. let parts = or_parts (makes_stream op t) (is_made after t) (forward t h) in
    streams_of-append (reverse after) (op ∷ reverse before) rows entries t (list_any-reverse (λ o. makes_stream o t) after parts.1)
    ∙ streams_of-step op (reverse before) rows entries t parts.0))

pub graph_law : GraphLaw
graph_law g rows entries before after op p s ordered split at =
    let turned : reverse (in_topo g) ≡ reverse after ++ op ∷ reverse before = ap reverse split ∙ reverse-around before after op in
    rw turned (streams_of-at before after op p s rows entries
    (λ t h. ordered.once before after op t split h) (λ t h. ordered.forward before after op t split h) at)

pub events_law : EventsLaw
events_law g rows entries op n numbered at =
    let same : slice_get g.ops op.number ≡ Some op = ap (slice_get g.ops) (numbered n op at) ∙ at in
    ap (λ found. option_map_or (λ (o : Operator). events_of o (meaning g rows entries).streams (entries op.number)) found []) same

-- where an operator of the topological order stands among the operators
number_of : (at : ℕ → Option Operator) (numbers : List ℕ) (before after : List Operator) (op : Operator) → filter_map at numbers ≡ before ++ op ∷ after
    → (n : ℕ) × (at n ≡ Some op)
number_of at [] [] after op e = absurd (cc)
number_of at [] (b ∷ before) after op e = absurd (cc)
number_of at (n ∷ numbers) before after op e = go (at n) refl before (λ bs. number_of at numbers bs after op) e
  where
    go : (found : Option Operator) → at n ≡ found → (bs : List Operator) → ((bs : List Operator) → filter_map at numbers ≡ bs ++ op ∷ after → (m : ℕ) × (at m ≡ Some op))
        → cons_option found (filter_map at numbers) ≡ bs ++ op ∷ after → (m : ℕ) × (at m ≡ Some op)
    go None q bs rest e = rest bs e
    go (Some x) q [] rest e = let same : x ≡ op = cc in (n, q ∙ ap (λ (o : Operator). Some o) same)
    go (Some x) q (b ∷ bs) rest e = let others : filter_map at numbers ≡ bs ++ op ∷ after = cc in rest bs others

pub topo_events_law : TopoEventsLaw
topo_events_law g rows entries before after op numbered split =
    let found = number_of (slice_get g.ops) g.topo before after op split in events_law g rows entries op found.0 numbered found.1
