-- What a graph means under two records that have the same for each operator with several connections.
use Rattle.std.proofs.Common.{◌≡◌, ℕ, ◌==◌, true, List, [], ◌∷◌, ◌++◌, refl, sym, ap, subst, ◌∙◌, reverse, slice_get, position, Option, Some, None}
use Rattle.std.specs.List.{cons_option, filter_map}
use Rattle.std.specs.Option.{option_map_or}
use Rattle.std.proofs.lemmas.List.{reverse-append}
use Rattle.stream_model.specs.Arrivals.{has_several}
use Rattle.stream_model.specs.Meaning.{Lists, Entries, arrive, events_at, events_of, in_topo, lists_at, made_by, streams_of}
use Rattle.stream_model.proofs.parts.Meaning.{events_of_number}
use Rattle.stream_model.specs.Operators.{Operator, connections}
use Rattle.stream_model.specs.RunLaws.{SameRecordsLaw}

-- ---- one operator

-- it has the same record in both, where it has several connections
abbrev Same : Entries → Entries → Operator → Type 0
Same first second op = has_several (connections op) ≡ true → first op.number ≡ second op.number

same_events : (streams : Lists) (ss a b : List ℕ) → (has_several ss ≡ true → a ≡ b) → events_at streams ss a ≡ events_at streams ss b
same_events streams [] a b same = refl
same_events streams (s ∷ []) a b same = refl
same_events streams (s ∷ t ∷ ss) a b same = ap (arrive (lists_at streams (s ∷ t ∷ ss))) (same refl)

-- of the same streams and of the same record it has the same events
its_events : (op : Operator) (first second : Lists) (a b : List ℕ) → first ≡ second → (has_several (connections op) ≡ true → a ≡ b) → events_of op first a ≡ events_of op second b
its_events op first second a b streams same = ap (λ (l : Lists). events_of op l a) streams ∙ same_events second (connections op) a b same

-- ---- streams

-- so do all of these
abbrev AllSame : Entries → Entries → List Operator → Type 0
AllSame first second [] = Unit {0}
AllSame first second (op ∷ ops) = Same first second op × AllSame first second ops

same_both : (first second : Entries) (a b : List Operator) → AllSame first second a → AllSame first second b → AllSame first second (a ++ b)
same_both first second [] b h k = k
same_both first second (op ∷ a) b h k = (h.0, same_both first second a b h.1 k)

same_reverse : (first second : Entries) (ops : List Operator) → AllSame first second ops → AllSame first second (reverse ops)
same_reverse first second [] h = tt
same_reverse first second (op ∷ ops) h =
    subst (AllSame first second) (sym (reverse-append (op ∷ []) ops)) (same_both first second (reverse ops) (op ∷ []) (same_reverse first second ops h.1) (h.0, tt))

same_found : (first second : Entries) (at : ℕ → Option Operator) → ((n : ℕ) (op : Operator) → at n ≡ Some op → Same first second op) → (ns : List ℕ)
    → AllSame first second (filter_map at ns)
same_found first second at each [] = tt
same_found first second at each (n ∷ ns) = go (at n) refl (same_found first second at each ns)
  where
    go : (found : Option Operator) → at n ≡ found → AllSame first second (filter_map at ns) → AllSame first second (cons_option found (filter_map at ns))
    go None e rest = rest
    go (Some op) e rest = (each n op e, rest)

same_streams : (ops : List Operator) (rows : Lists) (first second : Entries) → AllSame first second ops → streams_of ops rows first ≡ streams_of ops rows second
same_streams [] rows first second h = λ i s. []
same_streams (op ∷ earlier) rows first second h =
    let behind : streams_of earlier rows first ≡ streams_of earlier rows second = same_streams earlier rows first second h.1 in
    let events = its_events op (streams_of earlier rows first) (streams_of earlier rows second) (first op.number) (second op.number) behind h.0 in
    λ i s. option_map_or (λ p. made_by op.clauses op p (events i) (rows op.number)) (position (λ o. o == s) op.outs) (behind i s)

-- ---- the meaning

pub same_records_law : SameRecordsLaw
same_records_law g rows first second numbered same =
    let ops : List Operator = reverse (in_topo g) in
    let streams : streams_of ops rows first ≡ streams_of ops rows second =
    same_streams ops rows first second (same_reverse first second (in_topo g) (same_found first second (slice_get g.ops) same g.topo)) in
    let events : (n : ℕ) → events_of_number g (streams_of ops rows first) first n ≡ events_of_number g (streams_of ops rows second) second n =
    λ n. at n (slice_get g.ops n) refl (streams_of ops rows first) (streams_of ops rows second) streams in
    λ i. record { streams = streams i; events = λ n. events n i }
  where
    at : (n : ℕ) (found : Option Operator) → slice_get g.ops n ≡ found → (a b : Lists) → a ≡ b
        → option_map_or (λ op. events_of op a (first n)) found [] ≡ option_map_or (λ op. events_of op b (second n)) found []
    at n None e a b streams = refl
    at n (Some op) e a b streams =
        its_events op a b (first n) (second n) streams (λ several. ap first (sym (numbered n op e)) ∙ same n op e several ∙ ap second (numbered n op e))
