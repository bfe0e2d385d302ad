-- An operator by its connections and by its ports.
use Rattle.std.proofs.Common.{ℕ, zero, suc, ◌+◌, ◌<◌, ◌==◌, nat_lt, Bool, true, false, cond, not, ◌&&◌, inl, inr, List, [], ◌∷◌, ◌++◌, ◌≡◌, map, length, slice_get, Some, None, refl, sym, ap, subst, ◌∙◌, arith}
use Rattle.std.specs.List.{list_all}
use Rattle.std.proofs.lemmas.Bool.{cond-true, cond-false, cases_eq, eq-eqb, eqb-true, ne_eqb, and_parts, ltb-true}
use Rattle.spl_value.specs.declared.item.Item.{Item}
use Rattle.spl_value.specs.declared.item.Item.TheVariants as I
use Rattle.language_model.specs.declared.checked.CheckedClauses.{CheckedClauses}
use Rattle.language_model.specs.declared.checked.CheckedClauses.TheVariants as A
use Rattle.stream_model.specs.Stream.{Event, came, is_final, is_fault, is_empty}
use Rattle.stream_model.specs.Operators.{Operator, ports, ports_from}
use Rattle.stream_model.specs.parts.Operators.{port_at}
use Rattle.stream_model.specs.PortEvents.{by_ports, is_over, all_over, is_waiting, ends_all, port_events}
use Rattle.stream_model.specs.parts.PortEvents.{port_ended}
use Rattle.stream_model.proofs.parts.PortEvents.{all_ended}
use Rattle.stream_model.specs.Bodies.{on_each}
use Rattle.stream_model.specs.React.{Reaction, Gives, Faults, answer, makes_by, body, ended, ended_by, answered}
use Rattle.stream_model.specs.parts.React.{port_body}
use Rattle.stream_model.specs.PortLaws.{has_connections, name_inputs, at_port, ByPortsLaw, WaitingLaw, PortEndLaw, SinglePortsLaw}
use Rattle.stream_model.proofs.Waiting.{all_over-not, port_at-is, slice_get-past}

-- ---- truth values

same_bool : (a b : Bool) → (a ≡ true → b ≡ true) → (b ≡ true → a ≡ true) → a ≡ b
same_bool true b f g = sym (f refl)
same_bool false true f g = absurd (let h : false ≡ true = g refl in cc)
same_bool false false f g = refl

and_false : (b : Bool) → (b && false) ≡ false
and_false true = refl
and_false false = refl

and_true : (b : Bool) → (b && true) ≡ b
and_true true = refl
and_true false = refl

-- ---- which inputs are over

pub over_stays : (e : Event) (h : List Event) (j : ℕ) → is_over h j ≡ true → is_over (e ∷ h) j ≡ true
over_stays e h j o = go ((e.input == j) && is_final e.item)
  where
    go : (b : Bool) → cond b true (is_over h j) ≡ true
    go true = refl
    go false = o

-- an event that is no final marker changes nothing
over_same : (e : Event) (h : List Event) (j : ℕ) → is_final e.item ≡ false → is_over (e ∷ h) j ≡ is_over h j
over_same e h j f = ap (λ b. cond ((e.input == j) && b) true (is_over h j)) f ∙ ap (λ b. cond b true (is_over h j)) (and_false (e.input == j))

-- nor does one on another input
over_other : (e : Event) (h : List Event) (j : ℕ) → (e.input ≡ j → ⊥) → is_over (e ∷ h) j ≡ is_over h j
over_other e h j apart = ap (λ b. cond (b && is_final e.item) true (is_over h j)) (ne_eqb e.input j apart)

all_same : (test : ℕ → Bool) (ps : List ℕ) (from : ℕ) (h k : List Event)
    → ((j q : ℕ) → slice_get ps j ≡ Some q → test q ≡ true → is_over h (from + j) ≡ is_over k (from + j)) → all_over test ps from h ≡ all_over test ps from k
all_same test [] from h k same = refl
all_same test (p ∷ ps) from h k same =
    go (test p) refl
    (all_same test ps (suc from) h k (λ j q at t. let e : from + suc j ≡ suc from + j = omega arith in subst (λ i. is_over h i ≡ is_over k i) e (same (suc j) q at t)))
  where
    first : test p ≡ true → is_over h from ≡ is_over k from
    first t = let e : from + 0 ≡ from = omega arith in subst (λ i. is_over h i ≡ is_over k i) e (same 0 p refl t)

    go : (b : Bool) → test p ≡ b → all_over test ps (suc from) h ≡ all_over test ps (suc from) k
        → cond b (is_over h from && all_over test ps (suc from) h) (all_over test ps (suc from) h)
        ≡ cond b (is_over k from && all_over test ps (suc from) k) (all_over test ps (suc from) k)
    go true t rest = let f = first t in λ i. f i && rest i
    go false t rest = rest

all_each : (test : ℕ → Bool) (ps : List ℕ) (from : ℕ) (h : List Event)
    → ((j q : ℕ) → slice_get ps j ≡ Some q → test q ≡ true → is_over h (from + j) ≡ true) → all_over test ps from h ≡ true
all_each test [] from h each = refl
all_each test (p ∷ ps) from h each =
    go (test p) refl
    (all_each test ps (suc from) h (λ j q at t. let e : from + suc j ≡ suc from + j = omega arith in subst (λ i. is_over h i ≡ true) e (each (suc j) q at t)))
  where
    first : test p ≡ true → is_over h from ≡ true
    first t = let e : from + 0 ≡ from = omega arith in subst (λ i. is_over h i ≡ true) e (each 0 p refl t)

    go : (b : Bool) → test p ≡ b → all_over test ps (suc from) h ≡ true → cond b (is_over h from && all_over test ps (suc from) h) (all_over test ps (suc from) h) ≡ true
    go true t rest = let f = first t in λ i. f i && rest i
    go false t rest = rest

each_of_all : (test : ℕ → Bool) (ps : List ℕ) (from : ℕ) (h : List Event) → all_over test ps from h ≡ true
    → (j q : ℕ) → slice_get ps j ≡ Some q → test q ≡ true → is_over h (from + j) ≡ true
each_of_all test [] from h all j q at t = absurd cc
each_of_all test (p ∷ ps) from h all zero q at t =
    let same : p ≡ q = cc in
    let here : (is_over h from && all_over test ps (suc from) h) ≡ true = sym (cond-true (test p) _ _ (ap test same ∙ t)) ∙ all in
    let e : from ≡ from + 0 = omega arith in
    subst (λ i. is_over h i ≡ true) e (and_parts (is_over h from) _ here).0
each_of_all test (p ∷ ps) from h all (suc j) q at t =
    let e : suc from + j ≡ from + suc j = omega arith in
    subst (λ i. is_over h i ≡ true) e (each_of_all test ps (suc from) h (go (test p) all) j q at t)
  where
    go : (b : Bool) → cond b (is_over h from && all_over test ps (suc from) h) (all_over test ps (suc from) h) ≡ true → all_over test ps (suc from) h ≡ true
    go true a = (and_parts (is_over h from) _ a).1
    go false a = a

-- ---- single connections

abbrev single : List ℕ → List ℕ
single streams = 0 ∷ []

abbrev pub singles : ℕ → List (List ℕ) → List ℕ
singles k ins = ports_from k (map single ins)

port_of_single : (ins : List (List ℕ)) (k i : ℕ) → i < length ins → port_at (singles k ins) i ≡ k + i
port_of_single [] k i lt = absurd (omega arith)
port_of_single (s ∷ ins) k zero lt = omega arith
port_of_single (s ∷ ins) k (suc i) lt = port_of_single ins (suc k) i (omega arith) ∙ omega arith

get_single : (ins : List (List ℕ)) (k i : ℕ) → i < length ins → slice_get (singles k ins) i ≡ Some (k + i)
get_single [] k i lt = absurd (omega arith)
get_single (s ∷ ins) k zero lt = let e : k ≡ k + 0 = omega arith in ap (λ n. Some n) e
get_single (s ∷ ins) k (suc i) lt = let e : suc k + i ≡ k + suc i = omega arith in get_single ins (suc k) i (omega arith) ∙ ap (λ n. Some n) e

single_at : (ins : List (List ℕ)) (k i q : ℕ) → slice_get (singles k ins) i ≡ Some q → (q ≡ k + i) × (i < length ins)
single_at [] k i q at = absurd cc
single_at (s ∷ ins) k zero q at = let e : k ≡ q = cc in (omega (arith, e), omega arith)
single_at (s ∷ ins) k (suc i) q at = let r = single_at ins (suc k) i q at in (omega (arith, r.0), omega (arith, r.1))

-- ---- ports of inputs

-- the port of each input in range is one of the operator's
port_below : (ins : List (List ℕ)) (k i : ℕ) → i < length (ports_from k ins) → (q : ℕ) × (slice_get (ports_from k ins) i ≡ Some q) × (q < k + length ins)
port_below [] k i lt = absurd (omega arith)
port_below (streams ∷ ins) k i lt = at_head (λ i lt. port_below ins (suc k) i lt) streams i lt
  where
    at_head : ((i : ℕ) → i < length (ports_from (suc k) ins) → (q : ℕ) × (slice_get (ports_from (suc k) ins) i ≡ Some q) × (q < suc k + length ins)) → (streams : List ℕ) (i : ℕ) → i < length (map (λ (s : ℕ). k) streams ++ ports_from (suc k) ins)
        → (q : ℕ) × (slice_get (map (λ (s : ℕ). k) streams ++ ports_from (suc k) ins) i ≡ Some q) × (q < k + suc (length ins))
    at_head rest [] i lt = let r = rest i lt in (r.0, r.1, omega (arith, r.2))
    at_head rest (s ∷ streams) zero lt = (k, refl, omega arith)
    at_head rest (s ∷ streams) (suc i) lt = at_head rest streams i (omega arith)

-- each port with a connection is that of an input
port_there : (ins : List (List ℕ)) (k p : ℕ) → list_all (λ streams. not (is_empty streams)) ins ≡ true → p < length ins
    → (i : ℕ) × (slice_get (ports_from k ins) i ≡ Some (k + p))
port_there [] k p some lt = absurd (omega arith)
port_there ([] ∷ ins) k p some lt = absurd cc
port_there ((s ∷ streams) ∷ ins) k zero some lt = let e : k ≡ k + 0 = omega arith in (0, ap (λ n. Some n) e)
port_there ((s ∷ streams) ∷ ins) k (suc p) some lt =
    let r = port_there ins (suc k) p some (omega arith) in
    let e : suc k + p ≡ k + suc p = omega arith in
    (length (s ∷ streams) + r.0, slice_get-past k (s ∷ streams) (ports_from (suc k) ins) r.0 (length (s ∷ streams) + r.0) refl ∙ r.1 ∙ ap (λ n. Some n) e)

-- the port of an input in range
pub input_port : (op : Operator) (i : ℕ) → nat_lt i (length (ports op)) ≡ true
    → (slice_get (ports op) i ≡ Some (port_at (ports op) i)) × (port_at (ports op) i < length op.ins)
input_port op i named =
    let lt : i < length (ports op) = ltb-true i (length (ports op)) named in
    let r = port_below op.ins 0 i lt in
    let same : port_at (ports op) i ≡ r.0 = port_at-is (ports op) i r.0 r.1 in
    (r.1 ∙ ap (λ q. Some q) (sym same), omega (arith, same, r.2))

-- ---- the ends of ports

abbrev Ends : Operator → List Event → ℕ → Type 0
Ends op h p = is_over (port_events op h) p ≡ port_ended op p h

-- events of other ports, and those that are no final markers, leave a port as it is
stays : (op : Operator) (e : Event) (h : List Event) (p : ℕ) → slice_get (ports op) e.input ≡ Some (port_at (ports op) e.input)
    → (is_final e.item ≡ true → port_at (ports op) e.input ≡ p → ⊥) → port_ended op p (e ∷ h) ≡ port_ended op p h
stays op e h p at apart = all_same (λ q. q == p) (ports op) 0 (e ∷ h) h (λ j q there t. go (is_final e.item) refl j q there t)
  where
    go : (b : Bool) → is_final e.item ≡ b → (j q : ℕ) → slice_get (ports op) j ≡ Some q → (q == p) ≡ true → is_over (e ∷ h) (0 + j) ≡ is_over h (0 + j)
    go false f j q there t = over_same e h (0 + j) f
    go true f j q there t = over_other e h (0 + j) (λ i.
        let here : e.input ≡ j = omega (arith, i) in
        let both : Some (port_at (ports op) e.input) ≡ Some q = sym at ∙ ap (slice_get (ports op)) here ∙ there in
        let same : port_at (ports op) e.input ≡ q = cc in
        let is : q ≡ p = eqb-true q p t in
        apart f (same ∙ is))

ends_at : (op : Operator) (h : List Event) (p : ℕ) → has_connections op ≡ true → name_inputs op h ≡ true → p < length op.ins → Ends op h p
ends_at op [] p some named lt =
    let r = port_there op.ins 0 p some lt in
    let e : 0 + p ≡ p = omega arith in
    sym (all_over-not (λ q. q == p) (ports op) 0 r.0 r.0 p [] (r.1 ∙ ap (λ n. Some n) e) (eq-eqb p p refl) (omega arith) refl)
ends_at op (e ∷ h) p some named lt =
    by (is_final e.item) refl (ends_at op h p some (and_parts (nat_lt e.input (length (ports op))) (name_inputs op h) named).1 lt)
  where
    parts : (nat_lt e.input (length (ports op)) ≡ true) × (name_inputs op h ≡ true)
    parts = and_parts (nat_lt e.input (length (ports op))) (name_inputs op h) named

    at : slice_get (ports op) e.input ≡ Some (port_at (ports op) e.input)
    at = (input_port op e.input parts.0).0

    apart : (port_at (ports op) e.input ≡ p → ⊥) → port_ended op p (e ∷ h) ≡ port_ended op p h
    apart n = stays op e h p at (λ f. n)

    final : (is_final e.item ≡ true) → (b : Bool) → port_ended op (port_at (ports op) e.input) (e ∷ h) ≡ b → Ends op h p → Ends op (e ∷ h) p
    final f true ended before =
        let waits : is_waiting op h e ≡ false = (λ i. f i && not (ended i)) in
        ap (λ es. is_over es p) (cond-false (is_waiting op h e) (port_events op h) (came (port_at (ports op) e.input) e.item ∷ port_events op h) waits)
        ∙ ap (λ b. cond ((port_at (ports op) e.input == p) && b) true (is_over (port_events op h) p)) f
        ∙ elim (cases_eq (port_at (ports op) e.input) p) [
          | inl is ↦ ap (λ b. cond (b && true) true (is_over (port_events op h) p)) (eq-eqb (port_at (ports op) e.input) p is) ∙ sym ended ∙ ap (λ n. port_ended op n (e ∷ h)) is
          | inr other ↦ ap (λ b. cond (b && true) true (is_over (port_events op h) p)) (ne_eqb (port_at (ports op) e.input) p other) ∙ before ∙ sym (apart other)
        ]
    final f false ended before =
        let waits : is_waiting op h e ≡ true = (λ i. f i && not (ended i)) in
        ap (λ es. is_over es p) (cond-true (is_waiting op h e) (port_events op h) (came (port_at (ports op) e.input) e.item ∷ port_events op h) waits)
        ∙ before
        ∙ elim (cases_eq (port_at (ports op) e.input) p) [
          | inl is ↦ same_bool (port_ended op p h) (port_ended op p (e ∷ h))
              (λ all. all_each (λ n. n == p) (ports op) 0 (e ∷ h) (λ j r there t. over_stays e h (0 + j) (each_of_all (λ n. n == p) (ports op) 0 h all j r there t)))
              (λ all. absurd (let no : false ≡ true = sym ended ∙ ap (λ n. port_ended op n (e ∷ h)) is ∙ all in cc))
          | inr other ↦ sym (apart other)
        ]

    by : (b : Bool) → is_final e.item ≡ b → Ends op h p → Ends op (e ∷ h) p
    by true f before = final f (port_ended op (port_at (ports op) e.input) (e ∷ h)) refl before
    by false f before =
        let waits : is_waiting op h e ≡ false = ap (λ b. b && not (port_ended op (port_at (ports op) e.input) (e ∷ h))) f in
        ap (λ es. is_over es p) (cond-false (is_waiting op h e) (port_events op h) (came (port_at (ports op) e.input) e.item ∷ port_events op h) waits)
        ∙ over_same (came (port_at (ports op) e.input) e.item) (port_events op h) p f
        ∙ before
        ∙ sym (stays op e h p at (λ t. absurd (let no : false ≡ true = sym f ∙ t in cc)))

pub port_end_law : PortEndLaw
port_end_law = ends_at

-- all ports have ended exactly where all have by ports
all_same_ended : (op : Operator) (h : List Event) → has_connections op ≡ true → name_inputs op h ≡ true → all_ended op h ≡ all_ended (by_ports op) (port_events op h)
all_same_ended op h some named = same_bool (all_ended op h) (all_ended (by_ports op) (port_events op h))
    (λ all. all_each (λ q. true) (singles 0 op.ins) 0 (port_events op h) (λ j q there t.
    let at = single_at op.ins 0 j q there in
    let n : 0 + j ≡ j = omega arith in
    ap (is_over (port_events op h)) n ∙ ends_at op h j some named at.1
    ∙ all_each (λ n. n == j) (ports op) 0 h (λ i r is u. each_of_all (λ q. true) (ports op) 0 h all i r is refl)))
    (λ all. all_each (λ q. true) (ports op) 0 h (λ i r is u.
    let lt : i < length (ports op) = slice_within (ports op) i r is in
    let b = port_below op.ins 0 i lt in
    let same : r ≡ b.0 = (let both : Some r ≡ Some b.0 = sym is ∙ b.1 in cc) in
    let below : r < length op.ins = omega (arith, same, b.2) in
    let n : 0 + r ≡ r = omega arith in
    let over : is_over (port_events op h) r ≡ true = sym (ap (is_over (port_events op h)) n) ∙ each_of_all (λ q. true) (singles 0 op.ins) 0 (port_events op h) all r (0 + r) (get_single op.ins 0 r below) refl in
    each_of_all (λ n. n == r) (ports op) 0 h (sym (ends_at op h r some named below) ∙ over) i r is (eq-eqb r r refl)))
  where
    slice_within : (ps : List ℕ) (i r : ℕ) → slice_get ps i ≡ Some r → i < length ps
    slice_within [] i r e = absurd cc
    slice_within (p ∷ ps) zero r e = omega arith
    slice_within (p ∷ ps) (suc i) r e = let l = slice_within ps i r e in omega (arith, l)

-- ---- nothing waits by ports

no_waiting : (op : Operator) (es : List Event) (p : ℕ) (x : Item) → p < length op.ins → is_waiting (by_ports op) es (came p x) ≡ false
no_waiting op es p x lt = by (is_final x) refl
  where
    ended_there : is_final x ≡ true → port_ended (by_ports op) (port_at (singles 0 op.ins) p) (came p x ∷ es) ≡ true
    ended_there f = all_each (λ q. q == port_at (singles 0 op.ins) p) (singles 0 op.ins) 0 (came p x ∷ es) (λ j q there t.
        let at = single_at op.ins 0 j q there in
        let mine = port_of_single op.ins 0 p lt in
        let is : q ≡ port_at (singles 0 op.ins) p = eqb-true q (port_at (singles 0 op.ins) p) t in
        let here : p ≡ 0 + j = omega (arith, is, mine, at.0) in
        ap (λ b. cond ((p == (0 + j)) && b) true (is_over es (0 + j))) f ∙ ap (λ b. cond (b && true) true (is_over es (0 + j))) (eq-eqb p (0 + j) here))

    by : (b : Bool) → is_final x ≡ b → is_waiting (by_ports op) es (came p x) ≡ false
    by true f = let e = ended_there f in λ i. f i && not (e i)
    by false f = ap (λ b. b && not (port_ended (by_ports op) (port_at (singles 0 op.ins) p) (came p x ∷ es))) f

same_events : (op : Operator) (h : List Event) → name_inputs op h ≡ true → port_events (by_ports op) (port_events op h) ≡ port_events op h
same_events op [] named = refl
same_events op (e ∷ h) named = by (is_waiting op h e) (same_events op h (and_parts (nat_lt e.input (length (ports op))) (name_inputs op h) named).1)
  where
    parts : (nat_lt e.input (length (ports op)) ≡ true) × (name_inputs op h ≡ true)
    parts = and_parts (nat_lt e.input (length (ports op))) (name_inputs op h) named

    below : port_at (ports op) e.input < length op.ins
    below = (input_port op e.input parts.0).1

    by : (b : Bool) → port_events (by_ports op) (port_events op h) ≡ port_events op h → port_events (by_ports op) (cond b (port_events op h) (came (port_at (ports op) e.input) e.item ∷ port_events op h))
        ≡ cond b (port_events op h) (came (port_at (ports op) e.input) e.item ∷ port_events op h)
    by true rest = rest
    by false rest =
        cond-false (is_waiting (by_ports op) (port_events op h) (came (port_at (ports op) e.input) e.item)) _ _
        (no_waiting op (port_events op h) (port_at (ports op) e.input) e.item below)
        ∙ (let n : port_at (singles 0 op.ins) (port_at (ports op) e.input) ≡ port_at (ports op) e.input =
        port_of_single op.ins 0 (port_at (ports op) e.input) below ∙ omega arith in
        λ i. came (n i) e.item ∷ rest i)

pub single_ports_law : SinglePortsLaw
single_ports_law op h some named = same_events op h named

-- ---- what events cause

same_makes : (clauses : CheckedClauses) (op : Operator) (es : List Event) (p : ℕ) (x : Item) → makes_by clauses (by_ports op) es p x ≡ makes_by clauses op es p x
same_makes (A.FileSource file strict) op es p x = refl
same_makes _ op es p x = refl

same_answered : (op : Operator) (last : Bool) (a : Reaction) → (answered op last a ≡ answered (by_ports op) last a) × (ended_by op last a ≡ ended_by (by_ports op) last a)
same_answered op last (Gives outs) = (refl, refl)
same_answered op last (Faults kind) = (refl, refl)

final_no_fault : (x : Item) → is_final x ≡ true → is_fault x ≡ false
final_no_fault (I.Tuple vs) f = cc
final_no_fault I.Window f = cc
final_no_fault I.Final f = refl
final_no_fault (I.Bad g) f = cc

pub waiting_law : WaitingLaw
waiting_law op earlier e waits =
    let final = and_parts (is_final e.item) (not (port_ended op (port_at (ports op) e.input) (e ∷ earlier))) waits in
    let fine : is_fault e.item ≡ false = final_no_fault e.item final.0 in (
      cond-false (is_fault e.item) (on_each (length op.outs) e.item) _ fine ∙ cond-true (is_waiting op earlier e) [] _ waits,
      cond-false (is_fault e.item) (Some e.item) _ fine ∙ cond-true (is_waiting op earlier e) None _ waits,
      cond-true (is_waiting op earlier e) (port_events op earlier) (came (port_at (ports op) e.input) e.item ∷ port_events op earlier) waits,
    )

pub by_ports_law : ByPortsLaw
by_ports_law op earlier e some named waits = (
  (λ i. cond (is_fault e.item) (on_each (length op.outs) e.item) (cond (same_waits i) [] (answers.0 i))),
  (λ i. cond (is_fault e.item) (Some e.item) (cond (same_waits i) None (answers.1 i))),
)
  where
    parts : (nat_lt e.input (length (ports op)) ≡ true) × (name_inputs op earlier ≡ true)
    parts = and_parts (nat_lt e.input (length (ports op))) (name_inputs op earlier) named

    below : port_at (ports op) e.input < length op.ins
    below = (input_port op e.input parts.0).1

    same_waits : is_waiting op earlier e ≡ is_waiting (by_ports op) (port_events op earlier) (at_port op e)
    same_waits = waits ∙ sym (no_waiting op (port_events op earlier) (port_at (ports op) e.input) e.item below)

    longer : port_events op (e ∷ earlier) ≡ at_port op e ∷ port_events op earlier
    longer = cond-false (is_waiting op earlier e) (port_events op earlier) (came (port_at (ports op) e.input) e.item ∷ port_events op earlier) waits

    last : ends_all op earlier e ≡ ends_all (by_ports op) (port_events op earlier) (at_port op e)
    last = ap (λ b. is_final e.item && b) (all_same_ended op (e ∷ earlier) some named ∙ ap (all_ended (by_ports op)) longer)

    bodies : body op earlier e ≡ body (by_ports op) (port_events op earlier) (at_port op e)
    bodies =
        let at : port_at (singles 0 op.ins) (port_at (ports op) e.input) ≡ port_at (ports op) e.input =
        port_of_single op.ins 0 (port_at (ports op) e.input) below ∙ omega arith in
        let events = same_events op earlier parts.1 in
        ap answer (sym (same_makes op.clauses op (port_events op earlier) (port_at (ports op) e.input) e.item))
        ∙ (λ i. port_body (by_ports op) (sym events i) (sym at i) e.item)

    answers : (answered op (ends_all op earlier e) (body op earlier e)
        ≡ answered (by_ports op) (ends_all (by_ports op) (port_events op earlier) (at_port op e)) (body (by_ports op) (port_events op earlier) (at_port op e)))
        × (ended_by op (ends_all op earlier e) (body op earlier e)
        ≡ ended_by (by_ports op) (ends_all (by_ports op) (port_events op earlier) (at_port op e)) (body (by_ports op) (port_events op earlier) (at_port op e)))
    answers =
        let same = same_answered op (ends_all (by_ports op) (port_events op earlier) (at_port op e)) (body (by_ports op) (port_events op earlier) (at_port op e)) in
        ((λ i. answered op (last i) (bodies i)) ∙ same.0, (λ i. ended_by op (last i) (bodies i)) ∙ same.1)
