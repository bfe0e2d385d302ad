-- What the final marker of an input ends, by the counts that it leaves.
use Rattle.std.proofs.Common.{inl, inr, ◌≡◌, ◌<◌, ◌+◌, ◌-◌, ℕ, zero, suc, true, false, ◌==◌, not, if◌then◌else◌, List, [], ◌∷◌, length, slice_get, Option, Some, None, refl, sym, ap, subst, ◌∙◌, arith}
use Rattle.std.specs.Prelude.{slice_set}
use Rattle.std.proofs.lemmas.Bool.{eq-eqb, ne_eqb, cases_eq, lt-ltb}
use Rattle.spl_value.specs.declared.item.Item.TheVariants as I
use Rattle.stream_model.specs.Stream.{Event, came}
use Rattle.stream_model.specs.Operators.{Operator, ports}
use Rattle.stream_model.specs.parts.Operators.{port_at}
use Rattle.stream_model.specs.PortEvents.{ends_all, is_over, is_waiting}
use Rattle.connection_counts.specs.Counting.{CountsOpen, open_at, open_from, open_in}
use Rattle.connection_counts.proofs.Counting.{none_open, one_fewer}
use Rattle.spl_value.proofs.Lists.{get_set_same, get_within}
use Rattle.stream_model.proofs.ByPorts.{input_port}
use Rattle.spl_value.proofs.Results.{some_same}

-- the port of an input, and its counts before and after the input's final marker
pub record Closed (op : Operator) (h : List Event) (i : ℕ) : Type 0 where
  pub there : slice_get (ports op) i ≡ Some (port_at (ports op) i)
  pub below : port_at (ports op) i < length op.ins
  pub own : open_at op (port_at (ports op) i) h ≡ 1 + open_at op (port_at (ports op) i) (came i I.Final ∷ h)
  pub others : (p : ℕ) → (p ≡ port_at (ports op) i → ⊥) → open_at op p h ≡ open_at op p (came i I.Final ∷ h)
  pub all : open_in op h ≡ 1 + open_in op (came i I.Final ∷ h)

pub closed : (op : Operator) (h : List Event) (i : ℕ) → i < length (ports op) → is_over h i ≡ false → Closed op h i
closed op h i lt was = record {
  there = at.0;
  below = at.1;
  own = one_fewer (λ q. q == here) (ports op) 0 i here h at.0 (ap (is_over h) zero_more ∙ was)
      ∙ (λ j. (if eq-eqb here here refl j then 1 else 0) + open_from (λ q. q == here) (ports op) 0 (came (zero_more j) I.Final ∷ h));
  others = λ p apart. one_fewer (λ q. q == p) (ports op) 0 i here h at.0 (ap (is_over h) zero_more ∙ was)
      ∙ (λ j. (if ne_eqb here p (λ e. apart (sym e)) j then 1 else 0) + open_from (λ q. q == p) (ports op) 0 (came (zero_more j) I.Final ∷ h))
      ∙ plus_zero (open_at op p (came i I.Final ∷ h));
  all = one_fewer (λ q. true) (ports op) 0 i here h at.0 (ap (is_over h) zero_more ∙ was)
      ∙ (λ j. 1 + open_from (λ q. true) (ports op) 0 (came (zero_more j) I.Final ∷ h));
}
  where
    here : ℕ
    here = port_at (ports op) i

    zero_more : 0 + i ≡ i
    zero_more = omega arith

    plus_zero : (n : ℕ) → 0 + n ≡ n
    plus_zero n = omega arith

    at : (slice_get (ports op) i ≡ Some (port_at (ports op) i)) × (port_at (ports op) i < length op.ins)
    at = input_port op i (lt-ltb i (length (ports op)) lt)

-- an open port has an open connection, and it is one of the open ones
pub some_open : (op : Operator) (h : List Event) (i was_open : ℕ) (own open_of : List ℕ) (left : ℕ) → CountsOpen op h own open_of left → i < length (ports op) → is_over h i ≡ false
    → slice_get open_of (port_at own i) ≡ Some was_open → (was_open ≡ 1 + open_at op (port_at (ports op) i) (came i I.Final ∷ h)) × (left ≡ 1 + open_in op (came i I.Final ∷ h))
some_open op h i was_open own open_of left counts lt was at =
    let k = closed op h i lt was in
    let read : Some was_open ≡ Some (open_at op (port_at (ports op) i) h) =
    sym at ∙ ap (λ ps. slice_get open_of (port_at ps i)) counts.ports_are ∙ counts.each (port_at (ports op) i) k.below in
    (some_same was_open (open_at op (port_at (ports op) i) h) read ∙ k.own, counts.all ∙ k.all)

get_set_other : {A : Type 0} (xs : List A) (k j : ℕ) (x : A) → (j ≡ k → ⊥) → slice_get (slice_set xs k x) j ≡ slice_get xs j
get_set_other [] k j x apart = refl
get_set_other (y ∷ xs) zero zero x apart = absurd (apart refl)
get_set_other (y ∷ xs) zero (suc j) x apart = refl
get_set_other (y ∷ xs) (suc k) zero x apart = refl
get_set_other (y ∷ xs) (suc k) (suc j) x apart = get_set_other xs k j x (λ e. apart (ap suc e))

-- the counts with one fewer at the port and in all
pub counts_after : (op : Operator) (h : List Event) (i was_open : ℕ) (own open_of : List ℕ) (left : ℕ) → CountsOpen op h own open_of left → i < length (ports op) → is_over h i ≡ false
    → slice_get open_of (port_at own i) ≡ Some was_open → CountsOpen op (came i I.Final ∷ h) own (slice_set open_of (port_at own i) (was_open - 1)) (left - 1)
counts_after op h i was_open own open_of left counts lt was at = record {
  ports_are = counts.ports_are;
  each = each;
  all = let e = both.1 in omega (arith, e);
}
  where
    k : Closed op h i
    k = closed op h i lt was

    both : (was_open ≡ 1 + open_at op (port_at (ports op) i) (came i I.Final ∷ h)) × (left ≡ 1 + open_in op (came i I.Final ∷ h))
    both = some_open op h i was_open own open_of left counts lt was at

    same_port : port_at own i ≡ port_at (ports op) i
    same_port = ap (λ ps. port_at ps i) counts.ports_are

    each : (p : ℕ) → p < length op.ins → slice_get (slice_set open_of (port_at own i) (was_open - 1)) p ≡ Some (open_at op p (came i I.Final ∷ h))
    each p below = elim (cases_eq p (port_at (ports op) i)) [
      | inl is ↦
          let less : was_open - 1 ≡ open_at op (port_at (ports op) i) (came i I.Final ∷ h) = let e = both.0 in omega (arith, e) in
          let at_port : p ≡ port_at own i = is ∙ sym same_port in
          ap (slice_get (slice_set open_of (port_at own i) (was_open - 1))) at_port ∙ get_set_same open_of (port_at own i) (was_open - 1) (get_within open_of (port_at own i) was_open at)
          ∙ (λ j. Some (less j)) ∙ ap (λ n. Some (open_at op n (came i I.Final ∷ h))) (sym is)
      | inr other ↦ get_set_other open_of (port_at own i) p (was_open - 1) (λ e. other (e ∙ same_port)) ∙ counts.each p below ∙ ap (λ n. Some n) (k.others p other)
    ]

-- a port waits where it has an open connection left
pub waits_by : (op : Operator) (h : List Event) (i : ℕ) → 0 < open_at op (port_at (ports op) i) (came i I.Final ∷ h) → is_waiting op h (came i I.Final) ≡ true
waits_by op h i some = ap not (none_open (λ q. q == port_at (ports op) i) (ports op) 0 (came i I.Final ∷ h) ∙ ne_eqb (open_at op (port_at (ports op) i) (came i I.Final ∷ h)) 0 (λ z. omega (arith, some, z)))

pub waits_not : (op : Operator) (h : List Event) (i : ℕ) → open_at op (port_at (ports op) i) (came i I.Final ∷ h) ≡ 0 → is_waiting op h (came i I.Final) ≡ false
waits_not op h i e = ap not (none_open (λ q. q == port_at (ports op) i) (ports op) 0 (came i I.Final ∷ h) ∙ eq-eqb (open_at op (port_at (ports op) i) (came i I.Final ∷ h)) 0 e)

-- and an operator ends where it has none
pub last_by : (op : Operator) (h : List Event) (i : ℕ) → open_in op (came i I.Final ∷ h) ≡ 0 → ends_all op h (came i I.Final) ≡ true
last_by op h i e = none_open (λ q. true) (ports op) 0 (came i I.Final ∷ h) ∙ eq-eqb (open_in op (came i I.Final ∷ h)) 0 e

pub last_not : (op : Operator) (h : List Event) (i : ℕ) → 0 < open_in op (came i I.Final ∷ h) → ends_all op h (came i I.Final) ≡ false
last_not op h i some = none_open (λ q. true) (ports op) 0 (came i I.Final ∷ h) ∙ ne_eqb (open_in op (came i I.Final ∷ h)) 0 (λ z. omega (arith, some, z))

-- the count of an input's port, as it is read
pub read_at : (own open_of : List ℕ) (i p : ℕ) (found : Option ℕ) → p ≡ port_at own i → slice_get open_of p ≡ found → slice_get open_of (port_at own i) ≡ found
read_at own open_of i p found is at = ap (slice_get open_of) (sym is) ∙ at

-- and as it is written
pub counts_moved : (op : Operator) (h : List Event) (i was_open p : ℕ) (own open_of : List ℕ) (left : ℕ) (next : List ℕ) → CountsOpen op h own open_of left → i < length (ports op)
    → is_over h i ≡ false → p ≡ port_at own i → slice_get open_of (port_at own i) ≡ Some was_open → next ≡ slice_set open_of p (was_open - 1)
    → CountsOpen op (came i I.Final ∷ h) own next (left - 1)
counts_moved op h i was_open p own open_of left next counts lt was is at set =
    subst (λ n. CountsOpen op (came i I.Final ∷ h) own n (left - 1)) (ap (λ k. slice_set open_of k (was_open - 1)) (sym is) ∙ sym set)
    (counts_after op h i was_open own open_of left counts lt was at)

-- a port that has an input there is the one that is read
pub port_read : (own : List ℕ) (i p : ℕ) → slice_get own i ≡ Some p → p ≡ port_at own i
port_read [] i p at = absurd cc
port_read (q ∷ own) zero p at = sym (some_same q p at)
port_read (q ∷ own) (suc i) p at = port_read own i p at

-- the count of an input's port is there
pub count_there : (op : Operator) (h : List Event) (i : ℕ) (own open_of : List ℕ) (left : ℕ) → CountsOpen op h own open_of left → i < length (ports op) → is_over h i ≡ false
    → slice_get open_of (port_at own i) ≡ None → ⊥
count_there op h i own open_of left counts lt was none =
    let k = closed op h i lt was in
    let both : None ≡ Some (open_at op (port_at (ports op) i) h) =
    sym none ∙ ap (λ ps. slice_get open_of (port_at ps i)) counts.ports_are ∙ counts.each (port_at (ports op) i) k.below in
    absurd cc
