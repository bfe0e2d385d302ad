-- What pairs and the place of a key among them say of look-up, of insertion and of removal.
use Rattle.std.specs.Prelude.{◌≡◌, ◌≢◌, ℕ, zero, suc, ◌+◌, ◌<◌, ◌≤◌, Bool, true, false, cond, not, IsTrue, List, [], ◌∷◌, length, Some, None, Result, Ok, Err, MatchResult, slice_get, slice_set, slice_index_or}
use Rattle.std.specs.List.{insert, remove, Contains, HoldsAt}
use Rattle.std.specs.List.Sorted.{IsNonDecreasingBy, IsSearchInRange, IsBinarySearchResult}
use Rattle.std.specs.declared.cmp.Ordering.{Ordering}
use Rattle.std.specs.declared.cmp.Ordering.TheVariants.{Less, Equal, Greater}
use Rattle.std.specs.Ordering.{eq_by_cmp, is_eq, is_lt, ordering_reverse, ordering_index}
use Rattle.std.specs.Cmp.{first_so, second_so}
use Rattle.std.specs.Cmp.Derive.{both_true}
use Rattle.std.specs.FinMap.Entries.{below_all, by_order, is_sorted-put, is_sorted-where_key, find-put, find-where_key, same_entries}
use Rattle.std.proofs.Common.{refl, sym, ap, subst, ◌∙◌, arith, T}
use Rattle.std.proofs.lemmas.List.Sorted.{IsNonDecreasingBy-from_all_adjacent}
use Rattle.std.proofs.lemmas.Option.{slice_get-get_or, get_or_from_slice_get}
use Rattle.spl_value.specs.declared.value.Value.{Value}
use Rattle.spl_value.specs.Order.{value_cmp}
use Rattle.spl_value.proofs.OrderLaws.{value_cmp_total, value_cmp-IsAntisymmetric, value_cmp-itself}
use Rattle.spl_value.specs.Pairs.{are_pairs, pairs_get, pairs_put, pairs_without, KeysRise, IsAt, IsGap}

is_lt-Less : (o : Ordering) → is_lt o ≡ true → o ≡ Less
is_lt-Less Less e = refl
is_lt-Less Equal e = absurd cc
is_lt-Less Greater e = absurd cc

true_from : (b : Bool) → T b → b ≡ true
true_from true h = refl
true_from false h = absurd h

pub turned : (v w : Value) (o : Ordering) → value_cmp v w ≡ o → value_cmp w v ≡ ordering_reverse o
turned v w o e = value_cmp_total.antisymm w v ∙ ap ordering_reverse e

-- ---- the keys rise

below_at : (x : Value) (ps : List (Value × Value)) (i : ℕ) (p : Value × Value) → below_all value_cmp x ps ≡ true → slice_get ps i ≡ Some p → value_cmp x p.0 ≡ Less
below_at x [] i p h e = absurd cc
below_at x (q ∷ ps) zero p h e =
    let s : q ≡ p = cc in
    ap (λ (r : Value × Value). value_cmp x r.0) (sym s) ∙ is_lt-Less (value_cmp x q.0) (first_so (is_lt (value_cmp x q.0)) (below_all value_cmp x ps) h)
below_at x (q ∷ ps) (suc i) p h e = below_at x ps i p (second_so (is_lt (value_cmp x q.0)) (below_all value_cmp x ps) h) e

pub keys_rise : (ps : List (Value × Value)) → IsTrue (are_pairs ps) → KeysRise ps
keys_rise [] h i j p q lt e f = absurd cc
keys_rise (r ∷ ps) h zero zero p q lt e f = absurd (omega arith)
keys_rise (r ∷ ps) h zero (suc j) p q lt e f =
    let s : r ≡ p = cc in
    ap (λ (x : Value × Value). value_cmp x.0 q.0) (sym s) ∙ below_at r.0 ps j q (first_so (below_all value_cmp r.0 ps) (are_pairs ps) h) f
keys_rise (r ∷ ps) h (suc i) zero p q lt e f = absurd (omega arith)
keys_rise (r ∷ ps) h (suc i) (suc j) p q lt e f = keys_rise ps (second_so (below_all value_cmp r.0 ps) (are_pairs ps) h) i j p q (omega arith) e f

below_from : (x : Value) (ps : List (Value × Value)) → ((j : ℕ) (q : Value × Value) → slice_get ps j ≡ Some q → value_cmp x q.0 ≡ Less) → below_all value_cmp x ps ≡ true
below_from x [] h = refl
below_from x (q ∷ ps) h = both_true (ap is_lt (h 0 q refl)) (below_from x ps (λ j r e. h (suc j) r e))

pub pairs_from_rise : (ps : List (Value × Value)) → KeysRise ps → IsTrue (are_pairs ps)
pairs_from_rise [] h = refl
pairs_from_rise (r ∷ ps) h =
    both_true (below_from r.0 ps (λ j q e. h 0 (suc j) r q (omega arith) refl e)) (pairs_from_rise ps (λ i j p q lt e f. h (suc i) (suc j) p q (omega arith) e f))

-- ---- what a binary search finds

index_rises : (v w k : Value) → value_cmp v w ≡ Less → ordering_index (value_cmp v k) ≤ ordering_index (value_cmp w k)
index_rises v w k e =
    elim (value_cmp v k) as (λ o. value_cmp v k ≡ o → ordering_index o ≤ ordering_index (value_cmp w k)) [
      | Less ↦ λ p. omega arith
      | Equal ↦ λ p. let g : value_cmp w k ≡ Greater = sym (ap (value_cmp w) (value_cmp-IsAntisymmetric v k p)) ∙ turned v w Less e in subst (λ o. 1 ≤ ordering_index o) (sym g) (omega arith)
      | Greater ↦ λ p. let g : value_cmp w k ≡ Greater = turned k w Less (value_cmp_total.trans k v w (turned v k Greater p) e) in subst (λ o. 2 ≤ ordering_index o) (sym g) (omega arith)
    ] refl

-- the comparison with k never falls along the pairs
answers_rise : (k : Value) (ps : List (Value × Value)) → IsTrue (are_pairs ps) → IsNonDecreasingBy (λ p. ordering_index (value_cmp p.0 k)) ps
answers_rise k ps h =
    IsNonDecreasingBy-from_all_adjacent (λ (p : Value × Value). ordering_index (value_cmp p.0 k)) ps
    (λ i d lt.
    let p = slice_index_or ps i d in
    let q = slice_index_or ps (i + 1) d in
    index_rises p.0 q.0 k (keys_rise ps h i (i + 1) p q (omega arith) (slice_get-get_or ps i d (omega arith)) (slice_get-get_or ps (i + 1) d lt)))

found_at : (k : Value) (ps : List (Value × Value)) (i : ℕ) → i < length ps → HoldsAt (λ p. value_cmp p.0 k ≡ Equal) ps i → IsAt k ps i
found_at k [] i lt h = absurd (omega arith)
found_at k (q ∷ ps) zero lt h = (q.1, λ i. Some (value_cmp-IsAntisymmetric q.0 k (h q) i, q.1))
found_at k (q ∷ ps) (suc i) lt h = found_at k ps i (omega arith) (λ d. h d)

pub place_of_key : (k : Value) (ps : List (Value × Value)) (r : Result ℕ ℕ) → IsTrue (are_pairs ps) → IsSearchInRange r (length ps)
    → IsBinarySearchResult (λ p. value_cmp p.0 k) ps r → MatchResult r (IsAt k ps) (IsGap k ps)
place_of_key k ps (Ok i) s within h = found_at k ps i within h
place_of_key k ps (Err i) s within h = let parts = h (answers_rise k ps s) in record { within = within; before = parts.0; behind = parts.1 }

-- ---- where the key stands

module _ (k : Value) where
  -- the first key is below k
  past : (q : Value × Value) (ps : List (Value × Value)) (i : ℕ) → IsTrue (are_pairs (q ∷ ps)) → IsAt k ps i → value_cmp k q.0 ≡ Greater
  past q ps i s (v, e) = turned q.0 k Less (below_at q.0 ps i (k, v) (first_so (below_all value_cmp q.0 ps) (are_pairs ps) s) e)

  rest : (q : Value × Value) (ps : List (Value × Value)) → IsTrue (are_pairs (q ∷ ps)) → IsTrue (are_pairs ps)
  rest q ps s = second_so (below_all value_cmp q.0 ps) (are_pairs ps) s

  pub get_at : (ps : List (Value × Value)) (i : ℕ) (v : Value) → IsTrue (are_pairs ps) → slice_get ps i ≡ Some (k, v) → pairs_get ps k ≡ Some v
  get_at [] i v s e = absurd cc
  get_at (q ∷ ps) zero v s e =
      let is : q ≡ (k, v) = cc in
      subst (λ (r : Value × Value). pairs_get (r ∷ ps) k ≡ Some v) (sym is) (ap (λ o. cond (is_eq o) (Some v) (pairs_get ps k)) (value_cmp-itself k))
  get_at (q ∷ ps) (suc i) v s e = ap (λ o. cond (is_eq o) (Some q.1) (pairs_get ps k)) (past q ps i s (v, e)) ∙ get_at ps i v (rest q ps s) e

  pub set_at : (ps : List (Value × Value)) (i : ℕ) (w : Value) → IsTrue (are_pairs ps) → IsAt k ps i → slice_set ps i (k, w) ≡ pairs_put ps k w
  set_at [] i w s (v, e) = absurd cc
  set_at (q ∷ ps) zero w s (v, e) =
      let is : q ≡ (k, v) = cc in
      subst (λ (r : Value × Value). (k, w) ∷ ps ≡ pairs_put (r ∷ ps) k w) (sym is) (sym (ap (λ o. by_order o ((k, w) ∷ (k, v) ∷ ps) ((k, w) ∷ ps) ((k, v) ∷ pairs_put ps k w)) (value_cmp-itself k)))
  set_at (q ∷ ps) (suc i) w s (v, e) =
      ap (λ l. q ∷ l) (set_at ps i w (rest q ps s) (v, e)) ∙ sym (ap (λ o. by_order o ((k, w) ∷ q ∷ ps) ((q.0, w) ∷ ps) (q ∷ pairs_put ps k w)) (past q ps i s (v, e)))

  above_others : (ps : List (Value × Value)) → below_all value_cmp k ps ≡ true → pairs_without ps k ≡ ps
  above_others [] h = refl
  above_others (q ∷ ps) h =
      ap (λ o. cond (not (is_eq o)) (q ∷ pairs_without ps k) (pairs_without ps k)) (is_lt-Less (value_cmp k q.0) (first_so (is_lt (value_cmp k q.0)) (below_all value_cmp k ps) h))
      ∙ ap (λ l. q ∷ l) (above_others ps (second_so (is_lt (value_cmp k q.0)) (below_all value_cmp k ps) h))

  pub remove_at : (ps : List (Value × Value)) (i : ℕ) → IsTrue (are_pairs ps) → IsAt k ps i → remove ps i ≡ pairs_without ps k
  remove_at [] i s (v, e) = absurd cc
  remove_at (q ∷ ps) zero s (v, e) =
      let is : q ≡ (k, v) = cc in
      let above : below_all value_cmp k ps ≡ true = subst (λ (r : Value × Value). below_all value_cmp r.0 ps ≡ true) is (first_so (below_all value_cmp q.0 ps) (are_pairs ps) s) in
      subst (λ (r : Value × Value). ps ≡ pairs_without (r ∷ ps) k) (sym is)
      (sym (ap (λ o. cond (not (is_eq o)) ((k, v) ∷ pairs_without ps k) (pairs_without ps k)) (value_cmp-itself k) ∙ above_others ps above))
  remove_at (q ∷ ps) (suc i) s (v, e) =
      ap (λ l. q ∷ l) (remove_at ps i (rest q ps s) (v, e)) ∙ sym (ap (λ o. cond (not (is_eq o)) (q ∷ pairs_without ps k) (pairs_without ps k)) (past q ps i s (v, e)))

  pub read_at : (ps : List (Value × Value)) (i : ℕ) (d : Value × Value) → IsTrue (are_pairs ps) → IsAt k ps i → Some (slice_index_or ps i d).1 ≡ pairs_get ps k
  read_at ps i d s (v, e) = ap (λ (p : Value × Value). Some p.1) (get_or_from_slice_get ps i (k, v) d e) ∙ sym (get_at ps i v s e)

  pub value_at : (ps : List (Value × Value)) (i : ℕ) (p : Value × Value) → IsTrue (are_pairs ps) → IsAt k ps i → slice_get ps i ≡ Some p → Some p.1 ≡ pairs_get ps k
  value_at ps i p s (v, e) is = let same : p ≡ (k, v) = cc in ap (λ (p : Value × Value). Some p.1) same ∙ sym (get_at ps i v s e)

  pub write_at : (ps : List (Value × Value)) (i : ℕ) (p : Value × Value) (w : Value) → IsTrue (are_pairs ps) → IsAt k ps i → slice_get ps i ≡ Some p → slice_set ps i (p.0, w) ≡ pairs_put ps k w
  write_at ps i p w s (v, e) is = let same : p ≡ (k, v) = cc in ap (λ (q : Value × Value). slice_set ps i (q.0, w)) same ∙ set_at ps i w s (v, e)

-- ---- where the key belongs

module _ (k : Value) where
  later : (q : Value × Value) (ps : List (Value × Value)) (i : ℕ) → IsGap k (q ∷ ps) (suc i) → IsGap k ps i
  later q ps i g = record {
    within = omega (arith, g.within);
    before = λ j d l h. g.before (suc j) d (omega arith) (omega arith);
    behind = λ j d l h. g.behind (suc j) d (omega arith) (omega arith);
  }

  later_all : (q : Value × Value) (ps : List (Value × Value)) → IsGap k (q ∷ ps) 0 → IsGap k ps 0
  later_all q ps g = record {
    within = omega arith;
    before = λ j d l h. absurd (omega arith);
    behind = λ j d l h. g.behind (suc j) d (omega arith) (omega arith);
  }

  low : (q : Value × Value) (ps : List (Value × Value)) (i : ℕ) → IsGap k (q ∷ ps) (suc i) → value_cmp k q.0 ≡ Greater
  low q ps i g = turned q.0 k Less (g.before 0 q (omega arith) (omega arith))

  high : (q : Value × Value) (ps : List (Value × Value)) → IsGap k (q ∷ ps) 0 → value_cmp k q.0 ≡ Less
  high q ps g = turned q.0 k Greater (g.behind 0 q (omega arith) (omega arith))

  pub none_at_gap : (ps : List (Value × Value)) (i : ℕ) → IsGap k ps i → None ≡ pairs_get ps k
  none_at_gap [] i g = refl
  none_at_gap (q ∷ ps) zero g = none_at_gap ps zero (later_all q ps g) ∙ sym (ap (λ o. cond (is_eq o) (Some q.1) (pairs_get ps k)) (high q ps g))
  none_at_gap (q ∷ ps) (suc i) g = none_at_gap ps i (later q ps i g) ∙ sym (ap (λ o. cond (is_eq o) (Some q.1) (pairs_get ps k)) (low q ps i g))

  pub insert_at_gap : (ps : List (Value × Value)) (i : ℕ) (w : Value) → IsGap k ps i → insert ps i (k, w) ≡ pairs_put ps k w
  insert_at_gap [] zero w g = refl
  insert_at_gap [] (suc i) w g = absurd (omega (arith, g.within))
  insert_at_gap (q ∷ ps) zero w g = sym (ap (λ o. by_order o ((k, w) ∷ q ∷ ps) ((q.0, w) ∷ ps) (q ∷ pairs_put ps k w)) (high q ps g))
  insert_at_gap (q ∷ ps) (suc i) w g =
      ap (λ l. q ∷ l) (insert_at_gap ps i w (later q ps i g)) ∙ sym (ap (λ o. by_order o ((k, w) ∷ q ∷ ps) ((q.0, w) ∷ ps) (q ∷ pairs_put ps k w)) (low q ps i g))

  pub same_at_gap : (ps : List (Value × Value)) (i : ℕ) → IsGap k ps i → ps ≡ pairs_without ps k
  same_at_gap [] i g = refl
  same_at_gap (q ∷ ps) zero g = ap (λ l. q ∷ l) (same_at_gap ps zero (later_all q ps g)) ∙ sym (ap (λ o. cond (not (is_eq o)) (q ∷ pairs_without ps k) (pairs_without ps k)) (high q ps g))
  same_at_gap (q ∷ ps) (suc i) g = ap (λ l. q ∷ l) (same_at_gap ps i (later q ps i g)) ∙ sym (ap (λ o. cond (not (is_eq o)) (q ∷ pairs_without ps k) (pairs_without ps k)) (low q ps i g))

-- ---- the order is kept

pub put_are_pairs : (ps : List (Value × Value)) (k v : Value) → IsTrue (are_pairs ps) → IsTrue (are_pairs (pairs_put ps k v))
put_are_pairs ps k v s = true_from _ (is_sorted-put value_cmp value_cmp_total k v ps (subst T (sym s) tt))

pub without_are_pairs : (ps : List (Value × Value)) (k : Value) → IsTrue (are_pairs ps) → IsTrue (are_pairs (pairs_without ps k))
without_are_pairs ps k s = true_from _ (is_sorted-where_key value_cmp (λ q. not (eq_by_cmp value_cmp k q)) ps (subst T (sym s) tt))

-- ---- look-up after a change

differ : (q k : Value) → q ≢ k → eq_by_cmp value_cmp q k ≡ false
differ q k ne =
    elim (value_cmp q k) as (λ o. value_cmp q k ≡ o → is_eq o ≡ false) [
      | Less ↦ λ e. refl
      | Equal ↦ λ e. absurd (ne (value_cmp-IsAntisymmetric q k e))
      | Greater ↦ λ e. refl
    ] refl

pub get-put : (ps : List (Value × Value)) (k v : Value) → pairs_get (pairs_put ps k v) k ≡ Some v
get-put ps k v = find-put value_cmp value_cmp_total k k v ps ∙ ap (λ o. cond (is_eq o) (Some v) (pairs_get ps k)) (value_cmp-itself k)

pub get-put_other : (ps : List (Value × Value)) (k v q : Value) → q ≢ k → pairs_get (pairs_put ps k v) q ≡ pairs_get ps q
get-put_other ps k v q ne = find-put value_cmp value_cmp_total q k v ps ∙ ap (λ b. cond b (Some v) (pairs_get ps q)) (differ q k ne)

get_where : (ps : List (Value × Value)) (k q : Value) → pairs_get (pairs_without ps k) q ≡ cond (not (eq_by_cmp value_cmp k q)) (pairs_get ps q) None
get_where ps k q = find-where_key value_cmp (λ x. not (eq_by_cmp value_cmp k x)) q (λ x e. ap (λ y. not (eq_by_cmp value_cmp k y)) (sym (value_cmp-IsAntisymmetric q x e))) ps

pub get-without : (ps : List (Value × Value)) (k : Value) → pairs_get (pairs_without ps k) k ≡ None
get-without ps k = get_where ps k k ∙ ap (λ o. cond (not (is_eq o)) (pairs_get ps k) None) (value_cmp-itself k)

pub get-without_other : (ps : List (Value × Value)) (k q : Value) → q ≢ k → pairs_get (pairs_without ps k) q ≡ pairs_get ps q
get-without_other ps k q ne = get_where ps k q ∙ ap (λ b. cond (not b) (pairs_get ps q) None) (differ k q (λ e. ne (sym e)))

-- ---- pairs by their look-up

pub get_from_Contains : (ps : List (Value × Value)) (k v : Value) → IsTrue (are_pairs ps) → Contains ps (k, v) → pairs_get ps k ≡ Some v
get_from_Contains ps k v s (i, lt, e) = get_at k ps i v s (slice_get-get_or ps i (k, v) lt ∙ ap Some e)

later_pair : (p : Value × Value) (ps : List (Value × Value)) (q : Value × Value) → Contains ps q → Contains (p ∷ ps) q
later_pair p ps q (i, lt, e) = (suc i, omega arith, e)

pub Contains_from_get : (ps : List (Value × Value)) (k v : Value) → pairs_get ps k ≡ Some v → Contains ps (k, v)
Contains_from_get [] k v e = absurd cc
Contains_from_get (p ∷ ps) k v e =
    elim (value_cmp k p.0) as (λ o. value_cmp k p.0 ≡ o → cond (is_eq o) (Some p.1) (pairs_get ps k) ≡ Some v → Contains (p ∷ ps) (k, v)) [
      | Less ↦ λ o is. later_pair p ps (k, v) (Contains_from_get ps k v is)
      | Equal ↦ λ o is. let s : p.1 ≡ v = cc in (0, omega arith, λ i. (sym (value_cmp-IsAntisymmetric k p.0 o) i, s i))
      | Greater ↦ λ o is. later_pair p ps (k, v) (Contains_from_get ps k v is)
    ] refl e

pub same_pairs : (ps qs : List (Value × Value)) → IsTrue (are_pairs ps) → IsTrue (are_pairs qs) → ((k : Value) → pairs_get ps k ≡ pairs_get qs k) → ps ≡ qs
same_pairs ps qs s t is = same_entries value_cmp value_cmp_total value_cmp-IsAntisymmetric ps qs (subst T (sym s) tt) (subst T (sym t) tt) is

-- for the calls on pairs
pub ruleset pairs_laws = (read_at, value_at, set_at, remove_at, none_at_gap, insert_at_gap, same_at_gap, put_are_pairs, without_are_pairs)
