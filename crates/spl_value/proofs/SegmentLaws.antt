-- What a list in segments is after a change in one of them, and what sorted pairs in segments say of a key.
use Rattle.std.specs.Prelude.{◌≡◌, ◌≢◌, ℕ, zero, suc, ◌+◌, ◌<◌, ◌≤◌, Bool, true, false, cond, not, IsTrue, List, [], ◌∷◌, ◌++◌, length, Some, None, Result, Ok, Err, OnOk, OnErr, nat_eq, slice_get, slice_set, slice_index_or}
use Rattle.std.specs.List.{insert, remove}
use Rattle.std.specs.declared.cmp.Ordering.{Ordering}
use Rattle.std.specs.declared.cmp.Ordering.TheVariants.{Less, Equal, Greater}
use Rattle.std.specs.Ordering.{is_eq, is_lt, ordering_index}
use Rattle.std.specs.Cmp.{first_so, second_so}
use Rattle.std.specs.Cmp.Derive.{both_true}
use Rattle.std.specs.FinMap.Entries.{below_all, by_order, length-put, length_without}
use Rattle.std.proofs.Common.{refl, sym, ap, subst, ◌∙◌, arith, take, drop, T, length-append}
use Rattle.std.proofs.lemmas.Bool.{eqb-true, eq-eqb}
use Rattle.std.proofs.lemmas.List.{append-nil, length-set, take-append-drop, append_assoc}
use Rattle.std.proofs.lemmas.List.Concat.{flat_map-append}
use Rattle.spl_value.specs.declared.value.Value.{Value}
use Rattle.spl_value.specs.Order.{value_cmp}
use Rattle.spl_value.specs.Flattened.{flattened}
use Rattle.spl_value.specs.Pairs.{IsAt, are_pairs, pairs_get, pairs_contain, pairs_put, pairs_without}
use Rattle.spl_value.specs.steps.Segments.{are_below, are_above, IsSegmentOf, IsInSegment}
use Rattle.spl_value.proofs.OrderLaws.{value_cmp_total, value_cmp-IsAntisymmetric}
use Rattle.spl_value.proofs.PairsLaws.{turned, write_at, value_at}
use Rattle.spl_value.proofs.Lists.{item_there, get_within, next_rest}

is_lt-Less : (o : Ordering) → is_lt o ≡ true → o ≡ Less
is_lt-Less Less e = refl
is_lt-Less Equal e = absurd cc
is_lt-Less Greater e = absurd cc

-- ---- lists in segments

module _ {A : Type 0} where
  pub flattened-append : (xss yss : List (List A)) → flattened (xss ++ yss) ≡ flattened xss ++ flattened yss
  flattened-append xss yss = flat_map-append (λ xs. xs) xss yss

  pub flattened-one : (xs : List A) → flattened (xs ∷ []) ≡ xs
  flattened-one xs = append-nil xs

  -- a segment of one item at the end
  pub flattened-push : (xss : List (List A)) (x : A) → flattened (xss ++ (x ∷ []) ∷ []) ≡ flattened xss ++ x ∷ []
  flattened-push xss x = flattened-append xss ((x ∷ []) ∷ [])

  -- an item at the end of the last segment
  pub flattened-set_last : (xss : List (List A)) (c : ℕ) (xs : List A) (x : A) → suc c ≡ length xss
      → slice_get xss c ≡ Some xs → flattened (slice_set xss c (xs ++ x ∷ [])) ≡ flattened xss ++ x ∷ []
  flattened-set_last [] c xs x w e = absurd (omega (arith, w))
  flattened-set_last (ys ∷ []) zero xs x w e =
      let is : ys ≡ xs = cc in
      flattened-one (xs ++ x ∷ []) ∙ sym (ap (λ l. l ++ x ∷ []) (flattened-one ys ∙ is))
  flattened-set_last (ys ∷ zs ∷ xss) zero xs x w e = absurd (omega (arith, w))
  flattened-set_last (ys ∷ xss) (suc c) xs x w e =
      ap (λ l. ys ++ l) (flattened-set_last xss c xs x (omega (arith, w)) e)
      ∙ sym (append_assoc ys (flattened xss) (x ∷ []))

  -- a segment moves to the items that were gathered
  pub more_items : (gathered all left xs whole : List A) → all ≡ gathered ++ xs → gathered ++ (xs ++ left) ≡ whole
      → all ++ left ≡ whole
  more_items gathered all left xs whole e h = ap (λ l. l ++ left) e ∙ append_assoc gathered xs left ∙ h

  -- around a segment stand the segments before it and behind it
  pub flattened-around : (xss : List (List A)) (c : ℕ) (xs : List A) → slice_get xss c ≡ Some xs
      → flattened xss ≡ flattened (take c xss) ++ (xs ++ flattened (drop (suc c) xss))
  flattened-around [] c xs e = absurd cc
  flattened-around (ys ∷ xss) zero xs e = let is : ys ≡ xs = cc in ap (λ l. l ++ flattened xss) is
  flattened-around (ys ∷ xss) (suc c) xs e =
      ap (λ l. ys ++ l) (flattened-around xss c xs e)
      ∙ sym (append_assoc ys (flattened (take c xss)) (xs ++ flattened (drop (suc c) xss)))

  pub flattened-set : (xss : List (List A)) (c : ℕ) (xs : List A) → c < length xss
      → flattened (slice_set xss c xs) ≡ flattened (take c xss) ++ (xs ++ flattened (drop (suc c) xss))
  flattened-set [] c xs w = absurd (omega (arith, w))
  flattened-set (ys ∷ xss) zero xs w = refl
  flattened-set (ys ∷ xss) (suc c) xs w =
      ap (λ l. ys ++ l) (flattened-set xss c xs (omega (arith, w)))
      ∙ sym (append_assoc ys (flattened (take c xss)) (xs ++ flattened (drop (suc c) xss)))

  pub flattened-from : (xss : List (List A)) (c : ℕ) → flattened xss ≡ flattened (take c xss) ++ flattened (drop c xss)
  flattened-from xss c = ap flattened (sym (take-append-drop c xss)) ∙ flattened-append (take c xss) (drop c xss)

  pub set_same : (xs : List A) (i : ℕ) (x : A) → slice_get xs i ≡ Some x → slice_set xs i x ≡ xs
  set_same [] i x e = absurd cc
  set_same (y ∷ xs) zero x e = let is : y ≡ x = cc in ap (λ z. z ∷ xs) (sym is)
  set_same (y ∷ xs) (suc i) x e = ap (λ l. y ∷ l) (set_same xs i x e)

  -- a segment is split: an empty one is put behind it, which then has its back
  pub flattened-split : (xss : List (List A)) (c h : ℕ) (xs : List A) → c < length xss
      → slice_get (insert xss (suc c) []) c ≡ Some xs
      → flattened (slice_set (slice_set (insert xss (suc c) []) c (take h xs)) (suc c) (drop h xs)) ≡ flattened xss
  flattened-split [] c h xs w e = absurd (omega (arith, w))
  flattened-split (ys ∷ xss) zero h xs w e =
      let is : ys ≡ xs = cc in
      sym (append_assoc (take h xs) (drop h xs) (flattened xss))
      ∙ ap (λ l. l ++ flattened xss) (take-append-drop h xs ∙ sym is)
  flattened-split (ys ∷ xss) (suc c) h xs w e = ap (λ l. ys ++ l) (flattened-split xss c h xs (omega (arith, w)) e)

  -- the same over the lists as they stand at each step
  pub split-same : (xss yss zss : List (List A)) (c d h : ℕ) (xs ys zs : List A) → c < length xss → d ≡ suc c
      → yss ≡ insert xss d [] → slice_get yss c ≡ Some xs → ys ≡ take h xs → zs ≡ drop h xs
      → zss ≡ slice_set (slice_set yss c ys) d zs → flattened zss ≡ flattened xss
  split-same xss yss zss c d h xs ys zs w p q e r t u =
      let inserted : yss ≡ insert xss (suc c) [] = q ∙ ap (λ n. insert xss n []) p in
      ap flattened u
      ∙ (λ i. flattened (slice_set (slice_set (inserted i) c (r i)) (p i) (t i)))
      ∙ flattened-split xss c h xs w (subst (λ l. slice_get l c ≡ Some xs) inserted e)

  pub flattened-insert_empty : (xss : List (List A)) (c : ℕ) → c ≤ length xss
      → flattened (insert xss c []) ≡ flattened xss
  flattened-insert_empty xss zero w = refl
  flattened-insert_empty [] (suc c) w = absurd (omega (arith, w))
  flattened-insert_empty (xs ∷ xss) (suc c) w = ap (λ l. xs ++ l) (flattened-insert_empty xss c (omega (arith, w)))

  pub flattened-remove_empty : (xss : List (List A)) (c : ℕ) → slice_get xss c ≡ Some []
      → flattened (remove xss c) ≡ flattened xss
  flattened-remove_empty [] c e = absurd cc
  flattened-remove_empty (xs ∷ xss) zero e = let is : xs ≡ [] = cc in ap (λ l. l ++ flattened xss) (sym is)
  flattened-remove_empty (xs ∷ xss) (suc c) e = ap (λ l. xs ++ l) (flattened-remove_empty xss c e)

  length-around : (a xs ys b : List A) → length xs ≡ length ys → length (a ++ (xs ++ b)) ≡ length (a ++ (ys ++ b))
  length-around a xs ys b e =
      length-append a (xs ++ b)
      ∙ ap (λ n. length a + n) (length-append xs b ∙ ap (λ n. n + length b) e ∙ sym (length-append ys b))
      ∙ sym (length-append a (ys ++ b))

  -- another segment of that length leaves as many items
  pub length-flattened-set : (xss : List (List A)) (c : ℕ) (xs ys : List A) → slice_get xss c ≡ Some xs
      → length ys ≡ length xs → length (flattened xss) ≡ length (flattened (slice_set xss c ys))
  length-flattened-set xss c xs ys e l =
      ap length (flattened-around xss c xs e)
      ∙ length-around (flattened (take c xss)) xs ys (flattened (drop (suc c) xss)) (sym l)
      ∙ sym (ap length (flattened-set xss c ys (get_within xss c xs e)))

-- ---- sorted pairs in parts

abbrev Pairs : Type 0
Pairs = List (Value × Value)

module _ (p : Value × Value) (a : Pairs) where
  head_below : IsTrue (are_pairs (p ∷ a)) → IsTrue (are_above p.0 a)
  head_below s = first_so (below_all value_cmp p.0 a) (are_pairs a) s

  tail_sorted : IsTrue (are_pairs (p ∷ a)) → IsTrue (are_pairs a)
  tail_sorted s = second_so (below_all value_cmp p.0 a) (are_pairs a) s

  head_above : (k : Value) → IsTrue (are_above k (p ∷ a)) → value_cmp k p.0 ≡ Less
  head_above k h = is_lt-Less (value_cmp k p.0) (first_so (is_lt (value_cmp k p.0)) (are_above k a) h)

  tail_above : (k : Value) → IsTrue (are_above k (p ∷ a)) → IsTrue (are_above k a)
  tail_above k h = second_so (is_lt (value_cmp k p.0)) (are_above k a) h

  head_behind : (k : Value) → IsTrue (are_below k (p ∷ a)) → value_cmp k p.0 ≡ Greater
  head_behind k h =
      turned p.0 k Less (is_lt-Less (value_cmp p.0 k) (first_so (is_lt (value_cmp p.0 k)) (are_below k a) h))

  tail_behind : (k : Value) → IsTrue (are_below k (p ∷ a)) → IsTrue (are_below k a)
  tail_behind k h = second_so (is_lt (value_cmp p.0 k)) (are_below k a) h

back_sorted : (a b : Pairs) → IsTrue (are_pairs (a ++ b)) → IsTrue (are_pairs b)
back_sorted [] b s = s
back_sorted (p ∷ a) b s = back_sorted a b (tail_sorted p (a ++ b) s)

front_above : (k : Value) (a b : Pairs) → IsTrue (are_above k (a ++ b)) → IsTrue (are_above k a)
front_above k [] b h = refl
front_above k (p ∷ a) b h =
    both_true (ap is_lt (head_above p (a ++ b) k h)) (front_above k a b (tail_above p (a ++ b) k h))

front_sorted : (a b : Pairs) → IsTrue (are_pairs (a ++ b)) → IsTrue (are_pairs a)
front_sorted [] b s = refl
front_sorted (p ∷ a) b s =
    both_true (front_above p.0 a b (head_below p (a ++ b) s)) (front_sorted a b (tail_sorted p (a ++ b) s))

-- what is above a key is above each lower one
lower_above : (k x : Value) (b : Pairs) → value_cmp k x ≡ Less → IsTrue (are_above x b) → IsTrue (are_above k b)
lower_above k x [] e h = refl
lower_above k x (p ∷ b) e h =
    both_true (ap is_lt (value_cmp_total.trans k x p.0 e (head_above p b x h)))
    (lower_above k x b e (tail_above p b x h))

-- where a key is above k, so are it and all behind it
all_above : (k : Value) (p : Value × Value) (b : Pairs) → IsTrue (are_pairs (p ∷ b)) → value_cmp p.0 k ≡ Greater
    → IsTrue (are_above k (p ∷ b))
all_above k p b s e =
    let less = turned p.0 k Greater e in both_true (ap is_lt less) (lower_above k p.0 b less (head_below p b s))

above_at : (x : Value) (a : Pairs) (p : Value × Value) (b : Pairs) → IsTrue (are_above x (a ++ p ∷ b))
    → value_cmp x p.0 ≡ Less
above_at x [] p b h = head_above p b x h
above_at x (q ∷ a) p b h = above_at x a p b (tail_above q (a ++ p ∷ b) x h)

less_than : (x y k : Value) → value_cmp x y ≡ Less → value_cmp y k ≢ Greater → value_cmp x k ≡ Less
less_than x y k l n =
    elim (value_cmp y k) as (λ o. value_cmp y k ≡ o → value_cmp x k ≡ Less) [
      | Less ↦ λ e. value_cmp_total.trans x y k l e
      | Equal ↦ λ e. ap (value_cmp x) (sym (value_cmp-IsAntisymmetric y k e)) ∙ l
      | Greater ↦ λ e. absurd (n e)
    ] refl

-- where a key isn't above k, all before it are below
all_below : (k : Value) (a : Pairs) (p : Value × Value) (b : Pairs) → IsTrue (are_pairs (a ++ p ∷ b))
    → value_cmp p.0 k ≢ Greater
    → IsTrue (are_below k a)
all_below k [] p b s n = refl
all_below k (q ∷ a) p b s n =
    both_true (ap is_lt (less_than q.0 p.0 k (above_at q.0 a p b (head_below q (a ++ p ∷ b) s)) n))
    (all_below k a p b (tail_sorted q (a ++ p ∷ b) s) n)

-- ---- a key among pairs in parts

module _ (k : Value) where
  get_behind : (a ys : Pairs) → IsTrue (are_below k a) → pairs_get (a ++ ys) k ≡ pairs_get ys k
  get_behind [] ys h = refl
  get_behind (p ∷ a) ys h =
      ap (λ o. cond (is_eq o) (Some p.1) (pairs_get (a ++ ys) k)) (head_behind p a k h)
      ∙ get_behind a ys (tail_behind p a k h)

  get_above : (b : Pairs) → IsTrue (are_above k b) → pairs_get b k ≡ None
  get_above [] h = refl
  get_above (p ∷ b) h =
      ap (λ o. cond (is_eq o) (Some p.1) (pairs_get b k)) (head_above p b k h) ∙ get_above b (tail_above p b k h)

  get_before : (x b : Pairs) → IsTrue (are_above k b) → pairs_get (x ++ b) k ≡ pairs_get x k
  get_before [] b h = get_above b h
  get_before (p ∷ x) b h = ap (λ r. cond (is_eq (value_cmp k p.0)) (Some p.1) r) (get_before x b h)

  put_behind : (a ys : Pairs) (v : Value) → IsTrue (are_below k a) → pairs_put (a ++ ys) k v ≡ a ++ pairs_put ys k v
  put_behind [] ys v h = refl
  put_behind (p ∷ a) ys v h =
      ap (λ o. by_order o ((k, v) ∷ p ∷ (a ++ ys)) ((p.0, v) ∷ (a ++ ys)) (p ∷ pairs_put (a ++ ys) k v))
      (head_behind p a k h)
      ∙ ap (λ l. p ∷ l) (put_behind a ys v (tail_behind p a k h))

  put_above : (b : Pairs) (v : Value) → IsTrue (are_above k b) → pairs_put b k v ≡ (k, v) ∷ b
  put_above [] v h = refl
  put_above (p ∷ b) v h =
      ap (λ o. by_order o ((k, v) ∷ p ∷ b) ((p.0, v) ∷ b) (p ∷ pairs_put b k v)) (head_above p b k h)

  put_before : (x b : Pairs) (v : Value) → IsTrue (are_above k b) → pairs_put (x ++ b) k v ≡ pairs_put x k v ++ b
  put_before [] b v h = put_above b v h
  put_before (p ∷ x) b v h =
      elim (value_cmp k p.0) as (λ o.
      by_order o ((k, v) ∷ p ∷ (x ++ b)) ((p.0, v) ∷ (x ++ b)) (p ∷ pairs_put (x ++ b) k v)
      ≡ by_order o ((k, v) ∷ p ∷ x) ((p.0, v) ∷ x) (p ∷ pairs_put x k v) ++ b) [
        | Less ↦ refl
        | Equal ↦ refl
        | Greater ↦ ap (λ l. p ∷ l) (put_before x b v h)
      ]

  without_behind : (a ys : Pairs) → IsTrue (are_below k a) → pairs_without (a ++ ys) k ≡ a ++ pairs_without ys k
  without_behind [] ys h = refl
  without_behind (p ∷ a) ys h =
      ap (λ o. cond (not (is_eq o)) (p ∷ pairs_without (a ++ ys) k) (pairs_without (a ++ ys) k)) (head_behind p a k h)
      ∙ ap (λ l. p ∷ l) (without_behind a ys (tail_behind p a k h))

  without_above : (b : Pairs) → IsTrue (are_above k b) → pairs_without b k ≡ b
  without_above [] h = refl
  without_above (p ∷ b) h =
      ap (λ o. cond (not (is_eq o)) (p ∷ pairs_without b k) (pairs_without b k)) (head_above p b k h)
      ∙ ap (λ l. p ∷ l) (without_above b (tail_above p b k h))

  without_before : (x b : Pairs) → IsTrue (are_above k b) → pairs_without (x ++ b) k ≡ pairs_without x k ++ b
  without_before [] b h = without_above b h
  without_before (p ∷ x) b h =
      elim (not (is_eq (value_cmp k p.0))) as (λ t. cond t (p ∷ pairs_without (x ++ b) k) (pairs_without (x ++ b) k)
      ≡ cond t (p ∷ pairs_without x k) (pairs_without x k) ++ b) [
        | true ↦ ap (λ l. p ∷ l) (without_before x b h)
        | false ↦ without_before x b h
      ]

-- ---- a key among sorted segments

module _ (k : Value) (xss : List (List (Value × Value))) (c : ℕ) where
  abbrev front : Pairs
  front = flattened (take c xss)

  abbrev back : Pairs
  back = flattened (drop (suc c) xss)

  module _ (x : Pairs) (is : IsSegmentOf k xss c) (e : slice_get xss c ≡ Some x) where
    around : flattened xss ≡ front ++ (x ++ back)
    around = flattened-around xss c x e

    pub segment_sorted : IsTrue (are_pairs (flattened xss)) → IsTrue (are_pairs x)
    segment_sorted s = front_sorted x back (back_sorted front (x ++ back) (subst (λ l. IsTrue (are_pairs l)) around s))

    pub segment_get : pairs_get x k ≡ pairs_get (flattened xss) k
    segment_get =
        sym (ap (λ l. pairs_get l k) around ∙ get_behind k front (x ++ back) is.before ∙ get_before k x back is.behind)

    pub segment_put : (v : Value) → flattened (slice_set xss c (pairs_put x k v)) ≡ pairs_put (flattened xss) k v
    segment_put v = flattened-set xss c (pairs_put x k v) is.within
        ∙ sym (ap (λ l. pairs_put l k v) around ∙ put_behind k front (x ++ back) v is.before
        ∙ ap (λ l. front ++ l) (put_before k x back v is.behind))

    pub segment_without : flattened (slice_set xss c (pairs_without x k)) ≡ pairs_without (flattened xss) k
    segment_without = flattened-set xss c (pairs_without x k) is.within
        ∙ sym (ap (λ l. pairs_without l k) around ∙ without_behind k front (x ++ back) is.before
        ∙ ap (λ l. front ++ l) (without_before k x back is.behind))

  -- the first pair of segment c tells on which side of it the key is
  module _ (p : Value × Value) (ps : Pairs) (e : slice_get xss c ≡ Some (p ∷ ps))
      (s : IsTrue (are_pairs (flattened xss))) where
    begins : flattened (drop c xss) ≡ p ∷ (ps ++ back)
    begins = ap flattened (next_rest xss c (p ∷ ps) e)

    sorted : IsTrue (are_pairs (front ++ p ∷ (ps ++ back)))
    sorted = subst (λ l. IsTrue (are_pairs l)) (flattened-from xss c ∙ ap (λ l. front ++ l) begins) s

    from_above : value_cmp p.0 k ≡ Greater → IsTrue (are_above k (flattened (drop c xss)))
    from_above g =
        subst (λ l. IsTrue (are_above k l)) (sym begins)
        (all_above k p (ps ++ back) (back_sorted front (p ∷ (ps ++ back)) sorted) g)

    until_below : value_cmp p.0 k ≢ Greater → IsTrue (are_below k front)
    until_below n = all_below k front p (ps ++ back) sorted n

-- ---- what the calls know

pub on_err : {A E P : Type 0} (r : Result A E) → P → OnErr r P
on_err (Ok a) p = tt
on_err (Err e) p = p

pub ok_follows : {A E P Q : Type 0} (r : Result A E) → (P → Q) → OnOk r P → OnOk r Q
ok_follows (Ok a) f p = f p
ok_follows (Err e) f p = tt

pub err_follows : {A E P Q : Type 0} (r : Result A E) → (P → Q) → OnErr r P → OnErr r Q
err_follows (Ok a) f p = tt
err_follows (Err e) f p = f p

pub is_greater : (o : Ordering) → nat_eq (ordering_index o) 2 ≡ true → o ≡ Greater
is_greater Less h = absurd cc
is_greater Equal h = absurd cc
is_greater Greater h = refl

pub isnt_greater : (o : Ordering) → nat_eq (ordering_index o) 2 ≡ false → o ≢ Greater
isnt_greater Less h e = absurd cc
isnt_greater Equal h e = absurd cc
isnt_greater Greater h e = absurd cc

pub not_true : (b : Bool) → not b ≡ true → b ≡ false
not_true true h = absurd cc
not_true false h = refl

pub not_false : (b : Bool) → not b ≡ false → b ≡ true
not_false true h = refl
not_false false h = absurd cc

first_of : (x : Pairs) (p : Value × Value) → slice_get x 0 ≡ Some p → (ps : Pairs) × (x ≡ p ∷ ps)
first_of [] p e = absurd cc
first_of (q ∷ x) p e = let is : q ≡ p = cc in (x, ap (λ z. z ∷ x) is)

none_first : (x : Pairs) → slice_get x 0 ≡ None → x ≡ []
none_first [] e = refl
none_first (q ∷ x) e = absurd cc

module _ (k : Value) (xss : List (List (Value × Value))) (c : ℕ) (x y : Pairs) (w : c < length xss)
    (is : x ≡ slice_index_or xss c x) (q : y ≡ x) where
  module _ (p : Value × Value) (f : Some p ≡ slice_get y 0) (s : IsTrue (are_pairs (flattened xss))) where
    first_there : (ps : Pairs) × (slice_get xss c ≡ Some (p ∷ ps))
    first_there =
        let first = first_of x p (subst (λ l. slice_get l 0 ≡ Some p) q (sym f)) in
        (first.0, item_there xss c x w is ∙ ap Some first.1)

    pub side_above : value_cmp p.0 k ≡ Greater → IsTrue (are_above k (flattened (drop c xss)))
    side_above g = from_above k xss c p first_there.0 first_there.1 s g

    pub side_below : value_cmp p.0 k ≢ Greater → IsTrue (are_below k (flattened (take c xss)))
    side_below n = until_below k xss c p first_there.0 first_there.1 s n

  pub side_empty : slice_get y 0 ≡ None → IsTrue (are_above k (flattened (drop (suc c) xss)))
      → IsTrue (are_above k (flattened (drop c xss)))
  side_empty e h =
      let empty = item_there xss c x w is ∙ ap Some (sym q ∙ none_first y e) in
      subst (λ l. IsTrue (are_above k (flattened l))) (sym (next_rest xss c [] empty)) h

grown : (b : Bool) (m n : ℕ) → n ≡ cond b m (m + 1) → nat_eq m n ≡ b
grown true m n e = eq-eqb m n (sym e)
grown false m n e = go (nat_eq m n) refl where
  go : (t : Bool) → nat_eq m n ≡ t → nat_eq m n ≡ false
  go true is = let same = eqb-true m n is in absurd (omega (arith, same, e))
  go false is = is

pub put_length : (x : Pairs) (k v : Value) → IsTrue (are_pairs x)
    → length (pairs_put x k v) ≡ cond (pairs_contain x k) (length x) (length x + 1)
put_length x k v s = length-put value_cmp value_cmp_total k v x (subst T (sym s) tt)

pub put_grows : (x : Pairs) (k v : Value) (m n : ℕ) → IsTrue (are_pairs x) → m ≡ length x → n ≡ length (pairs_put x k v)
    → nat_eq m n ≡ pairs_contain x k
put_grows x k v m n s p q =
    grown (pairs_contain x k) m n (q ∙ put_length x k v s ∙ sym (ap (λ l. cond (pairs_contain x k) l (l + 1)) p))

pub without_length : (x : Pairs) (k : Value) → IsTrue (are_pairs x)
    → cond (pairs_contain x k) 1 0 + length (pairs_without x k) ≡ length x
without_length x k s = length_without value_cmp value_cmp_total k x (subst T (sym s) tt)

-- ---- the place where a value is lent

module _ (k : Value) (xss : List (List (Value × Value))) (c i : ℕ) (is : IsInSegment k xss c i) (x : Pairs)
    (e : slice_get xss c ≡ Some x) where
  stands_here : IsAt k x i
  stands_here =
      let same : is.segment ≡ x = let both : Some is.segment ≡ Some x = sym is.there ∙ e in cc in
      subst (λ l. IsAt k l i) same is.place

  module _ (p : Value × Value) (f : slice_get x i ≡ Some p) where
    pub lent_many : (w : Value) → length (flattened xss) ≡ length (flattened (slice_set xss c (slice_set x i (p.0, w))))
    lent_many w = length-flattened-set xss c x (slice_set x i (p.0, w)) e (length-set x i (p.0, w))

    pub lent_put : IsTrue (are_pairs (flattened xss)) → (w : Value)
        → flattened (slice_set xss c (slice_set x i (p.0, w))) ≡ pairs_put (flattened xss) k w
    lent_put s w =
        ap (λ l. flattened (slice_set xss c l)) (write_at k x i p w (segment_sorted k xss c x is.its e s) stands_here f)
        ∙ segment_put k xss c x is.its e w

    pub lent_value : IsTrue (are_pairs (flattened xss)) → Some p.1 ≡ pairs_get (flattened xss) k
    lent_value s =
        value_at k x i p (segment_sorted k xss c x is.its e s) stands_here f ∙ segment_get k xss c x is.its e
