-- How often numbers stand in lists.
use Rattle.std.proofs.Common.{ℕ, suc, ◌+◌, ◌<◌, ◌≤◌, ◌==◌, Bool, true, false, cond, List, [], ◌∷◌, ◌++◌, ◌≡◌, ◌⊎◌, inl, inr, refl, sym, ap, subst, ◌∙◌, arith, map, Option, Some, None, slice_get}
use Rattle.std.specs.Prelude.{filter}
use Rattle.std.specs.List.{concat, cons_option, filter_map}
use Rattle.std.specs.Option.{option_map_or}
use Rattle.std.proofs.lemmas.Bool.{cases_Bool, eq-eqb, or_cases, or_left, or_right, cond-true, cond-false}
use Rattle.spl_value.proofs.Lists.{push_some}
use Rattle.stream_model.specs.declared.plan.Region.{Region}
use Rattle.stream_model.specs.Operators.{Operator}
use Rattle.stream_model.specs.Regions.{is_eligible, how_often}
use Rattle.pe_fusion.specs.Pieces.{is_among}
use Rattle.pe_fusion.specs.Shapes.{numbers}
use Rattle.pe_fusion.specs.Totals.{one_if, times, total}
use Rattle.network_model.specs.Networks.{last_of}

pub often-one : (n m : ℕ) (ms : List ℕ) → how_often n (m ∷ ms) ≡ one_if (m == n) + how_often n ms
often-one n m ms = go (m == n)
  where
    go : (b : Bool) → cond b (suc (how_often n ms)) (how_often n ms) ≡ one_if b + how_often n ms
    go true = omega arith
    go false = omega arith

pub often-append : (n : ℕ) (xs ys : List ℕ) → how_often n (xs ++ ys) ≡ how_often n xs + how_often n ys
often-append n [] ys = let z : how_often n ys ≡ 0 + how_often n ys = omega arith in z
often-append n (x ∷ xs) ys =
    let a = often-one n x (xs ++ ys) in
    let b = often-one n x xs in
    let rest = often-append n xs ys in
    omega (arith, a, b, rest)

pub often-here : (n : ℕ) (ms : List ℕ) → how_often n (n ∷ ms) ≡ suc (how_often n ms)
often-here n ms = cond-true (n == n) (suc (how_often n ms)) (how_often n ms) (eq-eqb n n refl)

pub often-in : (n : ℕ) (ms : List ℕ) → is_among n ms ≡ true → 0 < how_often n ms
often-in n [] h = absurd (cc)
often-in n (m ∷ ms) h = go (or_cases (m == n) (is_among n ms) h) (often-in n ms)
  where
    go : ((m == n) ≡ true) ⊎ (is_among n ms ≡ true) → (is_among n ms ≡ true → 0 < how_often n ms) → 0 < how_often n (m ∷ ms)
    go (inl a) later = let b = often-one n m ms in let c : one_if (m == n) ≡ 1 = ap one_if a in omega (arith, b, c)
    go (inr a) later = let b = often-one n m ms in let c = later a in omega (arith, b, c)

pub in-often : (n : ℕ) (ms : List ℕ) → 0 < how_often n ms → is_among n ms ≡ true
in-often n [] h = absurd (let k : 0 < 0 = h in omega (arith, k))
in-often n (m ∷ ms) h = go (cases_Bool (m == n)) (in-often n ms)
  where
    go : ((m == n) ≡ true) ⊎ ((m == n) ≡ false) → (0 < how_often n ms → is_among n ms ≡ true) → is_among n (m ∷ ms) ≡ true
    go (inl a) later = or_left (m == n) (is_among n ms) a
    go (inr a) later = or_right (m == n) (is_among n ms) (later (subst (λ k. 0 < k) (cond-false (m == n) (suc (how_often n ms)) (how_often n ms) a) h))

pub times-often : (n : ℕ) (ops : List Operator) → times (λ (o : Operator). o.number == n) ops ≡ how_often n (numbers ops)
times-often n [] = refl
times-often n (op ∷ ops) =
    let a = often-one n op.number (numbers ops) in
    let rest = times-often n ops in
    let z : one_if (op.number == n) + times (λ (o : Operator). o.number == n) ops ≡ how_often n (op.number ∷ numbers ops) = omega (arith, a, rest) in z

pub total-often : (n : ℕ) (plan : List Region) → total (λ (r : Region). how_often n r.ops) plan ≡ how_often n (concat (map (λ (r : Region). r.ops) plan))
total-often n [] = refl
total-often n (r ∷ plan) = ap (λ k. how_often n r.ops + k) (total-often n plan) ∙ sym (often-append n r.ops (concat (map (λ (r : Region). r.ops) plan)))

pub eligible-often : (ops : List Operator) (n : ℕ) → ((m : ℕ) (o : Operator) → slice_get ops m ≡ Some o → o.number ≡ m) → (ms : List ℕ)
    → how_often n (filter (λ m. option_map_or is_eligible (slice_get ops m) false) ms) ≤ times (λ (o : Operator). o.number == n) (filter_map (slice_get ops) ms)
eligible-often ops n own [] = omega arith
eligible-often ops n own (m ∷ ms) = go (slice_get ops m) refl (eligible-often ops n own ms)
  where
    others : List ℕ
    others = filter (λ m. option_map_or is_eligible (slice_get ops m) false) ms

    on : (x : Operator) (b : Bool) → x.number ≡ m → how_often n (filter (λ m. option_map_or is_eligible (slice_get ops m) false) ms) ≤ times (λ (o : Operator). o.number == n) (filter_map (slice_get ops) ms)
        → how_often n (cond b (m ∷ filter (λ m. option_map_or is_eligible (slice_get ops m) false) ms) (filter (λ m. option_map_or is_eligible (slice_get ops m) false) ms))
        ≤ one_if (x.number == n) + times (λ (o : Operator). o.number == n) (filter_map (slice_get ops) ms)
    on x true e rest =
        let a = often-one n m (filter (λ m. option_map_or is_eligible (slice_get ops m) false) ms) in
        let same : one_if (x.number == n) ≡ one_if (m == n) = ap (λ k. one_if (k == n)) e in
        omega (arith, a, same, rest)
    on x false e rest = omega (arith, rest)

    go : (found : Option Operator) → slice_get ops m ≡ found
        → how_often n (filter (λ m. option_map_or is_eligible (slice_get ops m) false) ms) ≤ times (λ (o : Operator). o.number == n) (filter_map (slice_get ops) ms)
        → how_often n (cond (option_map_or is_eligible (slice_get ops m) false) (m ∷ filter (λ m. option_map_or is_eligible (slice_get ops m) false) ms) (filter (λ m. option_map_or is_eligible (slice_get ops m) false) ms))
        ≤ times (λ (o : Operator). o.number == n) (cons_option (slice_get ops m) (filter_map (slice_get ops) ms))
    go None e rest =
        subst (λ found. how_often n (cond (option_map_or is_eligible found false) (m ∷ filter (λ m. option_map_or is_eligible (slice_get ops m) false) ms) (filter (λ m. option_map_or is_eligible (slice_get ops m) false) ms))
        ≤ times (λ (o : Operator). o.number == n) (cons_option found (filter_map (slice_get ops) ms))) (sym e) rest
    go (Some x) e rest =
        subst (λ found. how_often n (cond (option_map_or is_eligible found false) (m ∷ filter (λ m. option_map_or is_eligible (slice_get ops m) false) ms) (filter (λ m. option_map_or is_eligible (slice_get ops m) false) ms))
        ≤ times (λ (o : Operator). o.number == n) (cons_option found (filter_map (slice_get ops) ms))) (sym e) (on x (is_eligible x) (own m x e) rest)

-- a front that has x and not the next one ends with x
pub cut-at : (front rest before after : List ℕ) (x o : ℕ) → front ++ rest ≡ before ++ x ∷ o ∷ after → 0 < how_often x front → how_often o front ≡ 0 → how_often x before ≡ 0
    → (front ≡ before ++ x ∷ []) × (rest ≡ o ∷ after)
cut-at [] rest before after x o e has free apart = absurd (let k : 0 < 0 = has in omega (arith, k))
cut-at (m ∷ []) rest [] after x o e has free apart =
    let first : m ≡ x = cc in
    let others : rest ≡ o ∷ after = cc in
    (ap (λ k. k ∷ []) first, others)
cut-at (m ∷ k ∷ front) rest [] after x o e has free apart =
    let second : k ≡ o = cc in
    let a = often-one o m (k ∷ front) in
    let b = often-one o k front in
    let c : one_if (k == o) ≡ 1 = ap one_if (eq-eqb k o second) in
    absurd (omega (arith, a, b, c, free))
cut-at (m ∷ front) rest (a ∷ before) after x o e has free apart =
    let first : m ≡ a = cc in
    let others : front ++ rest ≡ before ++ x ∷ o ∷ after = cc in
    let p = often-one x a before in
    let q = often-one x m front in
    let r = often-one o m front in
    let same : one_if (m == x) ≡ one_if (a == x) = ap (λ k. one_if (k == x)) first in
    let later = cut-at front rest before after x o others (omega (arith, p, q, same, has, apart)) (omega (arith, r, free)) (omega (arith, p, apart)) in
    ((λ i. first i ∷ later.0 i), later.1)

pub last-number : (first : Operator) (behind : List Operator) (before : List ℕ) (n : ℕ) → numbers (first ∷ behind) ≡ before ++ n ∷ [] → (last_of first behind).number ≡ n
last-number first [] [] n e = cc
last-number first [] (a ∷ before) n e = let others : [] ≡ before ++ n ∷ [] = cc in absurd (push_some before n (sym others))
last-number first (next ∷ behind) [] n e = absurd (cc)
last-number first (next ∷ behind) (a ∷ before) n e = let others : numbers (next ∷ behind) ≡ before ++ n ∷ [] = cc in last-number next behind before n others
