-- Sums over lists, and lists of which one item counts.
use Rattle.std.proofs.Common.{ℕ, zero, suc, ◌+◌, ◌<◌, ◌≤◌, ◌==◌, Bool, true, false, List, [], ◌∷◌, ◌++◌, ◌≡◌, ◌⊎◌, inl, inr, refl, sym, ap, subst, ◌∙◌, arith, length, Some, slice_get}
use Rattle.std.specs.List.{flat_map, list_any}
use Rattle.std.proofs.lemmas.Bool.{or_parts, or_cases, eq-eqb, ne_eqb, cases_eq}
use Rattle.pe_fusion.specs.Totals.{one_if, times, total}

pub total-append : {X : Type 0} (f : X → ℕ) (xs ys : List X) → total f (xs ++ ys) ≡ total f xs + total f ys
total-append f [] ys = let z : total f ys ≡ 0 + total f ys = omega arith in z
total-append f (x ∷ xs) ys =
    let rest = total-append f xs ys in
    let z : f x + total f (xs ++ ys) ≡ f x + total f xs + total f ys = omega (arith, rest) in z

pub total-flat : {X Y : Type 0} (f : Y → ℕ) (h : X → List Y) (xs : List X) → total f (flat_map h xs) ≡ total (λ x. total f (h x)) xs
total-flat f h [] = refl
total-flat f h (x ∷ xs) = total-append f (h x) (flat_map h xs) ∙ ap (λ n. total f (h x) + n) (total-flat f h xs)

pub total-same : {X : Type 0} (f g : X → ℕ) (xs : List X) → ((x : X) → f x ≡ g x) → total f xs ≡ total g xs
total-same f g [] same = refl
total-same f g (x ∷ xs) same = ap (λ n. n + total f xs) (same x) ∙ ap (λ n. g x + n) (total-same f g xs same)

pub total-zero : {X : Type 0} (f : X → ℕ) (xs : List X) → ((i : ℕ) (x : X) → slice_get xs i ≡ Some x → f x ≡ 0) → total f xs ≡ 0
total-zero f [] none = refl
total-zero f (x ∷ xs) none =
    let first : f x ≡ 0 = none 0 x refl in
    let rest = total-zero f xs (λ i y at. none (suc i) y at) in
    let z : f x + total f xs ≡ 0 = omega (arith, first, rest) in z

-- one item alone counts
pub total-only : {X : Type 0} (f : X → ℕ) (xs : List X) (j : ℕ) (x : X) → slice_get xs j ≡ Some x
    → ((i : ℕ) (y : X) → slice_get xs i ≡ Some y → (i ≡ j → ⊥) → f y ≡ 0) → total f xs ≡ f x
total-only f [] j x at none = absurd (cc)
total-only f (y ∷ ys) zero x at none =
    let same : y ≡ x = cc in
    let rest = total-zero f ys (λ i z there. none (suc i) z there (λ e. let k : suc i ≡ 0 = e in omega (arith, k))) in
    let first : f y ≡ f x = ap f same in
    let z : f y + total f ys ≡ f x = omega (arith, first, rest) in z
total-only f (y ∷ ys) (suc j) x at none =
    let first : f y ≡ 0 = none 0 y refl (λ e. let k : 0 ≡ suc j = e in omega (arith, k)) in
    let rest = total-only f ys j x at (λ i z there apart. none (suc i) z there (λ e. apart (let k : suc i ≡ suc j = e in omega (arith, k)))) in
    let z : f y + total f ys ≡ f x = omega (arith, first, rest) in z

pub total-at : {X : Type 0} (f : X → ℕ) (xs : List X) (i : ℕ) (x : X) → slice_get xs i ≡ Some x → f x ≤ total f xs
total-at f [] i x at = absurd (cc)
total-at f (y ∷ ys) zero x at =
    let same : y ≡ x = cc in
    let first : f y ≡ f x = ap f same in
    let z : f x ≤ f y + total f ys = omega (arith, first) in z
total-at f (y ∷ ys) (suc i) x at =
    let rest = total-at f ys i x at in
    let z : f x ≤ f y + total f ys = omega (arith, rest) in z

-- two that count are the same
pub total-unique : {X : Type 0} (f : X → ℕ) (xs : List X) (i j : ℕ) (x y : X) → total f xs ≤ 1 → slice_get xs i ≡ Some x → slice_get xs j ≡ Some y → 0 < f x → 0 < f y → i ≡ j
total-unique f [] i j x y most at there some any = absurd (cc)
total-unique f (z ∷ zs) zero zero x y most at there some any = refl
total-unique f (z ∷ zs) zero (suc j) x y most at there some any =
    let same : z ≡ x = cc in
    let first : f z ≡ f x = ap f same in
    let rest = total-at f zs j y there in
    let all : f z + total f zs ≤ 1 = most in
    absurd (omega (arith, first, rest, all, some, any))
total-unique f (z ∷ zs) (suc i) zero x y most at there some any =
    let same : z ≡ y = cc in
    let first : f z ≡ f y = ap f same in
    let rest = total-at f zs i x at in
    let all : f z + total f zs ≤ 1 = most in
    absurd (omega (arith, first, rest, all, some, any))
total-unique f (z ∷ zs) (suc i) (suc j) x y most at there some any =
    let all : f z + total f zs ≤ 1 = most in
    let rest : total f zs ≤ 1 = omega (arith, all) in
    ap suc (total-unique f zs i j x y rest at there some any)

pub some-one : (b : Bool) → 0 < one_if b → b ≡ true
some-one true h = refl
some-one false h = absurd (let k : 0 < 0 = h in omega (arith, k))

pub one-some : (b : Bool) → b ≡ true → 0 < one_if b
one-some b e = subst (λ c. 0 < one_if c) (sym e) (omega arith)

-- where a sum isn't 0, an item counts
pub record Found {X : Type 0} (f : X → ℕ) (xs : List X) : Type 0 where
  pub at : ℕ
  pub item : X
  pub is : slice_get xs at ≡ Some item
  pub counts : 0 < f item

pub total-found : {X : Type 0} (f : X → ℕ) (xs : List X) → 0 < total f xs → Found f xs
total-found f [] h = absurd (let k : 0 < 0 = h in omega (arith, k))
total-found f (x ∷ xs) h = go (f x) refl (total-found f xs)
  where
    go : (n : ℕ) → f x ≡ n → (0 < total f xs → Found f xs) → Found f (x ∷ xs)
    go zero e later =
        let all : 0 < f x + total f xs = h in
        let rest = later (omega (arith, all, e)) in
        record { at = suc rest.at; item = rest.item; is = rest.is; counts = rest.counts }
    go (suc n) e later = record { at = 0; item = x; is = refl; counts = (let k : f x ≡ suc n = e in omega (arith, k)) }

pub times-any : {X : Type 0} (p : X → Bool) (xs : List X) → list_any p xs ≡ true → 0 < times p xs
times-any p [] e = absurd (cc)
times-any p (x ∷ xs) e = go (or_cases (p x) (list_any p xs) e) (times-any p xs)
  where
    go : (p x ≡ true) ⊎ (list_any p xs ≡ true) → (list_any p xs ≡ true → 0 < times p xs) → 0 < times p (x ∷ xs)
    go (inl a) later = let k = one-some (p x) a in let z : 0 < one_if (p x) + times p xs = omega (arith, k) in z
    go (inr a) later = let k = later a in let z : 0 < one_if (p x) + times p xs = omega (arith, k) in z

pub times-none : {X : Type 0} (p : X → Bool) (xs : List X) → list_any p xs ≡ false → times p xs ≡ 0
times-none p [] e = refl
times-none p (x ∷ xs) e =
    let k = or_parts (p x) (list_any p xs) e in
    let rest = times-none p xs k.1 in
    let first : one_if (p x) ≡ 0 = ap one_if k.0 in
    let z : one_if (p x) + times p xs ≡ 0 = omega (arith, first, rest) in z

-- ---- places in joined lists

pub get-right : {X : Type 0} (xs ys : List X) (i : ℕ) → slice_get (xs ++ ys) (length xs + i) ≡ slice_get ys i
get-right [] ys i = let k : 0 + i ≡ i = omega arith in ap (slice_get ys) k
get-right (x ∷ xs) ys i = let k : suc (length xs) + i ≡ suc (length xs + i) = omega arith in ap (slice_get (x ∷ (xs ++ ys))) k ∙ get-right xs ys i

pub record Behind {X : Type 0} (xs ys : List X) (i : ℕ) (x : X) : Type 0 where
  pub at : ℕ
  pub sum : i ≡ length xs + at
  pub is : slice_get ys at ≡ Some x

pub get-append : {X : Type 0} (xs ys : List X) (i : ℕ) (x : X) → slice_get (xs ++ ys) i ≡ Some x → (slice_get xs i ≡ Some x) ⊎ Behind xs ys i x
get-append [] ys i x at = inr (record { at = i; sum = omega arith; is = at })
get-append (y ∷ xs) ys zero x at = inl at
get-append (y ∷ xs) ys (suc i) x at = go (get-append xs ys i x at)
  where
    go : (slice_get xs i ≡ Some x) ⊎ Behind xs ys i x → (slice_get (y ∷ xs) (suc i) ≡ Some x) ⊎ Behind (y ∷ xs) ys (suc i) x
    go (inl a) = inl a
    go (inr b) = inr (record { at = b.at; sum = (let s = b.sum in let z : suc i ≡ suc (length xs) + b.at = omega (arith, s) in z); is = b.is })

pub eqb-turn : (a b : ℕ) → (a == b) ≡ (b == a)
eqb-turn a b = go (cases_eq a b)
  where
    go : (a ≡ b) ⊎ (a ≡ b → ⊥) → (a == b) ≡ (b == a)
    go (inl e) = eq-eqb a b e ∙ sym (eq-eqb b a (sym e))
    go (inr n) = ne_eqb a b n ∙ sym (ne_eqb b a (λ e. n (sym e)))
