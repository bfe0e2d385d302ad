-- How often operators stand in lists, and the order of lists.
use Rattle.std.specs.Prelude.{◌≡◌, ◌⊎◌, ◌==◌, ◌+◌, ◌≤◌, ℕ, Bool, true, false, if◌then◌else◌, List, [], ◌∷◌, ◌++◌, filter}
use Rattle.std.proofs.Common.{refl, ap, ◌∙◌, inl, inr, arith}
use Rattle.std.proofs.lemmas.Bool.{cases_eq, eq-eqb, ne_eqb}
use Rattle.stream_model.specs.Regions.{IsPartOf}
use Rattle.region_choice.specs.steps.Choosing.{last_of}
use Rattle.region_choice.proofs.ChainPlans.{one_if, times}

pub times_append : (x : ℕ) (ys zs : List ℕ) → times x (ys ++ zs) ≡ times x ys + times x zs
times_append x [] zs = omega arith
times_append x (y ∷ ys) zs = let rest = times_append x ys zs in omega arith

pub one_same : (x y : ℕ) → y ≡ x → one_if (y == x) ≡ 1
one_same x y e = ap one_if (eq-eqb y x e)

pub one_other : (x y : ℕ) → (y ≡ x → ⊥) → one_if (y == x) ≡ 0
one_other x y other = ap one_if (ne_eqb y x other)

pub filter_append : (test : ℕ → Bool) (xs ys : List ℕ) → filter test (xs ++ ys) ≡ filter test xs ++ filter test ys
filter_append test [] ys = refl
filter_append test (x ∷ xs) ys =
    let rest = filter_append test xs ys in
    elim (test x) as (λ b. (if b then x ∷ filter test (xs ++ ys) else filter test (xs ++ ys)) ≡ (if b then x ∷ filter test xs else filter test xs) ++ filter test ys) [
      | true ↦ ap (λ zs. x ∷ zs) rest
      | false ↦ rest
    ]

-- filter that pass a test stand as often as all
pub times_filter : (test : ℕ → Bool) (x : ℕ) (ys : List ℕ) → test x ≡ true → times x (filter test ys) ≡ times x ys
times_filter test x [] h = refl
times_filter test x (y ∷ ys) h = by_case (times_filter test x ys h) (cases_eq y x) where
  by_case : times x (filter test ys) ≡ times x ys → (y ≡ x) ⊎ (y ≡ x → ⊥)
      → times x (if test y then y ∷ filter test ys else filter test ys) ≡ one_if (y == x) + times x ys
  by_case rest (inl e) =
      let passes : test y ≡ true = ap test e ∙ h in
      ap (λ b. times x (if b then y ∷ filter test ys else filter test ys)) passes ∙ ap (λ n. one_if (y == x) + n) rest
  by_case rest (inr other) =
      let none : one_if (y == x) ≡ 0 = one_other x y other in
      elim (test y) as (λ b. times x (if b then y ∷ filter test ys else filter test ys) ≡ one_if (y == x) + times x ys) [
        | true ↦ omega arith
        | false ↦ omega arith
      ]

-- and filter that don't, never
pub times_not : (test : ℕ → Bool) (x : ℕ) (ys : List ℕ) → test x ≡ false → times x (filter test ys) ≡ 0
times_not test x [] h = refl
times_not test x (y ∷ ys) h = by_case (times_not test x ys h) (cases_eq y x) where
  by_case : times x (filter test ys) ≡ 0 → (y ≡ x) ⊎ (y ≡ x → ⊥) → times x (if test y then y ∷ filter test ys else filter test ys) ≡ 0
  by_case rest (inl e) =
      let fails : test y ≡ false = ap test e ∙ h in
      ap (λ b. times x (if b then y ∷ filter test ys else filter test ys)) fails ∙ rest
  by_case rest (inr other) =
      let none : one_if (y == x) ≡ 0 = one_other x y other in
      elim (test y) as (λ b. times x (if b then y ∷ filter test ys else filter test ys) ≡ 0) [
        | true ↦ omega arith
        | false ↦ omega arith
      ]

pub filter_at_most : (test : ℕ → Bool) (x : ℕ) (ys : List ℕ) → times x (filter test ys) ≤ times x ys
filter_at_most test x [] = omega arith
filter_at_most test x (y ∷ ys) =
    let rest = filter_at_most test x ys in
    elim (test y) as (λ b. times x (if b then y ∷ filter test ys else filter test ys) ≤ one_if (y == x) + times x ys) [
      | true ↦ omega arith
      | false ↦ omega arith
    ]

-- what stands among filter passes
pub passes : (test : ℕ → Bool) (x : ℕ) (ys : List ℕ) → 1 ≤ times x (filter test ys) → test x ≡ true
passes test x ys h = by_case (test x) refl where
  by_case : (b : Bool) → test x ≡ b → test x ≡ true
  by_case true e = e
  by_case false e = absurd (let none = times_not test x ys e in omega arith)

-- ---- the last

pub last_stands : (a : ℕ) (rest : List ℕ) → 1 ≤ times (last_of a rest) (a ∷ rest)
last_stands a [] = let one = one_same a a refl in omega arith
last_stands a (b ∷ rest) = let h = last_stands b rest in omega arith

pub last_added : (a x : ℕ) (rest : List ℕ) → last_of a (rest ++ x ∷ []) ≡ x
last_added a x [] = refl
last_added a x (b ∷ rest) = last_added b x rest

-- ---- order

pub part_longer : (xs ys zs : List ℕ) → IsPartOf xs ys → IsPartOf xs (ys ++ zs)
part_longer [] ys zs h = tt
part_longer (x ∷ xs) [] zs h = absurd h
part_longer (x ∷ xs) (y ∷ ys) zs (inl h) = inl (h.0, part_longer xs ys zs h.1)
part_longer (x ∷ xs) (y ∷ ys) zs (inr h) = inr (part_longer (x ∷ xs) ys zs h)

part_end : (x : ℕ) (ys : List ℕ) → IsPartOf (x ∷ []) (ys ++ x ∷ [])
part_end x [] = inl (refl, tt)
part_end x (y ∷ ys) = inr (part_end x ys)

pub part_both : (xs ys : List ℕ) (z : ℕ) → IsPartOf xs ys → IsPartOf (xs ++ z ∷ []) (ys ++ z ∷ [])
part_both [] ys z h = part_end z ys
part_both (x ∷ xs) [] z h = absurd h
part_both (x ∷ xs) (y ∷ ys) z (inl h) = inl (h.0, part_both xs ys z h.1)
part_both (x ∷ xs) (y ∷ ys) z (inr h) = inr (part_both (x ∷ xs) ys z h)

pub part_times : (x : ℕ) (xs ys : List ℕ) → IsPartOf xs ys → times x xs ≤ times x ys
part_times x [] ys h = omega arith
part_times x (z ∷ zs) [] h = absurd h
part_times x (z ∷ zs) (y ∷ ys) (inl h) =
    let rest = part_times x zs ys h.1 in let same : one_if (z == x) ≡ one_if (y == x) = ap (λ n. one_if (n == x)) h.0 in omega arith
part_times x (z ∷ zs) (y ∷ ys) (inr h) = let rest = part_times x (z ∷ zs) ys h in omega arith

-- ---- where an operator stands

pub split : (x : ℕ) (ys : List ℕ) → 1 ≤ times x ys → (front : List ℕ) × (rest : List ℕ) × (ys ≡ front ++ x ∷ rest)
split x [] h = absurd (omega arith)
split x (y ∷ ys) h = by_case (λ k. split x ys k) (cases_eq y x) where
  by_case : (1 ≤ times x ys → (front : List ℕ) × (rest : List ℕ) × (ys ≡ front ++ x ∷ rest)) → (y ≡ x) ⊎ (y ≡ x → ⊥) → (front : List ℕ) × (rest : List ℕ) × (y ∷ ys ≡ front ++ x ∷ rest)
  by_case further (inl e) = ([], ys, ap (λ z. z ∷ ys) e)
  by_case further (inr other) =
      let none = one_other x y other in
      let is = further (omega arith) in
      (y ∷ is.0, is.1, ap (λ zs. y ∷ zs) is.2)
