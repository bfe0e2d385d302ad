-- How often numbers are in a list.
use Rattle.std.specs.Prelude.{◌≡◌, ◌+◌, ◌≤◌, ◌<◌, ◌==◌, ◌||◌, ◌⊎◌, eqb, ℕ, zero, suc, true, false, cond, List, [], ◌∷◌, length}
use Rattle.std.specs.List.{list_any, IsDistinct, AllByRecursion}
use Rattle.std.proofs.Common.{refl, sym, ap, ◌∙◌, arith, inl, inr, subst}
use Rattle.std.proofs.lemmas.Bool.{cases_eq, cond-true, cond-false, eqb-true, eq-eqb, ne_eqb}
use Rattle.std.proofs.lemmas.Map.Steps.{length-le_from_distinct_below}

abbrev pub how_often : ℕ → List ℕ → ℕ
how_often i [] = 0
how_often i (j ∷ js) = cond (j == i) (1 + how_often i js) (how_often i js)

often_here : (i j : ℕ) (js : List ℕ) → j ≡ i → how_often i (j ∷ js) ≡ 1 + how_often i js
often_here i j js e = cond-true (j == i) _ _ (eq-eqb j i e)

often_other : (i j : ℕ) (js : List ℕ) → (j ≡ i → ⊥) → how_often i (j ∷ js) ≡ how_often i js
often_other i j js other = cond-false (j == i) _ _ (ne_eqb j i other)

-- each number is below that
abbrev pub Below : ℕ → List ℕ → Type 0
Below n js = AllByRecursion (λ j. j < n) js

-- no number is that one
abbrev pub Lacks : ℕ → List ℕ → Type 0
Lacks i js = AllByRecursion (λ j. eqb i j ≡ false) js

-- ---- n numbers below n, of which no two are equal: each once

differ : (i j : ℕ) → eqb i j ≡ false → j ≡ i → ⊥
differ i j apart e = let same : eqb i j ≡ true = eq-eqb i j (sym e) in cc

often_none : (i : ℕ) (js : List ℕ) → Lacks i js → how_often i js ≡ 0
often_none i [] h = refl
often_none i (j ∷ js) h = often_other i j js (differ i j h.0) ∙ often_none i js h.1

often_one : (i : ℕ) (js : List ℕ) → IsDistinct eqb js → (Lacks i js → ⊥) → how_often i js ≡ 1
unfolding IsDistinct
often_one i [] distinct has = absurd (has tt)
often_one i (j ∷ js) distinct has = go (cases_eq j i) (often_one i js distinct.1)
  where
    go : (j ≡ i) ⊎ (j ≡ i → ⊥) → ((Lacks i js → ⊥) → how_often i js ≡ 1) → how_often i (j ∷ js) ≡ 1
    go (inl e) rest = let none : how_often i js ≡ 0 = often_none i js (subst (λ j. Lacks j js) e distinct.0) in often_here i j js e ∙ ap (λ n. 1 + n) none
    go (inr other) rest = often_other i j js other ∙ rest (λ lacks. has (ne_eqb i j (λ e. other (sym e)), lacks))

below_member : (n : ℕ) (js : List ℕ) → Below n js → (q : ℕ) → list_any (eqb q) js ≡ true → q < n
below_member n [] h q e = absurd cc
below_member n (j ∷ js) h q e =
    elim (eqb q j) as (λ b. eqb q j ≡ b → (b || list_any (eqb q) js) ≡ true → q < n) [
      | true ↦ λ same e. let is : q ≡ j = eqb-true q j same in let below : j < n = h.0 in omega arith
      | false ↦ λ other e. below_member n js h.1 q e
    ] refl e

pub each_once : (n : ℕ) (js : List ℕ) → IsDistinct eqb js → Below n js → length js ≡ n → (i : ℕ) → i < n → how_often i js ≡ 1
unfolding IsDistinct
each_once n js distinct below long i within =
    often_one i js distinct (λ lacks.
    let most : length (i ∷ js) ≤ n = length-le_from_distinct_below (i ∷ js) n (lacks, distinct) (below_member n (i ∷ js) (within, below)) in
    omega arith)

-- ---- numbers below n, each of them once: n numbers

-- the numbers that aren't n
abbrev pub without : ℕ → List ℕ → List ℕ
without n [] = []
without n (j ∷ js) = cond (j == n) (without n js) (j ∷ without n js)

pub length_without : (n : ℕ) (js : List ℕ) → length js ≡ how_often n js + length (without n js)
length_without n [] = refl
length_without n (j ∷ js) =
    let rest : length js ≡ how_often n js + length (without n js) = length_without n js in
    elim (j == n) as (λ b. suc (length js) ≡ cond b (1 + how_often n js) (how_often n js) + length (cond b (without n js) (j ∷ without n js))) [
      | true ↦ omega arith
      | false ↦ omega arith
    ]

below_without : (n : ℕ) (js : List ℕ) → Below (suc n) js → Below n (without n js)
below_without n [] h = tt
below_without n (j ∷ js) h =
    let rest = below_without n js h.1 in
    elim (j == n) as (λ b. (j == n) ≡ b → Below n (cond b (without n js) (j ∷ without n js))) [
      | true ↦ λ e. rest
      | false ↦ λ e. (let below : j < suc n = h.0 in grind arith, rest)
    ] refl

often_without : (n i : ℕ) (js : List ℕ) → i < n → how_often i (without n js) ≡ how_often i js
often_without n i [] lt = refl
often_without n i (j ∷ js) lt =
    let rest : how_often i (without n js) ≡ how_often i js = often_without n i js lt in
    elim (j == n) as (λ b. (j == n) ≡ b → how_often i (cond b (without n js) (j ∷ without n js)) ≡ cond (j == i) (1 + how_often i js) (how_often i js)) [
      | true ↦ λ e. grind arith
      | false ↦ λ e. ap (λ m. cond (j == i) (1 + m) m) rest
    ] refl

pub as_many : (n : ℕ) (js : List ℕ) → Below n js → ((i : ℕ) → i < n → how_often i js ≡ 1) → length js ≡ n
as_many zero [] below once = refl
as_many zero (j ∷ js) below once = let none : j < 0 = below.0 in absurd (omega arith)
as_many (suc n) js below once =
    let rest : length (without n js) ≡ n = as_many n (without n js) (below_without n js below) (λ i lt. often_without n i js lt ∙ once i (omega arith)) in
    let here : how_often n js ≡ 1 = once n (omega arith) in
    let all = length_without n js in
    omega arith
