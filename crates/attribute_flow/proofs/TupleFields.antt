-- The values of a tuple that is made of fields. Each of its places has a field, and there are as many fields as places: so no field has a place
-- beyond the tuple.
use Rattle.std.specs.Prelude.{◌≡◌, ◌+◌, ◌≤◌, ◌<◌, ◌==◌, nat_lt, ℕ, zero, suc, Bool, true, false, cond, if◌then◌else◌, List, [], ◌∷◌, length, map, Option, None, Some, slice_get}
use Rattle.std.specs.Option.{option_and_then, option_map}
use Rattle.std.proofs.Common.{refl, sym, ap, ◌∙◌, arith}
use Rattle.std.proofs.lemmas.Bool.{ltb-true}
use Rattle.std.proofs.lemmas.Bool.Decides.{nat_tests}
use Rattle.std.proofs.lemmas.List.{length-map}
use Rattle.spl_value.specs.declared.value.Value.{Value}
use Rattle.language_model.specs.Evaluation.{field_at, tuple_from, tuple_of}
use Rattle.language_model.proofs.Counting.{how_often, without, length_without}
use Rattle.spl_value.proofs.Results.{some_same}

abbrev Fields : Type 0
Fields = List (ℕ × Value)

pieces : (o : Option Value) (r : Option (List Value)) (us : List Value) → option_and_then (λ v. option_map (λ vs. v ∷ vs) r) o ≡ Some us
    → (v : Value) × (vs : List Value) × (o ≡ Some v) × (r ≡ Some vs) × (v ∷ vs ≡ us)
pieces None r us e = absurd cc
pieces (Some v) None us e = absurd cc
pieces (Some v) (Some vs) us e = (v, vs, refl, refl, some_same (v ∷ vs) us e)

-- a place of the tuple has the value of its field
from_fields : (n i k : ℕ) (fs : Fields) (us : List Value) → tuple_from i n fs ≡ Some us → k < n → slice_get us k ≡ field_at (i + k) fs
from_fields zero i k fs us e lt = absurd (omega arith)
from_fields (suc n) i zero fs us e lt =
    let is = pieces (field_at i fs) (tuple_from (suc i) n fs) us e in
    let same : i ≡ i + 0 = omega arith in
    ap (λ (us : List Value). slice_get us 0) (sym is.4) ∙ sym is.2 ∙ ap (λ i. field_at i fs) same
from_fields (suc n) i (suc k) fs us e lt =
    let is = pieces (field_at i fs) (tuple_from (suc i) n fs) us e in
    let same : suc i + k ≡ i + suc k = omega arith in
    ap (λ (us : List Value). slice_get us (suc k)) (sym is.4) ∙ from_fields n (suc i) k fs is.1 is.3 (omega arith) ∙ ap (λ i. field_at i fs) same

-- and each place has a field
has_field : (n i k : ℕ) (fs : Fields) (us : List Value) → tuple_from i n fs ≡ Some us → k < n → (v : Value) × (field_at (i + k) fs ≡ Some v)
has_field zero i k fs us e lt = absurd (omega arith)
has_field (suc n) i zero fs us e lt =
    let is = pieces (field_at i fs) (tuple_from (suc i) n fs) us e in
    let same : i + 0 ≡ i = omega arith in
    (is.0, ap (λ i. field_at i fs) same ∙ is.2)
has_field (suc n) i (suc k) fs us e lt =
    let is = pieces (field_at i fs) (tuple_from (suc i) n fs) us e in
    let rest = has_field n (suc i) k fs is.1 is.3 (omega arith) in
    let same : i + suc k ≡ suc i + k = omega arith in
    (rest.0, ap (λ i. field_at i fs) same ∙ rest.1)

-- ---- the number of fields

abbrev places : Fields → List ℕ
places fs = map (λ f. f.0) fs

often_without : (n i : ℕ) (js : List ℕ) → (i ≡ n → ⊥) → how_often i (without n js) ≡ how_often i js
often_without n i [] other = refl
often_without n i (j ∷ js) other =
    let rest : how_often i (without n js) ≡ how_often i js = often_without n i js other in
    elim (j == n) as (λ b. (j == n) ≡ b → how_often i (cond b (without n js) (j ∷ without n js)) ≡ cond (j == i) (1 + how_often i js) (how_often i js)) [
      | true ↦ λ e. grind arith
      | false ↦ λ e. ap (λ m. cond (j == i) (1 + m) m) rest
    ] refl

some_often : (a : ℕ) (js : List ℕ) → 1 ≤ how_often a js → 1 ≤ length js
some_often a [] h = absurd (omega arith)
some_often a (j ∷ js) h = omega arith

-- numbers among which each below n is, and another one, are more than n
more_than : (n a : ℕ) (js : List ℕ) → ((i : ℕ) → i < n → 1 ≤ how_often i js) → n ≤ a → 1 ≤ how_often a js → suc n ≤ length js
more_than zero a js each beyond here = some_often a js here
more_than (suc n) a js each beyond here =
    let other : a ≡ n → ⊥ = λ e. omega (arith, e) in
    let rest : suc n ≤ length (without n js) =
    more_than n a (without n js) (λ i lt. (let apart : i ≡ n → ⊥ = λ e. omega (arith, e) in let same = often_without n i js apart in let one = each i (omega arith) in omega (arith, same, one)))
    (omega arith) (let same = often_without n a js other in omega (arith, same)) in
    let own : 1 ≤ how_often n js = each n (omega arith) in
    let all = length_without n js in
    omega arith

often_field : (a : ℕ) (fs : Fields) (v : Value) → field_at a fs ≡ Some v → 1 ≤ how_often a (places fs)
often_field a [] v e = absurd cc
often_field a (f ∷ fs) v e =
    elim (f.0 == a) as (λ b. (if b then Some f.1 else field_at a fs) ≡ Some v → 1 ≤ cond b (1 + how_often a (places fs)) (how_often a (places fs))) [
      | true ↦ λ e. omega arith
      | false ↦ λ e. often_field a fs v e
    ] e

-- ---- a field of a tuple

pub tuple_field : (a : ℕ) (fs : Fields) (us : List Value) (v : Value) → tuple_of fs ≡ Some us → field_at a fs ≡ Some v → slice_get us a ≡ Some v
tuple_field a fs us v made at = by_cases (nat_lt a (length fs)) refl where
  each : (i : ℕ) → i < length fs → 1 ≤ how_often i (places fs)
  each i lt =
      let there = has_field (length fs) 0 i fs us made lt in
      let same : 0 + i ≡ i = omega arith in
      often_field i fs there.0 (ap (λ k. field_at k fs) (sym same) ∙ there.1)

  by_cases : (b : Bool) → nat_lt a (length fs) ≡ b → slice_get us a ≡ Some v
  by_cases true e =
      let within : a < length fs = ltb-true a (length fs) e in
      let same : 0 + a ≡ a = omega arith in
      from_fields (length fs) 0 a fs us made within ∙ ap (λ k. field_at k fs) same ∙ at
  by_cases false e =
      let beyond : length fs ≤ a = grind (arith, nat_tests) in
      let many : suc (length fs) ≤ length (places fs) = more_than (length fs) a (places fs) each beyond (often_field a fs v at) in
      let long : length (places fs) ≡ length fs = length-map fs (λ f. f.0) in
      absurd (omega arith)
