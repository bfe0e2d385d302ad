-- The values at places of a tuple.
use Rattle.std.proofs.Common.{◌≡◌, ◌<◌, ℕ, zero, suc, ◌+◌, List, [], ◌∷◌, ◌++◌, length, drop, get_or, slice_get, slice_set, Option, Some, None, refl, sym, ap, ◌∙◌, arith, true, false, true≢false, eqb, eq-eqb}
use Rattle.std.specs.List.{list_any}
use Rattle.std.specs.Option.{option_and_then, option_map}
use Rattle.spl_value.specs.declared.value.Value.{Value}
use Rattle.stream_model.specs.Bodies.{values_at}
use Rattle.spl_value.proofs.Bools.{neither}

-- ---- all places

at_behind : (front : List Value) (v : Value) (vs : List Value) → slice_get (front ++ v ∷ vs) (length front) ≡ Some v
at_behind [] v vs = refl
at_behind (w ∷ front) v vs = at_behind front v vs

one_more : (front : List Value) (v : Value) (vs : List Value) → (front ++ v ∷ []) ++ vs ≡ front ++ v ∷ vs
one_more [] v vs = refl
one_more (w ∷ front) v vs = ap (λ us. w ∷ us) (one_more front v vs)

length_more : (front : List Value) (v : Value) → length (front ++ v ∷ []) ≡ suc (length front)
length_more [] v = refl
length_more (w ∷ front) v = ap suc (length_more front v)

-- the places from the length of the front on, of the values after it
all_behind : (front vs : List Value) (places : List ℕ) → length places ≡ length vs → ((k : ℕ) → k < length places → get_or places k 0 ≡ length front + k)
    → values_at (front ++ vs) places ≡ Some vs
all_behind front [] [] e at = refl
all_behind front [] (p ∷ places) e at = absurd (omega (arith, e))
all_behind front (v ∷ vs) [] e at = absurd (omega (arith, e))
all_behind front (v ∷ vs) (p ∷ places) e at =
    let here : p ≡ length front = (let first : p ≡ length front + 0 = at 0 (omega arith) in omega arith) in
    let rest : values_at (front ++ v ∷ vs) places ≡ Some vs =
    ap (λ us. values_at us places) (sym (one_more front v vs))
    ∙ all_behind (front ++ v ∷ []) vs places (omega arith)
    (λ k lt. let next : get_or places k 0 ≡ length front + suc k = at (suc k) (omega arith) in let l = length_more front v in omega arith) in
    λ i. option_and_then (λ w. option_map (λ us. w ∷ us) (rest i)) ((ap (slice_get (front ++ v ∷ vs)) here ∙ at_behind front v vs) i)

pub all_places : (vs : List Value) (places : List ℕ) → length places ≡ length vs → ((k : ℕ) → k < length places → get_or places k 0 ≡ k) → values_at vs places ≡ Some vs
all_places vs places e at = all_behind [] vs places e (λ k lt. let same : get_or places k 0 ≡ k = at k lt in omega arith)

-- ---- one value taken

other_place : (vs : List Value) (p q : ℕ) (w : Value) → (q ≡ p → ⊥) → slice_get (slice_set vs p w) q ≡ slice_get vs q
other_place [] p q w apart = refl
other_place (v ∷ vs) zero zero w apart = absurd (apart refl)
other_place (v ∷ vs) zero (suc q) w apart = refl
other_place (v ∷ vs) (suc p) zero w apart = refl
other_place (v ∷ vs) (suc p) (suc q) w apart = other_place vs p q w (λ e. apart (ap suc e))

-- a value that is changed at a place isn't seen at others
pub others_stay : (vs : List Value) (p : ℕ) (w : Value) (places : List ℕ) → list_any (λ q. eqb q p) places ≡ false → values_at (slice_set vs p w) places ≡ values_at vs places
others_stay vs p w [] apart = refl
others_stay vs p w (q ∷ places) apart =
    let parts = neither (eqb q p) (list_any (λ q. eqb q p) places) apart in
    let rest : values_at (slice_set vs p w) places ≡ values_at vs places = others_stay vs p w places parts.1 in
    let here : slice_get (slice_set vs p w) q ≡ slice_get vs q = other_place vs p q w (λ e. true≢false (sym (eq-eqb q p e) ∙ parts.0)) in
    λ i. option_and_then (λ u. option_map (λ us. u ∷ us) (rest i)) (here i)

-- ---- the values one by one

within_there : (vs : List Value) (p : ℕ) (v : Value) → slice_get vs p ≡ Some v → p < length vs
within_there [] p v at = absurd cc
within_there (w ∷ vs) zero v at = omega arith
within_there (w ∷ vs) (suc p) v at = let rest : p < length vs = within_there vs p v at in omega arith

-- where there are values at places, there is one at the first of them
pub first_there : (vs us : List Value) (places : List ℕ) (i : ℕ) (made : List Value) → i < length places → option_map (λ more. made ++ more) (values_at vs (drop i places)) ≡ Some us
    → get_or places i 0 < length vs
first_there vs us (p ∷ places) zero made within e = by (slice_get vs p) refl e
  where
    by : (o : Option Value) → slice_get vs p ≡ o → option_map (λ more. made ++ more) (option_and_then (λ v. option_map (λ us. v ∷ us) (values_at vs places)) o) ≡ Some us → p < length vs
    by None at e = absurd cc
    by (Some v) at e = within_there vs p v at
first_there vs us (p ∷ places) (suc i) made within e = first_there vs us places i made (omega (arith, within)) e
first_there vs us [] i made within e = absurd (omega (arith, within))
