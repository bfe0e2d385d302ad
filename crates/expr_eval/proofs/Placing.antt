-- Values put at their places, each place once, make the tuple.
use Rattle.std.specs.Prelude.{◌≡◌, ◌+◌, ◌<◌, ◌≤◌, ◌==◌, ℕ, zero, suc, nat_lt, true, false, cond, List, [], ◌∷◌, ◌++◌, length, map, Some, slice_get, slice_set}
use Rattle.std.specs.List.{AllByRecursion, count_by}
use Rattle.std.specs.Option.{option_map, option_and_then}
use Rattle.std.proofs.Common.{refl, sym, ap, subst, ◌∙◌, arith}
use Rattle.std.proofs.lemmas.Bool.{eqb-true, eqb-false, le-ltb, lt-ltb}
use Rattle.std.proofs.lemmas.List.{length-map, length-set}
use Rattle.std.proofs.lemmas.List.Recursion.{is_count_by}
use Rattle.spl_value.specs.declared.value.Value.{Value}
use Rattle.language_model.specs.Evaluation.{field_at, tuple_from, tuple_of}

-- each place of the tuple has one field
abbrev pub HaveEachPlace : List (ℕ × Value) → Type 0
HaveEachPlace fields = (i : ℕ) → i < length fields → count_by (λ f. f.0 == i) fields ≡ 1

-- each value is put at its place, one after another
abbrev pub placed : List (ℕ × Value) → List Value → List Value
placed [] vs = vs
placed (f ∷ fs) vs = placed fs (slice_set vs f.0 f.1)

-- each place is below that
abbrev pub PlacesBelow : {A : Type 0} → ℕ → List (ℕ × A) → Type 0
PlacesBelow n fs = AllByRecursion (λ f. f.0 < n) fs

-- ---- how often there is a place, and how many places are below a number

unfoldable pub how_often : {A : Type 0} → ℕ → List (ℕ × A) → ℕ
how_often i [] = 0
how_often i (f ∷ fs) = cond (f.0 == i) (1 + how_often i fs) (how_often i fs)

how_many_below : {A : Type 0} → ℕ → List (ℕ × A) → ℕ
how_many_below n [] = 0
how_many_below n (f ∷ fs) = cond (nat_lt f.0 n) (1 + how_many_below n fs) (how_many_below n fs)

once_each : (fs : List (ℕ × Value)) → HaveEachPlace fs → (i : ℕ) → i < length fs → how_often i fs ≡ 1
unfolding how_often
once_each fs h i lt = is_count_by (how_often i) (λ f. f.0 == i) refl (λ f gs. refl) fs ∙ h i lt

none_below : {A : Type 0} (fs : List (ℕ × A)) → how_many_below 0 fs ≡ 0
unfolding how_many_below
none_below [] = refl
none_below (f ∷ fs) = rw (le-ltb f.0 0 (omega arith)) (none_below fs)

one_more : {A : Type 0} (n : ℕ) (fs : List (ℕ × A)) → how_many_below (suc n) fs ≡ how_many_below n fs + how_often n fs
unfolding how_many_below how_often
one_more n [] = refl
one_more n (f ∷ fs) =
    let rest : how_many_below (suc n) fs ≡ how_many_below n fs + how_often n fs = one_more n fs in
    grind arith

below_are : {A : Type 0} (n : ℕ) (fs : List (ℕ × A)) → ((i : ℕ) → i < n → how_often i fs ≡ 1) → how_many_below n fs ≡ n
below_are zero fs once = none_below fs
below_are (suc n) fs once =
    let rest : how_many_below n fs ≡ n = below_are n fs (λ i lt. once i (omega arith)) in
    let here : how_often n fs ≡ 1 = once n (omega arith) in
    let more = one_more n fs in
    omega arith

at_most : {A : Type 0} (n : ℕ) (fs : List (ℕ × A)) → how_many_below n fs ≤ length fs
unfolding how_many_below
at_most n [] = omega arith
at_most n (f ∷ fs) = let rest : how_many_below n fs ≤ length fs = at_most n fs in grind arith

all_counted : {A : Type 0} (n : ℕ) (fs : List (ℕ × A)) → PlacesBelow n fs → how_many_below n fs ≡ length fs
unfolding how_many_below
all_counted n [] h = refl
all_counted n (f ∷ fs) h = rw (lt-ltb f.0 n h.0) (ap (λ m. 1 + m) (all_counted n fs h.1) ∙ (let more : 1 + length fs ≡ suc (length fs) = omega arith in more))

once_counted : {A : Type 0} (i : ℕ) (fs : List (ℕ × A)) → count_by (λ (f : ℕ × A). f.0 == i) fs ≡ 1 → how_often i fs ≡ 1
unfolding how_often
once_counted {A} i fs h = is_count_by (λ (fs : List (ℕ × A)). how_often i fs) (λ (f : ℕ × A). f.0 == i) refl (λ f gs. refl) fs ∙ h

-- fields of which each of n places has one, and that have no others, are n
pub as_many : {A : Type 0} (n : ℕ) (fs : List (ℕ × A)) → ((i : ℕ) → i < n → count_by (λ (f : ℕ × A). f.0 == i) fs ≡ 1) → PlacesBelow n fs → length fs ≡ n
as_many n fs once h = sym (all_counted n fs h) ∙ below_are n fs (λ i lt. once_counted i fs (once i lt))

pub place_below : {A : Type 0} (n : ℕ) (fs : List (ℕ × A)) → PlacesBelow n fs → (i : ℕ) (f : ℕ × A) → slice_get fs i ≡ Some f → f.0 < n
place_below n [] h i f e = absurd cc
place_below n (g ∷ fs) h zero f e = let same : g ≡ f = cc in subst (λ (g : ℕ × _). g.0 < n) same h.0
place_below n (g ∷ fs) h (suc i) f e = place_below n fs h.1 i f e

-- ---- what is at a place

pub set_here : (vs : List Value) (i : ℕ) (v : Value) → i < length vs → slice_get (slice_set vs i v) i ≡ Some v
set_here [] i v lt = absurd (omega arith)
set_here (w ∷ vs) zero v lt = refl
set_here (w ∷ vs) (suc i) v lt = set_here vs i v (omega arith)

pub set_elsewhere : (vs : List Value) (i j : ℕ) (v : Value) → (j ≡ i → ⊥) → slice_get (slice_set vs j v) i ≡ slice_get vs i
set_elsewhere [] i j v other = refl
set_elsewhere (w ∷ vs) zero zero v other = absurd (other refl)
set_elsewhere (w ∷ vs) zero (suc j) v other = refl
set_elsewhere (w ∷ vs) (suc i) zero v other = refl
set_elsewhere (w ∷ vs) (suc i) (suc j) v other = set_elsewhere vs i j v (λ e. other (ap suc e))

placed_elsewhere : (fs : List (ℕ × Value)) (vs : List Value) (i : ℕ) → how_often i fs ≡ 0 → slice_get (placed fs vs) i ≡ slice_get vs i
unfolding how_often
placed_elsewhere [] vs i never = refl
placed_elsewhere (f ∷ fs) vs i never =
    elim (f.0 == i) as (λ b. (f.0 == i) ≡ b → cond b (1 + how_often i fs) (how_often i fs) ≡ 0 → slice_get (placed fs (slice_set vs f.0 f.1)) i ≡ slice_get vs i) [
      | true ↦ λ e never. absurd (omega arith)
      | false ↦ λ e never. placed_elsewhere fs (slice_set vs f.0 f.1) i never ∙ set_elsewhere vs i f.0 f.1 (eqb-false f.0 i e)
    ] refl never

placed_once : (fs : List (ℕ × Value)) (vs : List Value) (i : ℕ) → how_often i fs ≡ 1 → i < length vs → slice_get (placed fs vs) i ≡ field_at i fs
unfolding how_often
placed_once [] vs i once lt = absurd (omega arith)
placed_once (f ∷ fs) vs i once lt =
    elim (f.0 == i) as (λ b. (f.0 == i) ≡ b → cond b (1 + how_often i fs) (how_often i fs) ≡ 1 → slice_get (placed fs (slice_set vs f.0 f.1)) i ≡ cond b (Some f.1) (field_at i fs)) [
      | true ↦ λ e once.
          placed_elsewhere fs (slice_set vs f.0 f.1) i (omega arith)
          ∙ subst (λ (j : ℕ). slice_get (slice_set vs j f.1) i ≡ Some f.1) (sym (eqb-true f.0 i e)) (set_here vs i f.1 lt)
      | false ↦ λ e once. placed_once fs (slice_set vs f.0 f.1) i once (rw (length-set vs f.0 f.1) lt)
    ] refl once

pub placed_length : (fs : List (ℕ × Value)) (vs : List Value) → length (placed fs vs) ≡ length vs
placed_length [] vs = refl
placed_length (f ∷ fs) vs = placed_length fs (slice_set vs f.0 f.1) ∙ length-set vs f.0 f.1

-- ---- the tuple

from_places : (fs : List (ℕ × Value)) (i n : ℕ) (vs : List Value) → length vs ≡ n → ((j k : ℕ) → j ≡ i + k → k < n → slice_get vs k ≡ field_at j fs)
    → tuple_from i n fs ≡ Some vs
from_places fs i zero [] long h = refl
from_places fs i zero (v ∷ vs) long h = absurd (omega arith)
from_places fs i (suc n) [] long h = absurd (omega arith)
from_places fs i (suc n) (v ∷ vs) long h =
    let first : Some v ≡ field_at i fs = h i 0 (omega arith) (omega arith) in
    let others : tuple_from (suc i) n fs ≡ Some vs = from_places fs (suc i) n vs (omega arith) (λ j k e lt. h j (suc k) (omega arith) (omega arith)) in
    λ x. option_and_then (λ w. option_map (λ ws. w ∷ ws) (others x)) (sym first x)

pub tuple_placed : (fs : List (ℕ × Value)) (vs : List Value) → HaveEachPlace fs → length vs ≡ length fs → tuple_of fs ≡ Some (placed fs vs)
tuple_placed fs vs h long = from_places fs 0 (length fs) (placed fs vs) (placed_length fs vs ∙ long) at_place
  where
    at_place : (j k : ℕ) → j ≡ 0 + k → k < length fs → slice_get (placed fs vs) k ≡ field_at j fs
    at_place j k e lt =
        let same : k ≡ j = omega arith in
        placed_once fs vs k (once_each fs h k lt) (omega arith) ∙ ap (λ i. field_at i fs) same

-- a field of those by which a tuple is made is at its place there
stands : (fs : List (ℕ × Value)) (i : ℕ) (f : ℕ × Value) → slice_get fs i ≡ Some f → 1 ≤ how_often f.0 fs
unfolding how_often
stands [] i f e = absurd cc
stands (g ∷ fs) zero f e = let same : g ≡ f = cc in subst (λ (g : ℕ × Value). 1 ≤ cond (g.0 == f.0) (1 + how_often f.0 fs) (how_often f.0 fs)) (sym same) (grind arith)
stands (g ∷ fs) (suc i) f e = let rest : 1 ≤ how_often f.0 fs = stands fs i f e in grind arith

found : (fs : List (ℕ × Value)) (i : ℕ) (f : ℕ × Value) → slice_get fs i ≡ Some f → how_often f.0 fs ≡ 1 → field_at f.0 fs ≡ Some f.1
unfolding how_often
found [] i f e once = absurd cc
found (g ∷ fs) zero f e once = let same : g ≡ f = cc in subst (λ (g : ℕ × Value). cond (g.0 == f.0) (Some g.1) (field_at f.0 fs) ≡ Some f.1) (sym same) (grind arith)
found (g ∷ fs) (suc i) f e once =
    elim (g.0 == f.0) as (λ b. cond b (1 + how_often f.0 fs) (how_often f.0 fs) ≡ 1 → cond b (Some g.1) (field_at f.0 fs) ≡ Some f.1) [
      | true ↦ λ once. let more : 1 ≤ how_often f.0 fs = stands fs i f e in absurd (omega (arith, once, more))
      | false ↦ λ once. found fs i f e once
    ] once

pub at_its_place : (fs : List (ℕ × Value)) (tuple : List Value) → tuple_of fs ≡ Some tuple → HaveEachPlace fs → (i : ℕ) (f : ℕ × Value) → slice_get fs i ≡ Some f → f.0 < length fs
    → slice_get tuple f.0 ≡ Some f.1
at_its_place fs tuple is each i f e lt =
    let blanks : List Value = map (λ g. g.1) fs in
    let long : length blanks ≡ length fs = length-map fs (λ g. g.1) in
    let both : Some (placed fs blanks) ≡ Some tuple = sym (tuple_placed fs blanks each long) ∙ is in
    let same : placed fs blanks ≡ tuple = cc in
    let once : how_often f.0 fs ≡ 1 = once_each fs each f.0 lt in
    ap (λ vs. slice_get vs f.0) (sym same) ∙ placed_once fs blanks f.0 once (subst (λ (n : ℕ). f.0 < n) (sym long) lt) ∙ found fs i f e once

-- ---- one field after another

pub placed_more : (fs : List (ℕ × Value)) (f : ℕ × Value) (vs : List Value) → placed (fs ++ f ∷ []) vs ≡ slice_set (placed fs vs) f.0 f.1
placed_more [] f vs = refl
placed_more (g ∷ fs) f vs = placed_more fs f (slice_set vs g.0 g.1)
