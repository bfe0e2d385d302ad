-- Attributes that rise, and what a new integer leaves of tuples.
use Rattle.std.proofs.Common.{ℕ, zero, suc, ℤ, ◌+◌, ◌-◌, ◌≤◌, ◌<◌, ◌≡◌, Bool, true, false, cond, not, List, [], ◌∷◌, ◌++◌, get_or, take, drop, length, filter, slice_get, Some, refl, sym, ap, subst, ◌∙◌, append-nil, append_assoc, drop-cons, arith}
use Rattle.std.specs.Prelude.{◌-ℤ◌, int_lt}
use Rattle.std.proofs.lemmas.Int.{ints}
use Rattle.std.proofs.lemmas.List.Elements.{filter_more}
use Rattle.circular_buffer.specs.Buffer.{last_item}
use Rattle.spl_value.specs.declared.value.Value.{Value}
use Rattle.spl_value.proofs.Lists.{get_below}
use Rattle.stream_model.specs.Windows.{integer_at}
use Rattle.window_policy.specs.Deltas.{RisesAfter, Rises}
use Rattle.window_policy.specs.steps.Deltas.{is_left, passed}

-- ---- where the attribute rises

higher : (limit new x y : ℤ) → not (int_lt limit (new -ℤ x)) ≡ true → int_lt y x ≡ false → not (int_lt limit (new -ℤ y)) ≡ true
higher limit new x y a b = grind (arith, ints)

module _ (a : ℕ) (limit new : ℤ) where
  all_stay : (t : List Value) (ts : List (List Value)) → is_left a limit new t ≡ true → RisesAfter a t ts → filter (is_left a limit new) ts ≡ ts
  all_stay t [] stays rises = refl
  all_stay t (u ∷ us) stays rises =
      let next : is_left a limit new u ≡ true = higher limit new (integer_at a t) (integer_at a u) stays rises.0 in
      ap (λ b. cond b (u ∷ filter (is_left a limit new) us) (filter (is_left a limit new) us)) next
      ∙ ap (λ zs. u ∷ zs) (all_stay u us next rises.1)

  -- where the first tuple stays, all do
  pub front_stays : (t : List Value) (ts : List (List Value)) → is_left a limit new t ≡ true → RisesAfter a t ts → filter (is_left a limit new) (t ∷ ts) ≡ t ∷ ts
  front_stays t ts stays rises =
      ap (λ b. cond b (t ∷ filter (is_left a limit new) ts) (filter (is_left a limit new) ts)) stays
      ∙ ap (λ zs. t ∷ zs) (all_stay t ts stays rises)

  pub front_goes : (t : List Value) (ts : List (List Value)) → is_left a limit new t ≡ false → filter (is_left a limit new) (t ∷ ts) ≡ filter (is_left a limit new) ts
  front_goes t ts goes = ap (λ b. cond b (t ∷ filter (is_left a limit new) ts) (filter (is_left a limit new) ts)) goes

  tail_rises : (t : List Value) (ts : List (List Value)) → RisesAfter a t ts → Rises a ts
  tail_rises t [] rises = tt
  tail_rises t (u ∷ us) rises = rises.1

  -- the front stays, and so do all
  pub ends : (t : List Value) (xs ys zs : List (List Value)) → xs ≡ t ∷ ys → Rises a xs → is_left a limit new t ≡ true
      → filter (is_left a limit new) zs ≡ filter (is_left a limit new) xs → xs ≡ filter (is_left a limit new) zs
  ends t xs ys zs is rises stays same =
      is ∙ sym (front_stays t ys stays (subst (Rises a) is rises)) ∙ ap (filter (is_left a limit new)) (sym is) ∙ sym same

  -- the front goes, and the others are looked at
  pub goes_on : (t : List Value) (xs ys zs : List (List Value)) → xs ≡ t ∷ ys → is_left a limit new t ≡ false
      → (Rises a zs → Rises a xs) × (filter (is_left a limit new) zs ≡ filter (is_left a limit new) xs)
      → (Rises a zs → Rises a ys) × (filter (is_left a limit new) zs ≡ filter (is_left a limit new) ys)
  goes_on t xs ys zs is goes before =
      (λ rises. tail_rises t ys (subst (Rises a) is (before.0 rises)), before.1 ∙ ap (filter (is_left a limit new)) is ∙ front_goes t ys goes)

  ---- one after the other is moved to the end, or dropped

  abbrev pub Passing : ℕ → List (List Value) → List (List Value) → Type 0
  Passing i xs now = now ≡ drop i xs ++ filter (is_left a limit new) (take i xs)

  moved : (b : Bool) (t : List Value) (rest left : List (List Value)) → cond b ((rest ++ left) ++ t ∷ []) (rest ++ left) ≡ rest ++ (left ++ cond b (t ∷ []) [])
  moved true t rest left = append_assoc rest left (t ∷ [])
  moved false t rest left = ap (λ zs. rest ++ zs) (sym (append-nil left))

  pub passing : (i : ℕ) (xs now : List (List Value)) → i < length xs → Passing i xs now → Passing (i + 1) xs (passed a limit new now)
  passing i xs now within is =
      let t : List Value = get_or xs i [] in
      let left : List (List Value) = filter (is_left a limit new) (take i xs) in
      let next : suc i ≡ i + 1 = omega arith in
      let one : drop (suc i) xs ≡ drop (i + 1) xs = ap (λ m. drop m xs) next in
      ap (passed a limit new) (is ∙ ap (λ zs. zs ++ left) (drop-cons xs i [] within))
      ∙ moved (is_left a limit new t) t (drop (suc i) xs) left
      ∙ ap (λ zs. zs ++ (left ++ cond (is_left a limit new t) (t ∷ []) [])) one
      ∙ ap (λ zs. drop (i + 1) xs ++ zs) (sym (filter_more (is_left a limit new) xs i [] within))

-- ---- one more tuple

pub rises_by : (a i : ℕ) (xs : List (List Value)) (t u : List Value) → slice_get xs i ≡ Some t → slice_get xs (suc i) ≡ Some u
    → int_lt (integer_at a u) (integer_at a t) ≡ false → Rises a (take (suc i) xs) → Rises a (take (suc (suc i)) xs)
rises_by a i [] t u one two up rises = cc
rises_by a zero (x ∷ []) t u one two up rises = tt
rises_by a zero (x ∷ y ∷ xs) t u one two up rises =
    let first : x ≡ t = cc in
    let second : y ≡ u = cc in
    (ap (λ v. int_lt (integer_at a v) (integer_at a x)) second ∙ ap (λ v. int_lt (integer_at a u) (integer_at a v)) first ∙ up, tt)
rises_by a (suc i) (x ∷ []) t u one two up rises = tt
rises_by a (suc i) (x ∷ y ∷ xs) t u one two up rises = (rises.0, rises_by a i (y ∷ xs) t u one two up rises.1)

pub rises_at : (a i : ℕ) (xs : List (List Value)) → 1 ≤ i → i < length xs
    → ((t u : List Value) → slice_get xs (i - 1) ≡ Some t → slice_get xs i ≡ Some u → int_lt (integer_at a u) (integer_at a t) ≡ false)
    → Rises a (take i xs) → Rises a (take (i + 1) xs)
rises_at a zero xs one within up rises = absurd (omega arith)
rises_at a (suc i) xs one within up rises =
    let t = get_below xs i (omega arith) in
    let u = get_below xs (suc i) within in
    let place : suc i - 1 ≡ i = omega arith in
    let next : suc (suc i) ≡ suc i + 1 = omega arith in
    subst (λ n. Rises a (take n xs)) next
    (rises_by a i xs t.0 u.0 t.1 u.1 (up t.0 u.0 (ap (slice_get xs) place ∙ t.1) u.1) rises)

-- a tuple that isn't below the last one
pub rises_more : (a : ℕ) (xs : List (List Value)) (t : List Value) → Rises a xs
    → ((last : List Value) → last_item xs ≡ Some last → int_lt (integer_at a t) (integer_at a last) ≡ false) → Rises a (xs ++ t ∷ [])
rises_more a [] t rises above = tt
rises_more a (x ∷ []) t rises above = (above x refl, tt)
rises_more a (x ∷ y ∷ xs) t rises above =
    (rises.0, rises_more a (y ∷ xs) t rises.1 (λ last e. above last (ap (slice_get (x ∷ y ∷ xs)) place ∙ e)))
  where
    place : suc (suc (length xs)) - 1 ≡ suc (suc (length xs) - 1)
    place = omega arith
