-- Values that no later one comes before, as one comes and the first one leaves.
use Rattle.std.proofs.Common.{◌≡◌, ◌<◌, ◌≤◌, ◌+◌, ◌-◌, ℕ, Bool, true, false, cond, not, ◌||◌, true≢false, List, [], ◌∷◌, ◌++◌, take, drop, length, slice_get, Option, Some, None, refl, sym, ap, subst, ◌∙◌, arith}
use Rattle.std.specs.Prelude.{slice_index_or}
use Rattle.std.specs.List.{filter, list_any, AllByRecursion}
use Rattle.std.specs.Option.{option_map_or}
use Rattle.std.proofs.lemmas.List.Folds.{list_any-append}
use Rattle.std.proofs.lemmas.List.{take_all}
use Rattle.spl_value.specs.declared.value.Value.{Value}
use Rattle.spl_value.proofs.Lists.{take_at}
use Rattle.stream_model.specs.Aggregates.{least_by}
use Rattle.stream_model.specs.Windows.{near}
use Rattle.tuple_groups.specs.Extremes.{before}
use Rattle.running_folds.specs.Folds.{folded}
use Rattle.running_folds.specs.Moving.{NoneBehind, fold_of}
use Rattle.running_folds.specs.declared.moving.Moving.TheVariants as M
use Rattle.running_folds.proofs.Orders.{IsStrict, any_before}

-- ---- one more value

any_push : {A : Type 0} (p : A → Bool) (xs : List A) (t : A) → list_any p (xs ++ t ∷ []) ≡ (list_any p xs || p t)
any_push p xs t = list_any-append p xs (t ∷ []) ∙ ap (λ b. list_any p xs || b) (alone (p t))
  where
    alone : (b : Bool) → (b || false) ≡ b
    alone true = refl
    alone false = refl

stays_if : {A : Type 0} (keep : A → Bool) (x : A) (m n rest : List A) (a b : Bool) → keep x ≡ not b → n ≡ filter keep m ++ rest
    → cond (a || b) n (x ∷ n) ≡ filter keep (cond a m (x ∷ m)) ++ rest
stays_if keep x m n rest true b k e = e
stays_if keep x m n rest false true k e = e ∙ sym (ap (λ c. cond c (x ∷ filter keep m) (filter keep m) ++ rest) k)
stays_if keep x m n rest false false k e = ap (λ l. x ∷ l) e ∙ sym (ap (λ c. cond c (x ∷ filter keep m) (filter keep m) ++ rest) k)

pub near_push : {A : Type 0} (far : A → A → Bool) (xs : List A) (t : A) → near far (xs ++ t ∷ []) ≡ filter (λ u. not (far t u)) (near far xs) ++ t ∷ []
near_push far [] t = refl
near_push far (x ∷ xs) t =
    ap (λ b. cond b (near far (xs ++ t ∷ [])) (x ∷ near far (xs ++ t ∷ []))) (any_push (λ later. far later x) xs t)
    ∙ stays_if (λ u. not (far t u)) x (near far xs) (near far (xs ++ t ∷ [])) (t ∷ []) (list_any (λ later. far later x) xs) (far t x) refl (near_push far xs t)

-- ---- the order of those that are kept

split_last : {A : Type 0} (P : A → Type 0) (us : List A) (w : A) → AllByRecursion P (us ++ w ∷ []) → AllByRecursion P us × P w
split_last P [] w all = (tt, all.0)
split_last P (u ∷ us) w all = let rest = split_last P us w all.1 in ((all.0, rest.0), rest.1)

module _ (R : Value → Value → Bool) where
  none_any : (v : Value) (vs : List Value) → list_any (λ later. R later v) vs ≡ false → AllByRecursion (λ w. R w v ≡ false) vs
  none_any v [] e = tt
  none_any v (w ∷ ws) e = by (R w v) refl e (none_any v ws)
    where
      by : (b : Bool) → R w v ≡ b → (b || list_any (λ later. R later v) ws) ≡ false → (list_any (λ later. R later v) ws ≡ false → AllByRecursion (λ w. R w v ≡ false) ws)
          → (R w v ≡ false) × AllByRecursion (λ w. R w v ≡ false) ws
      by true p e rest = absurd (true≢false e)
      by false p e rest = (p, rest e)

  all_near : (P : Value → Type 0) (vs : List Value) → AllByRecursion P vs → AllByRecursion P (near R vs)
  all_near P [] all = tt
  all_near P (v ∷ vs) all = by (list_any (λ later. R later v) vs) (all_near P vs all.1)
    where
      by : (b : Bool) → AllByRecursion P (near R vs) → AllByRecursion P (cond b (near R vs) (v ∷ near R vs))
      by true rest = rest
      by false rest = (all.0, rest)

  pub near_order : (vs : List Value) → NoneBehind R (near R vs)
  near_order [] = tt
  near_order (v ∷ vs) = by (list_any (λ later. R later v) vs) refl (near_order vs)
    where
      by : (b : Bool) → list_any (λ later. R later v) vs ≡ b → NoneBehind R (near R vs) → NoneBehind R (cond b (near R vs) (v ∷ near R vs))
      by true e rest = rest
      by false e rest = (all_near (λ w. R w v ≡ false) vs (none_any v vs e), rest)

  -- without the last one
  pub without_last : (vs : List Value) (w : Value) → NoneBehind R (vs ++ w ∷ []) → NoneBehind R vs × AllByRecursion (λ v. R w v ≡ false) vs
  without_last [] w order = (tt, tt)
  without_last (v ∷ vs) w order =
      let rest = without_last vs w order.1 in
      let split = split_last (λ u. R u v ≡ false) vs w order.0 in ((split.0, rest.0), (split.1, rest.1))

  -- a new value doesn't come before this one
  abbrev pub keeps : Value → Value → Bool
  keeps value u = not (R value u)

  module _ (strict : IsStrict R) (value : Value) where
    all_kept : (w : Value) (vs : List Value) → R value w ≡ false → AllByRecursion (λ v. R w v ≡ false) vs → filter (keeps value) vs ≡ vs
    all_kept w [] stays all = refl
    all_kept w (v ∷ vs) stays all =
        ap (λ b. cond (not b) (v ∷ filter (keeps value) vs) (filter (keeps value) vs)) (strict.cotrans value w v stays all.0)
        ∙ ap (λ us. v ∷ us) (all_kept w vs stays all.1)

    filter_push : (vs : List Value) (w : Value) → filter (keeps value) (vs ++ w ∷ []) ≡ filter (keeps value) vs ++ cond (keeps value w) (w ∷ []) []
    filter_push [] w = by (keeps value w)
      where
        by : (b : Bool) → cond b (w ∷ []) [] ≡ cond b (w ∷ []) []
        by b = refl
    filter_push (v ∷ vs) w = ap (λ us. cond (keeps value v) (v ∷ us) us) (filter_push vs w) ∙ by (keeps value v)
      where
        by : (b : Bool) → cond b (v ∷ (filter (keeps value) vs ++ cond (keeps value w) (w ∷ []) [])) (filter (keeps value) vs ++ cond (keeps value w) (w ∷ []) [])
            ≡ cond b (v ∷ filter (keeps value) vs) (filter (keeps value) vs) ++ cond (keeps value w) (w ∷ []) []
        by true = refl
        by false = refl

    -- where the last one stays, all do
    pub last_stays : (q vs : List Value) (w : Value) → q ≡ vs ++ w ∷ [] → NoneBehind R q → R value w ≡ false → q ≡ filter (keeps value) q
    last_stays q vs w is order stays =
        let before = without_last vs w (subst (NoneBehind R) is order) in
        is
        ∙ (λ i. sym (all_kept w vs stays before.1) i ++ w ∷ [])
        ∙ ap (λ b. filter (keeps value) vs ++ cond (not b) (w ∷ []) []) (sym stays)
        ∙ sym (filter_push vs w) ∙ ap (filter (keeps value)) (sym is)

    -- the last one goes, and the others are looked at
    pub last_goes : (q vs : List Value) (w : Value) → q ≡ vs ++ w ∷ [] → R value w ≡ true → filter (keeps value) q ≡ filter (keeps value) vs
    last_goes q vs w is goes =
        ap (filter (keeps value)) is ∙ filter_push vs w ∙ ap (λ b. filter (keeps value) vs ++ cond (not b) (w ∷ []) []) goes ∙ end (filter (keeps value) vs)
      where
        end : (us : List Value) → us ++ [] ≡ us
        end [] = refl
        end (u ∷ us) = ap (λ ws. u ∷ ws) (end us)

-- ---- the first value leaves

module _ (R : Value → Value → Bool) (strict : IsStrict R) (value : Value) (vs : List Value) where
  -- what is left is what is near among the others: the first one has left already, or it stands in front
  pub front_leaves : (q : List Value) (o : Option Value) → q ≡ near R (value ∷ vs) → slice_get q 0 ≡ o
      → cond (option_map_or (λ front. R front value) o true) q (drop 1 q) ≡ near R vs
  front_leaves q o is front = by (list_any (λ later. R later value) vs) refl is
    where
      known : (p : Option Value) → option_map_or (λ w. R w value) p false ≡ true → option_map_or (λ w. R w value) p true ≡ true
      known None e = refl
      known (Some w) e = e

      by : (b : Bool) → list_any (λ later. R later value) vs ≡ b → q ≡ cond b (near R vs) (value ∷ near R vs)
          → cond (option_map_or (λ front. R front value) o true) q (drop 1 q) ≡ near R vs
      by true any e =
          let first : option_map_or (λ w. R w value) (slice_get (near R vs) 0) false ≡ true = sym (any_before R strict value vs) ∙ any in
          let same : o ≡ slice_get (near R vs) 0 = sym front ∙ ap (λ us. slice_get us 0) e in
          ap (λ b. cond b q (drop 1 q)) (ap (λ p. option_map_or (λ w. R w value) p true) same ∙ known (slice_get (near R vs) 0) first) ∙ e
      by false any e =
          let same : o ≡ Some value = sym front ∙ ap (λ us. slice_get us 0) e in
          ap (λ b. cond b q (drop 1 q)) (ap (λ p. option_map_or (λ w. R w value) p true) same ∙ strict.itself value) ∙ ap (drop 1) e

-- the last one stands at the end
pub at_the_end : (q : List Value) (n : ℕ) (w : Value) → length q ≡ n → 0 < n → w ≡ slice_index_or q (n - 1) w → q ≡ take (n - 1) q ++ w ∷ []
at_the_end q n w long some is =
    let within : n - 1 < length q = omega arith in
    let all : length q ≤ n - 1 + 1 = omega arith in
    sym (take_all (n - 1 + 1) q all) ∙ take_at q (n - 1) w within is

-- the first value by the order is what the fold makes
pub extreme_is : (greatest : Bool) (queue : _) (vs : List Value) → least_by (before greatest) vs ≡ folded (fold_of (M.Extreme greatest queue)) vs
extreme_is true queue vs = refl
extreme_is false queue vs = refl
