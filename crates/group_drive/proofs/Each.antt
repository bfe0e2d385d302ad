-- Facts of each element of a list, as one changes and as lists are put together and taken apart.
use Rattle.std.proofs.Common.{◌≡◌, ◌≢◌, ◌<◌, ◌+◌, ℕ, zero, suc, List, [], ◌∷◌, ◌++◌, length, get_or, set, sym, subst}
use Rattle.std.proofs.Common.{⊎_elim, arith}
use Rattle.std.proofs.lemmas.Bool.Decides.{eqb_tells}
use Rattle.std.proofs.lemmas.List.{get_or-set_same, get_or-set_other, length-set}

abbrev pub Each : {A : Type 0} → (A → Type 0) → List A → Type 0
Each {A} P xs = (i : ℕ) (d : A) → i < length xs → P (get_or xs i d)

-- of those before an index
abbrev pub Before : {A : Type 0} → (A → Type 0) → List A → ℕ → Type 0
Before {A} P xs n = (i : ℕ) (d : A) → i < n → P (get_or xs i d)

-- at an index that may be the one that changed
at_place : {A : Type 0} (P : A → Type 0) (xs : List A) (i : ℕ) (x : A) (k : ℕ) (d : A) → i < length xs → P x
    → (k ≢ i → P (get_or xs k d)) → P (get_or (set xs i x) k d)
at_place P xs i x k d low here else = ⊎_elim
    (λ e. subst P (sym (subst (λ j. get_or (set xs i x) j d ≡ x) (sym e.1) (get_or-set_same xs i x d low))) here)
    (λ n. subst P (sym (get_or-set_other xs i k x d n.1)) (else n.1))
    (eqb_tells k i)

pub each_set : {A : Type 0} (P : A → Type 0) (xs : List A) (i : ℕ) (x : A) → i < length xs → Each P xs → P x
    → Each P (set xs i x)
each_set P xs i x low each here k d below =
    at_place P xs i x k d low here (λ _. each k d (omega (arith, length-set xs i x)))

pub below_set : {A : Type 0} (P : A → Type 0) (xs : List A) (i : ℕ) (x : A) → i < length xs → Before P xs i → P x
    → Before P (set xs i x) (i + 1)
below_set P xs i x low each here k d below = at_place P xs i x k d low here (λ n. each k d (omega arith))

each_tail : {A : Type 0} (P : A → Type 0) (x : A) (xs : List A) → Each P (x ∷ xs) → Each P xs
each_tail P x xs e i d low = e (suc i) d (omega arith)

pub each_append : {A : Type 0} (P : A → Type 0) (xs ys : List A) → Each P xs → Each P ys → Each P (xs ++ ys)
each_append P [] ys a b i d low = b i d low
each_append P (x ∷ xs) ys a b zero d low = a zero d (omega arith)
each_append P (x ∷ xs) ys a b (suc i) d low = each_append P xs ys (each_tail P x xs a) b i d (omega arith)

pub each_front : {A : Type 0} (P : A → Type 0) (xs ys : List A) → Each P (xs ++ ys) → Each P xs
each_front P [] ys e i d low = absurd (omega arith)
each_front P (x ∷ xs) ys e zero d low = e zero d (omega arith)
each_front P (x ∷ xs) ys e (suc i) d low = each_front P xs ys (each_tail P x (xs ++ ys) e) i d (omega arith)

pub each_last : {A : Type 0} (P : A → Type 0) (xs : List A) (y : A) → Each P (xs ++ y ∷ []) → P y
each_last P [] y e = e zero y (omega arith)
each_last P (x ∷ xs) y e = each_last P xs y (each_tail P x (xs ++ y ∷ []) e)

pub each_one : {A : Type 0} (P : A → Type 0) (y : A) → P y → Each P (y ∷ [])
each_one P y p zero d low = p
each_one P y p (suc i) d low = absurd (omega arith)

-- of the one at an index
pub each_at : {A : Type 0} (P : A → Type 0) (xs : List A) (i : ℕ) (x : A) → x ≡ get_or xs i x → i < length xs
    → Each P xs → P x
each_at P xs i x is low each = subst P (sym is) (each i x low)
