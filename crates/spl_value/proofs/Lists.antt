-- What stands at the places of lists, of their fronts and of what is left of them.
use Rattle.std.proofs.Common.{add-one, ap, arith, drop, drop-cons, false, get_or, inl, inr, refl, set, subst, sym, take, ◌-◌, ◌∙◌, ◌≢◌, ◌⊎◌, length-append}
use Rattle.std.proofs.Math.Seq.{take-suc}
use Rattle.std.proofs.lemmas.Bool.{eq-eqb}
use Rattle.std.proofs.lemmas.List.{reverse-append}
use Rattle.std.proofs.lemmas.List.Sums.{get_or-le-sum_by, sum_by-cons}
use Rattle.std.proofs.lemmas.Option.{get_or_from_slice_get, slice_get_past, slice_get_read, slice_get_within}
use Rattle.std.proofs.lemmas.Slice.Eq.{bytes_eq-Decides}
use Rattle.std.specs.Bool.{Decides}
use Rattle.std.specs.Borrow.{Bor}
use Rattle.std.specs.Cmp.Lexicographic.{bytes_decides, pointwise}
use Rattle.std.specs.List.{AllByRecursion, Contains, list_any, concat}
use Rattle.std.specs.Option.{option_copied}
use Rattle.std.specs.Prelude.{Bool, List, None, Option, Some, [], length, map, reverse, slice_get, slice_set, suc, sum_by, true, zero, ℕ, ◌&&◌, ◌++◌, ◌+◌, ◌<◌, ◌==◌, ◌||◌, ◌∷◌, ◌≡◌, ◌≤◌}
use Rattle.std.specs.Slice.{IsItemAt}
use Rattle.std.specs.Str.{bytes_eq}
use Rattle.std.proofs.lemmas.List.Folds.{list_any-append}

pub any_first : (i : ℕ) (before : List ℕ) → list_any (λ n. n == i) (i ∷ before) ≡ true
any_first i before = ap (λ b. b || list_any (λ n. n == i) before) (eq-eqb i i refl)

pub before_more : {A : Type 0} (xs ys : List A) (m : ℕ) → m < length xs → slice_get (xs ++ ys) m ≡ slice_get xs m
before_more [] ys m within = absurd (omega arith)
before_more (x ∷ xs) ys zero within = refl
before_more (x ∷ xs) ys (suc m) within = before_more xs ys m (omega arith)

pub at_most_sum : {A : Type 0} (f : A → ℕ) (xs : List A) (k : ℕ) (x : A) → slice_get xs k ≡ Some x → f x ≤ sum_by f xs
at_most_sum f xs k x e =
    let le = get_or-le-sum_by f xs k x (slice_get_within xs k x e) in
    subst (λ y. f y ≤ sum_by f xs) (get_or_from_slice_get xs k x x e) le

-- the rest of a list begins with what stands there
pub next_rest : {A : Type 0} (xs : List A) (n : ℕ) (x : A) → slice_get xs n ≡ Some x → drop n xs ≡ x ∷ drop (suc n) xs
next_rest [] n x is = absurd (no_item n is) where
  no_item : (n : ℕ) → slice_get [] n ≡ Some x → ⊥
  no_item zero is = cc
  no_item (suc n) is = cc
next_rest (y ∷ ys) zero x is = let same : y ≡ x = cc in ap (λ z. z ∷ ys) same
next_rest (y ∷ ys) (suc n) x is = next_rest ys n x is

pub append_cases : {A : Type 0} (xs : List A) (y : A) (k : ℕ) (x : A) → slice_get (xs ++ y ∷ []) k ≡ Some x
    → (slice_get xs k ≡ Some x) ⊎ ((k ≡ length xs) × (y ≡ x))
append_cases [] y zero x e = inr (refl, cc)
append_cases [] y (suc k) x e = cc
append_cases (z ∷ xs) y zero x e = inl e
append_cases (z ∷ xs) y (suc k) x e = elim (append_cases xs y k x e) [ inl h ↦ inl h | inr h ↦ inr (ap suc h.0, h.1) ]

pub append_front : {A : Type 0} (xs ys : List A) (k : ℕ) (x : A) → slice_get xs k ≡ Some x → slice_get (xs ++ ys) k ≡ Some x
append_front [] ys k x e = cc
append_front (y ∷ xs) ys zero x e = e
append_front (y ∷ xs) ys (suc k) x e = append_front xs ys k x e

pub append_last : {A : Type 0} (xs : List A) (y : A) → slice_get (xs ++ y ∷ []) (length xs) ≡ Some y
append_last [] y = refl
append_last (x ∷ xs) y = append_last xs y

pub get_below : {A : Type 0} (xs : List A) (k : ℕ) → k < length xs → (x : A) × (slice_get xs k ≡ Some x)
get_below [] k h = absurd (omega arith)
get_below (y ∷ ys) zero h = (y, refl)
get_below (y ∷ ys) (suc k) h = get_below ys k (omega arith)

pub get_within : {A : Type 0} (xs : List A) (k : ℕ) (x : A) → slice_get xs k ≡ Some x → k < length xs
get_within [] k x e = cc
get_within (y ∷ ys) zero x e = omega arith
get_within (y ∷ ys) (suc k) x e = let h = get_within ys k x e in omega arith

pub only_one : {A : Type 0} (y : A) (k : ℕ) (x : A) → slice_get (y ∷ []) k ≡ Some x → y ≡ x
only_one y zero x e = cc
only_one y (suc k) x e = cc

pub set_cases : {A : Type 0} (xs : List A) (k m : ℕ) (y x : A) → slice_get (set xs k y) m ≡ Some x → (k ≡ m) ⊎ (slice_get xs m ≡ Some x)
set_cases [] k m y x e = inr e
set_cases (z ∷ xs) zero zero y x e = inl refl
set_cases (z ∷ xs) zero (suc m) y x e = inr e
set_cases (z ∷ xs) (suc k) zero y x e = inr e
set_cases (z ∷ xs) (suc k) (suc m) y x e = elim (set_cases xs k m y x e) [ inl h ↦ inl (ap suc h) | inr h ↦ inr h ]

pub set_elsewhere : {A : Type 0} (xs : List A) (k m : ℕ) (y : A) → (k ≡ m → ⊥) → slice_get (set xs k y) m ≡ slice_get xs m
set_elsewhere [] k m y n = refl
set_elsewhere (x ∷ xs) zero zero y n = absurd (n refl)
set_elsewhere (x ∷ xs) zero (suc m) y n = refl
set_elsewhere (x ∷ xs) (suc k) zero y n = refl
set_elsewhere (x ∷ xs) (suc k) (suc m) y n = set_elsewhere xs k m y (λ e. n (ap suc e))

pub set_here : {A : Type 0} (xs : List A) (k : ℕ) (y : A) → k < length xs → slice_get (set xs k y) k ≡ Some y
set_here [] k y h = absurd (omega arith)
set_here (x ∷ xs) zero y h = refl
set_here (x ∷ xs) (suc k) y h = set_here xs k y (omega arith)

pub take_cases : {A : Type 0} (n : ℕ) (xs : List A) (k : ℕ) (x : A) → slice_get (take (suc n) xs) k ≡ Some x
    → (slice_get (take n xs) k ≡ Some x) ⊎ (slice_get xs n ≡ Some x)
take_cases n [] k x e = cc
take_cases zero (y ∷ xs) zero x e = inr e
take_cases zero (y ∷ xs) (suc k) x e = cc
take_cases (suc n) (y ∷ xs) zero x e = inl e
take_cases (suc n) (y ∷ xs) (suc k) x e = take_cases n xs k x e

pub take_last : {A : Type 0} (n : ℕ) (xs : List A) (x : A) → slice_get xs n ≡ Some x → slice_get (take (suc n) xs) n ≡ Some x
take_last n [] x e = cc
take_last zero (y ∷ xs) x e = e
take_last (suc n) (y ∷ xs) x e = take_last n xs x e

pub take_more : {A : Type 0} (n : ℕ) (xs : List A) (k : ℕ) (x : A) → slice_get (take n xs) k ≡ Some x → slice_get (take (suc n) xs) k ≡ Some x
take_more zero xs k x e = cc
take_more (suc n) [] k x e = cc
take_more (suc n) (y ∷ xs) zero x e = e
take_more (suc n) (y ∷ xs) (suc k) x e = take_more n xs k x e

pub take_at : {A : Type 0} (xs : List A) (i : ℕ) (x : A) → i < length xs → x ≡ get_or xs i x → take (i + 1) xs ≡ take i xs ++ x ∷ []
take_at xs i x h e = ap (λ n. take n xs) (add-one i) ∙ take-suc xs i x h ∙ ap (λ y. take i xs ++ y ∷ []) (sym e)

abbrev pub total : {A : Type 0} → (A → ℕ) → List A → ℕ
total f [] = 0
total f (x ∷ xs) = f x + total f xs

pub contains_here : (n : ℕ) (ns : List ℕ) → Contains (n ∷ ns) n
contains_here n ns = (0, omega arith, refl)

pub contains_later : (m n : ℕ) (ns : List ℕ) → Contains ns n → Contains (m ∷ ns) n
contains_later m n ns h = (suc h.0, (let lt : h.0 < length ns = h.1 in omega arith), h.2)

pub get_set_same : {A : Type 0} (xs : List A) (k : ℕ) (x : A) → k < length xs → slice_get (slice_set xs k x) k ≡ Some x
get_set_same [] k x h = absurd (omega (arith, h))
get_set_same (y ∷ xs) zero x h = refl
get_set_same (y ∷ xs) (suc k) x h = get_set_same xs k x (omega (arith, h))

pub any_map : {A B : Type 0} (p : B → Bool) (f : A → B) (xs : List A) → list_any p (map f xs) ≡ list_any (λ x. p (f x)) xs
any_map p f [] = refl
any_map p f (x ∷ xs) = ap (λ b. p (f x) || b) (any_map p f xs)

-- what is read at a place
pub copied_at : {A : Type 0} (xs : List A) (i : ℕ) (r : Option (Bor A)) → IsItemAt xs i r → option_copied r ≡ slice_get xs i
copied_at xs i None h = sym (slice_get_past xs i h.3)
copied_at xs i (Some x) h = sym (slice_get_read xs (length xs) i x.now refl h.3.0 (h.3.1 x.now))

-- the rest of a list from a place on
pub drop_at : {A : Type 0} (xs : List A) (i : ℕ) (x : A) → i < length xs → x ≡ get_or xs i x → drop i xs ≡ x ∷ drop (i + 1) xs
drop_at xs i x h e = rw add-one (drop-cons xs i x h ∙ ap (λ y. y ∷ drop (suc i) xs) (sym e))

pub reverse_more : {A : Type 0} (xs ys : List A) (x : A) → ys ≡ xs ++ x ∷ [] → reverse ys ≡ x ∷ reverse xs
reverse_more xs ys x e = ap reverse e ∙ reverse-append xs (x ∷ [])

pub same_or_not : (a b : List ℕ) → (a ≡ b) ⊎ (a ≢ b)
same_or_not a b = elim (bytes_eq a b) as (λ r. Decides r (a ≡ b) → (a ≡ b) ⊎ (a ≢ b)) [
  | true ↦ λ d. inl (d.0 refl)
  | false ↦ λ d. inr (λ e. let h : false ≡ true = d.1 e in cc)
] (bytes_eq-Decides a b)

pub same_name : (name : List ℕ) → bytes_eq name name ≡ true
same_name name = elim (bytes_eq name name) as (λ r. Decides r (name ≡ name) → r ≡ true) [
  | true ↦ λ d. refl
  | false ↦ λ d. let h : false ≡ true = d.1 refl in cc
] (bytes_eq-Decides name name)

pub all_left : {A : Type 0} (P : A → Type 0) (xs ys : List A) → AllByRecursion P (xs ++ ys) → AllByRecursion P xs
all_left P [] ys h = tt
all_left P (x ∷ xs) ys h = (h.0, all_left P xs ys h.1)

pub all_right : {A : Type 0} (P : A → Type 0) (xs ys : List A) → AllByRecursion P (xs ++ ys) → AllByRecursion P ys
all_right P [] ys h = h
all_right P (x ∷ xs) ys h = all_right P xs ys h.1

pub pointwise-map : {A B C : Type 0} (R : B → C → Bool) (f : A → B) (xs : List A) (ys : List C) → pointwise R (map f xs) ys ≡ pointwise (λ x y. R (f x) y) xs ys
pointwise-map R f [] [] = refl
pointwise-map R f [] (y ∷ ys) = refl
pointwise-map R f (x ∷ xs) [] = refl
pointwise-map R f (x ∷ xs) (y ∷ ys) = ap (λ b. R (f x) y && b) (pointwise-map R f xs ys)

-- a list with an element at its end is not empty
pub push_some : {A : Type 0} (xs : List A) (x : A) → xs ++ x ∷ [] ≡ [] → ⊥
push_some [] x e = cc
push_some (y ∷ xs) x e = cc

pub all_at : {X : Type 0} (P : X → Type 0) (xs : List X) (i : ℕ) (x : X) → AllByRecursion P xs → slice_get xs i ≡ Some x → P x
all_at P [] i x all at = absurd cc
all_at P (y ∷ xs) zero x all at = let same : y ≡ x = (let e : Some y ≡ Some x = at in cc) in subst P same all.0
all_at P (y ∷ xs) (suc i) x all at = all_at P xs i x all.1 at

pub all_more : {A : Type 0} (P : A → Type 0) (xs : List A) (x : A) → AllByRecursion P xs → P x → AllByRecursion P (xs ++ x ∷ [])
all_more P [] x h here = (here, tt)
all_more P (y ∷ ys) x h here = (h.0, all_more P ys x h.1 here)

or_swap : (a b : Bool) → (a || (b || false)) ≡ (b || a)
or_swap true true = refl
or_swap true false = refl
or_swap false true = refl
or_swap false false = refl

-- a test of a list and of the list reversed
pub any_reverse : {A : Type 0} (p : A → Bool) (xs : List A) → list_any p (reverse xs) ≡ list_any p xs
any_reverse p [] = refl
any_reverse p (x ∷ xs) =
    ap (list_any p) (reverse-append (x ∷ []) xs)
    ∙ list_any-append p (reverse xs) (x ∷ [])
    ∙ ap (λ b. b || (p x || false)) (any_reverse p xs)
    ∙ or_swap (list_any p xs) (p x)

pub count_concat : (ins : List (List ℕ)) → length (concat ins) ≡ sum_by length ins
count_concat [] = refl
count_concat (streams ∷ ins) =
    let all = length-append streams (concat ins) in
    let rest = count_concat ins in
    let sum = sum_by-cons length streams ins in
    omega (arith, all, rest, sum)

pub drop_past : {A : Type 0} (xs : List A) (k : ℕ) → length xs ≤ k → drop k xs ≡ []
drop_past [] zero le = refl
drop_past [] (suc k) le = refl
drop_past (x ∷ xs) zero le = absurd (omega (arith, le))
drop_past (x ∷ xs) (suc k) le = drop_past xs k (omega (arith, le))

pub item_there : {X : Type 0} (xs : List X) (i : ℕ) (x : X) → i < length xs → x ≡ get_or xs i x → slice_get xs i ≡ Some x
item_there [] i x within e = absurd (omega (arith, within))
item_there (y ∷ xs) zero x within e = ap Some (sym e)
item_there (y ∷ xs) (suc i) x within e = item_there xs i x (omega (arith, within)) e

pub map_length : {X Y : Type 0} (f : X → Y) (xs : List X) → length (map f xs) ≡ length xs
map_length f [] = refl
map_length f (x ∷ xs) = ap suc (map_length f xs)

pub other_bytes : (m n : List ℕ) → bytes_eq m n ≡ false → bytes_eq n m ≡ false
other_bytes m n is = by_test (bytes_eq n m) refl
  where
    by_test : (b : Bool) → bytes_eq n m ≡ b → bytes_eq n m ≡ false
    by_test true same = let both : bytes_eq m n ≡ true = (bytes_decides m n).1 (sym ((bytes_decides n m).0 same)) in absurd cc
    by_test false other = other
