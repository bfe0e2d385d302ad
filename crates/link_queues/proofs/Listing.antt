-- The links of each element, a link at a time.
use Rattle.std.proofs.Common.{◌≡◌, ◌≢◌, ◌+◌, ◌<◌, ◌⊎◌, inl, inr, ℕ, zero, suc, List, [], ◌∷◌, ◌++◌, length, replicate, take, set, get_or, slice_get, Some, None, refl, sym, ap, subst, ◌∙◌, add-one, arith}
use Rattle.std.proofs.Math.Seq.{take-suc}
use Rattle.std.proofs.lemmas.List.{length-take-le}
use Rattle.std.proofs.lemmas.Bool.{cases_eq}
use Rattle.std.proofs.lemmas.Option.{slice_get_within}
use Rattle.stream_model.specs.declared.shape.ShapeLink.{ShapeLink}
use Rattle.link_queues.specs.Ends.{Lists}

-- ---- places of lists

pub get_set : {A : Type 0} (xs : List A) (i : ℕ) (x : A) → i < length xs → slice_get (set xs i x) i ≡ Some x
get_set [] i x h = absurd (omega arith)
get_set (y ∷ xs) zero x h = refl
get_set (y ∷ xs) (suc i) x h = get_set xs i x (omega arith)

pub get_set_other : {A : Type 0} (xs : List A) (i j : ℕ) (x : A) → i ≢ j → slice_get (set xs i x) j ≡ slice_get xs j
get_set_other [] i j x h = refl
get_set_other (y ∷ xs) zero zero x h = absurd (h refl)
get_set_other (y ∷ xs) zero (suc j) x h = refl
get_set_other (y ∷ xs) (suc i) zero x h = refl
get_set_other (y ∷ xs) (suc i) (suc j) x h = get_set_other xs i j x (λ e. h (ap suc e))

pub get_front : {A : Type 0} (xs ys : List A) (i : ℕ) (x : A) → slice_get xs i ≡ Some x → slice_get (xs ++ ys) i ≡ Some x
get_front [] ys i x e = cc
get_front (y ∷ xs) ys zero x e = e
get_front (y ∷ xs) ys (suc i) x e = get_front xs ys i x e

pub get_last : {A : Type 0} (xs : List A) (x : A) → slice_get (xs ++ x ∷ []) (length xs) ≡ Some x
get_last [] x = refl
get_last (y ∷ xs) x = get_last xs x

-- a place of a list with one more is one of the list, or the last
pub get_more : {A : Type 0} (xs : List A) (y x : A) (i : ℕ) → slice_get (xs ++ y ∷ []) i ≡ Some x → (slice_get xs i ≡ Some x) ⊎ ((i ≡ length xs) × (y ≡ x))
get_more [] y x zero e = let same : y ≡ x = cc in inr (refl, same)
get_more [] y x (suc i) e = cc
get_more (z ∷ xs) y x zero e = inl e
get_more (z ∷ xs) y x (suc i) e = later (get_more xs y x i e)
  where
    later : ((slice_get xs i ≡ Some x) ⊎ ((i ≡ length xs) × (y ≡ x))) → (slice_get (z ∷ xs) (suc i) ≡ Some x) ⊎ ((suc i ≡ length (z ∷ xs)) × (y ≡ x))
    later (inl h) = inl h
    later (inr h) = inr (ap suc h.0, h.1)

pub get_there : {A : Type 0} (xs : List A) (i : ℕ) → i < length xs → (x : A) × (slice_get xs i ≡ Some x)
get_there [] i h = absurd (omega arith)
get_there (x ∷ xs) zero h = (x, refl)
get_there (x ∷ xs) (suc i) h = get_there xs i (omega arith)

-- ---- rows

no_row : (n e j l : ℕ) (row : List ℕ) → slice_get (replicate n []) e ≡ Some row → slice_get row j ≡ Some l → ⊥
no_row zero e j l row h g = cc
no_row (suc n) zero j l row h g = let same : [] ≡ row = cc in let clash : None ≡ Some l = ap (λ r. slice_get r j) same ∙ g in cc
no_row (suc n) (suc e) j l row h g = no_row n e j l row h g

module _ (end_of : ShapeLink → ℕ) where
  -- no link
  pub lists_none : (n : ℕ) → Lists end_of [] (replicate n [])
  lists_none n = record {
    listed = λ l x e. absurd (let clash : None ≡ Some x = e in cc);
    alone = λ e j l row h g. absurd (no_row n e j l row h g);
  }

  -- one more link, whose number goes behind the others of its element
  pub lists_more : (links : List ShapeLink) (rows : List (List ℕ)) (x : ShapeLink) (row : List ℕ) → Lists end_of links rows
      → slice_get rows (end_of x) ≡ Some row → Lists end_of (links ++ x ∷ []) (set rows (end_of x) (row ++ length links ∷ []))
  lists_more links rows x row k at = record { listed = λ l y e. listed l y (get_more links x y l e); alone = λ e j l r h g. alone e j l r h g (cases_eq (end_of x) e) }
    where
      within : end_of x < length rows
      within = slice_get_within rows (end_of x) row at

      listed : (l : ℕ) (y : ShapeLink) → ((slice_get links l ≡ Some y) ⊎ ((l ≡ length links) × (x ≡ y)))
          → (r : List ℕ) × (j : ℕ) × (slice_get (set rows (end_of x) (row ++ length links ∷ [])) (end_of y) ≡ Some r) × (slice_get r j ≡ Some l)
      listed l y (inl e) = old (k.listed l y e) (cases_eq (end_of x) (end_of y))
        where
          old : (found : (r : List ℕ) × (j : ℕ) × (slice_get rows (end_of y) ≡ Some r) × (slice_get r j ≡ Some l)) → ((end_of x ≡ end_of y) ⊎ (end_of x ≢ end_of y))
              → (r : List ℕ) × (j : ℕ) × (slice_get (set rows (end_of x) (row ++ length links ∷ [])) (end_of y) ≡ Some r) × (slice_get r j ≡ Some l)
          old found (inl same) =
              let rows-are : Some row ≡ Some found.0 = sym at ∙ ap (slice_get rows) same ∙ found.2 in
              let row-is : row ≡ found.0 = cc in (
                row ++ length links ∷ [],
                found.1,
                ap (slice_get (set rows (end_of x) (row ++ length links ∷ []))) (sym same) ∙ get_set rows (end_of x) (row ++ length links ∷ []) within,
                get_front row (length links ∷ []) found.1 l (ap (λ z. slice_get z found.1) row-is ∙ found.3),
              )
          old found (inr other) = (found.0, found.1, get_set_other rows (end_of x) (end_of y) (row ++ length links ∷ []) other ∙ found.2, found.3)
      listed l y (inr h) = (
        row ++ length links ∷ [],
        length row,
        ap (λ z. slice_get (set rows (end_of x) (row ++ length links ∷ [])) (end_of z)) (sym h.1) ∙ get_set rows (end_of x) (row ++ length links ∷ []) within,
        get_last row (length links) ∙ ap Some (sym h.0),
      )

      alone : (e j l : ℕ) (r : List ℕ) → slice_get (set rows (end_of x) (row ++ length links ∷ [])) e ≡ Some r → slice_get r j ≡ Some l → ((end_of x ≡ e) ⊎ (end_of x ≢ e))
          → (y : ShapeLink) × (slice_get (links ++ x ∷ []) l ≡ Some y) × (end_of y ≡ e)
      alone e j l r h g (inr other) =
          let there = k.alone e j l r (sym (get_set_other rows (end_of x) e (row ++ length links ∷ []) other) ∙ h) g in
          (there.0, get_front links (x ∷ []) l there.0 there.1, there.2)
      alone e j l r h g (inl same) =
          let rows-are : Some (row ++ length links ∷ []) ≡ Some r = sym (get_set rows (end_of x) (row ++ length links ∷ []) within) ∙ ap (slice_get (set rows (end_of x) (row ++ length links ∷ []))) same ∙ h in
          let row-is : row ++ length links ∷ [] ≡ r = cc in
          here (get_more row (length links) l j (ap (λ z. slice_get z j) row-is ∙ g))
        where
          here : ((slice_get row j ≡ Some l) ⊎ ((j ≡ length row) × (length links ≡ l))) → (y : ShapeLink) × (slice_get (links ++ x ∷ []) l ≡ Some y) × (end_of y ≡ e)
          here (inl there) = let old = k.alone (end_of x) j l row at there in (old.0, get_front links (x ∷ []) l old.0 old.1, old.2 ∙ same)
          here (inr h) = (x, ap (slice_get (links ++ x ∷ [])) (sym h.1) ∙ get_last links x, same)

  -- the next of some links
  pub lists_next : (links : List ShapeLink) (i n : ℕ) (d : ShapeLink) (rows : List (List ℕ)) (row row2 : List ℕ) → i < length links → n ≡ i
      → Lists end_of (take i links) rows → slice_get rows (end_of (get_or links i d)) ≡ Some row → row2 ≡ row ++ n ∷ []
      → Lists end_of (take (i + 1) links) (set rows (end_of (get_or links i d)) row2)
  lists_next links i n d rows row row2 h e k at new =
      let more = lists_more (take i links) rows (get_or links i d) row k at in
      let front = ap (λ j. take j links) (add-one i) ∙ take-suc links i d h in
      let number : length (take i links) ≡ n = length-take-le i links (omega arith) ∙ sym e in
      subst (λ z. Lists end_of (take (i + 1) links) (set rows (end_of (get_or links i d)) z)) (sym (new ∙ ap (λ j. row ++ j ∷ []) (sym number)))
      (subst (λ z. Lists end_of z (set rows (end_of (get_or links i d)) (row ++ length (take i links) ∷ []))) (sym front) more)
