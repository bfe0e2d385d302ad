-- The first place of a name in a list, and in the list with one more name.
use Rattle.std.specs.Prelude.{◌≡◌, ℕ, suc, ◌+◌, Bool, true, false, ◌||◌, List, [], ◌∷◌, ◌++◌, if◌then◌else◌, length, Option, Some, None, is_some}
use Rattle.std.specs.List.{list_any}
use Rattle.std.specs.Option.{option_map}
use Rattle.std.specs.Str.{bytes_eq}
use Rattle.std.proofs.Common.{refl, ap, sym, ◌∙◌, add-zero, arith}
use Rattle.std.proofs.lemmas.Slice.Eq.{bytes_eq-Decides}
use Rattle.language_model.specs.Expansion.{place_of}
use Rattle.language_model.specs.Names.{is_named}
use Rattle.language_model.specs.Scopes.{At, at_place, first_from}

abbrev place : {A : Type 0} → Option (At A) → Option ℕ
place o = option_map (λ n. n.place) o

-- ---- whether there is one

any_from : {A : Type 0} (p : A → Bool) (i : ℕ) (xs : List A) → is_some (place (first_from p i xs)) ≡ list_any p xs
any_from p i [] = refl
any_from p i (x ∷ xs) =
    elim (p x) as (λ b. is_some (place (if b then Some (at_place i x) else first_from p (suc i) xs)) ≡ (b || list_any p xs)) [
      | true ↦ refl
      | false ↦ any_from p (suc i) xs
    ]

pub among_by_place : (name : List ℕ) (names : List (List ℕ)) → is_some (place_of name names) ≡ is_named names name
among_by_place name names = any_from (λ n. bytes_eq n name) 0 names

-- ---- one more name

abbrev or_last : Option ℕ → Option ℕ → Option ℕ
or_last None last = last
or_last (Some k) last = Some k

abbrev last_place : Bool → ℕ → Option ℕ
last_place b k = if b then Some k else None

grown_from : {A : Type 0} (p : A → Bool) (i : ℕ) (xs : List A) (x : A)
    → place (first_from p i (xs ++ x ∷ [])) ≡ or_last (place (first_from p i xs)) (last_place (p x) (i + length xs))
grown_from p i [] x =
    elim (p x) as (λ b. place (if b then Some (at_place i x) else None) ≡ last_place b (i + 0)) [
      | true ↦ ap Some (sym (add-zero i))
      | false ↦ refl
    ]
grown_from p i (y ∷ ys) x =
    elim (p y) as (λ b. place (if b then Some (at_place i y) else first_from p (suc i) (ys ++ x ∷ []))
    ≡ or_last (place (if b then Some (at_place i y) else first_from p (suc i) ys)) (last_place (p x) (i + suc (length ys)))) [
      | true ↦ refl
      | false ↦
          let shifted : suc i + length ys ≡ i + suc (length ys) = omega arith in
          grown_from p (suc i) ys x ∙ ap (λ k. or_last (place (first_from p (suc i) ys)) (last_place (p x) k)) shifted
    ]

grown : (q name : List ℕ) (names : List (List ℕ))
    → place_of q (names ++ name ∷ []) ≡ or_last (place_of q names) (last_place (bytes_eq name q) (length names))
grown q name names =
    let from_none : 0 + length names ≡ length names = omega arith in
    grown_from (λ n. bytes_eq n q) 0 names name ∙ ap (λ k. or_last (place_of q names) (last_place (bytes_eq name q) k)) from_none

-- a name that is there already stands at its first place
pub place_among : (q name : List ℕ) (names : List (List ℕ)) → is_named names name ≡ true → place_of q names ≡ place_of q (names ++ name ∷ [])
place_among q name names among = stays (place_of q names) (bytes_eq name q) refl refl ∙ sym (grown q name names)
  where
    stays : (o : Option ℕ) (b : Bool) → place_of q names ≡ o → bytes_eq name q ≡ b → o ≡ or_last o (last_place b (length names))
    stays (Some k) b e d = refl
    stays None false e d = refl
    stays None true e d =
        let same : name ≡ q = (bytes_eq-Decides name q).0 d in
        let none = sym among ∙ sym (among_by_place name names) ∙ ap (λ n. is_some (place_of n names)) same ∙ ap is_some e in
        cc

-- a new one stands after them
pub place_new : (q name : List ℕ) (names : List (List ℕ)) → is_named names name ≡ false
    → (if bytes_eq name q then Some (length names) else place_of q names) ≡ place_of q (names ++ name ∷ [])
place_new q name names new = comes (place_of q names) (bytes_eq name q) refl refl ∙ sym (grown q name names)
  where
    comes : (o : Option ℕ) (b : Bool) → place_of q names ≡ o → bytes_eq name q ≡ b
        → (if b then Some (length names) else o) ≡ or_last o (last_place b (length names))
    comes None true e d = refl
    comes None false e d = refl
    comes (Some k) false e d = refl
    comes (Some k) true e d =
        let same : name ≡ q = (bytes_eq-Decides name q).0 d in
        let some = sym new ∙ sym (among_by_place name names) ∙ ap (λ n. is_some (place_of n names)) same ∙ ap is_some e in
        cc
