-- The last of a list that has a name, item by item.
use Rattle.std.specs.Prelude.{◌≡◌, ℕ, suc, ◌+◌, ◌<◌, Bool, true, false, List, [], ◌∷◌, ◌++◌, length, take, Option, Some, None, if◌then◌else◌}
use Rattle.std.proofs.Common.{refl, ap, sym, ◌∙◌, arith, get_or}
use Rattle.std.proofs.lemmas.List.{length-take-le}
use Rattle.language_model.specs.Scopes.{At, at_place, last_from}
use Rattle.language_model.proofs.parts.Scopes.{or_before}
use Rattle.spl_value.proofs.Lists.{take_at as taken_on}

or_before_or : {A : Type 0} (x y z : Option (At A)) → or_before (or_before x y) z ≡ or_before x (or_before y z)
or_before_or None y z = refl
or_before_or (Some x) y z = refl

or_before_none : {A : Type 0} (x : Option (At A)) → or_before x None ≡ x
or_before_none None = refl
or_before_none (Some x) = refl

module _ {A : Type 0} (p : A → Bool) where
  abbrev here : ℕ → A → Option (At A)
  here i x = if p x then Some (at_place i x) else None

  last_behind : (n : ℕ) (ys : List A) (x : A) → last_from p n (ys ++ x ∷ []) ≡ or_before (here (n + length ys) x) (last_from p n ys)
  last_behind n [] x = ap (λ m. here m x) (omega arith) ∙ sym (or_before_none (here (n + 0) x))
  last_behind n (y ∷ ys) x =
      ap (λ o. or_before o (here n y)) (last_behind (suc n) ys x)
      ∙ or_before_or (here (suc n + length ys) x) (last_from p (suc n) ys) (here n y)
      ∙ ap (λ m. or_before (here m x) (or_before (last_from p (suc n) ys) (here n y))) (omega arith)

  last_taken : (xs : List A) (i j : ℕ) (x : A) → j ≡ i + 1 → i < length xs → x ≡ get_or xs i x
      → last_from p 0 (take j xs) ≡ or_before (here i x) (last_from p 0 (take i xs))
  last_taken xs i j x q h e =
      ap (λ n. last_from p 0 (take n xs)) q
      ∙ ap (last_from p 0) (taken_on xs i x h e)
      ∙ last_behind 0 (take i xs) x
      ∙ ap (λ n. or_before (here n x) (last_from p 0 (take i xs))) (let l = length-take-le i xs (omega arith) in omega arith)

  pub last_here : (xs : List A) (i j : ℕ) (x : A) → j ≡ i + 1 → i < length xs → x ≡ get_or xs i x → p x ≡ true
      → last_from p 0 (take j xs) ≡ Some (at_place i x)
  last_here xs i j x q h e t = last_taken xs i j x q h e ∙ ap (λ b. or_before (if b then Some (at_place i x) else None) (last_from p 0 (take i xs))) t

  pub last_before : (xs : List A) (i j : ℕ) (x : A) → j ≡ i + 1 → i < length xs → x ≡ get_or xs i x → p x ≡ false
      → last_from p 0 (take j xs) ≡ last_from p 0 (take i xs)
  last_before xs i j x q h e t = last_taken xs i j x q h e ∙ ap (λ b. or_before (if b then Some (at_place i x) else None) (last_from p 0 (take i xs))) t
