-- The next item of a row, after those before it.
use Rattle.std.specs.Prelude.{◌≡◌, Bool, true, false, not, ◌||◌, cond, if◌then◌else◌, List, [], ◌∷◌, ◌++◌}
use Rattle.std.proofs.Common.{refl, ap}
use Rattle.language_model.specs.Declarations.{repeated_after}

pub not_taken : (taken added : Bool) → added ≡ not taken → added ≡ true → taken ≡ false
not_taken true added e t = cc
not_taken false added e t = refl

pub is_taken : (taken added : Bool) → added ≡ not taken → added ≡ false → taken ≡ true
is_taken true added e t = refl
is_taken false added e t = cc

module _ {A : Type 0} (taken : List A → A → Bool) (before : List A) (x : A) (xs : List A) where
  pub passed : taken before x ≡ false → repeated_after taken before (x ∷ xs) ≡ repeated_after taken (x ∷ before) xs
  passed e = ap (λ b. (if b then x ∷ [] else []) ++ repeated_after taken (x ∷ before) xs) e

  pub stopped : taken before x ≡ true → repeated_after taken before (x ∷ xs) ≡ x ∷ repeated_after taken (x ∷ before) xs
  stopped e = ap (λ b. (if b then x ∷ [] else []) ++ repeated_after taken (x ∷ before) xs) e

  module _ (added : Bool) (e : added ≡ not (taken before x)) where
    pub passed_new : added ≡ true → repeated_after taken before (x ∷ xs) ≡ repeated_after taken (x ∷ before) xs
    passed_new t = passed (not_taken (taken before x) added e t)

    pub passed_old : added ≡ false → repeated_after taken before (x ∷ xs) ≡ x ∷ repeated_after taken (x ∷ before) xs
    passed_old t = stopped (is_taken (taken before x) added e t)
