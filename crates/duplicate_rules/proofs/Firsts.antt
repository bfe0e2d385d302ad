-- The first of several rows.
use Rattle.std.specs.Prelude.{◌≡◌, List, [], ◌∷◌, ◌++◌, Option, Some, None}
use Rattle.std.specs.Option.{option_to_list, option_or}
use Rattle.std.proofs.Common.{refl, ap, ◌∙◌}
use Rattle.language_model.specs.Declarations.{first_of}

pub first_of-append : {A : Type 0} (xs ys : List A) → first_of (xs ++ ys) ≡ option_or (first_of xs) (first_of ys)
first_of-append [] ys = refl
first_of-append (x ∷ xs) ys = refl

pub first_of_option : {A : Type 0} (o : Option A) → first_of (option_to_list o) ≡ o
first_of_option None = refl
first_of_option (Some x) = refl

module _ {A : Type 0} (xs ys zs : List A) where
  first_of_three : first_of (xs ++ ys ++ zs) ≡ option_or (option_or (first_of xs) (first_of ys)) (first_of zs)
  first_of_three = first_of-append (xs ++ ys) zs ∙ ap (λ o. option_or o (first_of zs)) (first_of-append xs ys)

  pub second_of_three : (x : A) → first_of xs ≡ None → first_of ys ≡ Some x → first_of (xs ++ ys ++ zs) ≡ Some x
  second_of_three x e f = first_of_three ∙ (λ i. option_or (option_or (e i) (f i)) (first_of zs))

  pub third_of_three : first_of xs ≡ None → first_of ys ≡ None → first_of (xs ++ ys ++ zs) ≡ first_of zs
  third_of_three e f = first_of_three ∙ (λ i. option_or (option_or (e i) (f i)) (first_of zs))

pub ruleset first_laws = (first_of-append, first_of_option)
