-- How far loops over rows have come, whose items are found one by one.
use Rattle.std.specs.Prelude.{◌≡◌, ℕ, ◌+◌, ◌<◌, ◌≤◌, List, [], ◌∷◌, ◌++◌, length, drop, Ok, Err}
use Rattle.std.proofs.Common.{ap, sym, subst, ◌∙◌, append_assoc, append-nil, get_or}
use Rattle.std.proofs.lemmas.List.{drop_all}
use Rattle.language_model.specs.Typing.{Found, after}
use Rattle.language_model.specs.declared.answer.TypeAnswer.{TypeAnswer}
use Rattle.language_model.specs.Finds.{Finds, with_front}
use Rattle.language_model.proofs.FoundAnswers.{after_after, stops}
use Rattle.spl_value.proofs.Lists.{drop_at}

-- a row whose items are gone through by S
pub record IsRow {X Y : Type 0} (S : X → Found Y) (R : List X → Found (List Y)) : Type 0 where
  pub none : R [] ≡ Ok []
  pub more : (x : X) (xs : List X) → R (x ∷ xs) ≡ after (S x) (λ y. after (R xs) (λ ys. Ok (y ∷ ys)))

module _ {X Y : Type 0} (S : X → Found Y) (R : List X → Found (List Y)) (is : IsRow S R) (xs : List X) (i : ℕ) (front : List Y) where
  pub row_past : length xs ≤ i → with_front front (R (drop i xs)) ≡ Ok front
  row_past h = ap (λ r. with_front front (R r)) (drop_all i xs h) ∙ ap (with_front front) is.none ∙ ap Ok (append-nil front)

  module _ (x : X) (h : i < length xs) (e : x ≡ get_or xs i x) where
    rest : R (drop i xs) ≡ after (S x) (λ y. after (R (drop (i + 1) xs)) (λ ys. Ok (y ∷ ys)))
    rest = ap R (drop_at xs i x h e) ∙ is.more x (drop (i + 1) xs)

    pub row_on : (y : Y) (zs : List Y) → S x ≡ Ok y → zs ≡ front ++ y ∷ [] → with_front front (R (drop i xs)) ≡ with_front zs (R (drop (i + 1) xs))
    row_on y zs s z =
        ap (with_front front) (rest ∙ ap (λ o. after o (λ y. after (R (drop (i + 1) xs)) (λ ys. Ok (y ∷ ys)))) s)
        ∙ after_after (R (drop (i + 1) xs)) (λ ys. Ok (y ∷ ys)) (λ ys. Ok (front ++ ys))
        ∙ (λ j. after (R (drop (i + 1) xs)) (λ ys. Ok (sym (append_assoc front (y ∷ []) ys) j)))
        ∙ ap (λ l. with_front l (R (drop (i + 1) xs))) (sym z)

    pub row_stops : (a : TypeAnswer) → Finds (S x) (Err a) → Finds (with_front front (R (drop i xs))) (Err a)
    row_stops a f =
        stops (R (drop i xs)) (λ ys. Ok (front ++ ys)) a
        (subst (λ o. Finds o (Err a)) (sym rest) (stops (S x) (λ y. after (R (drop (i + 1) xs)) (λ ys. Ok (y ∷ ys))) a f))
