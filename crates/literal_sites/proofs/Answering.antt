-- How the answers of calls are composed, as in the definitions.
use Rattle.std.specs.Prelude.{◌≡◌, ℕ, ◌+◌, ◌<◌, ◌≤◌, List, [], ◌∷◌, ◌++◌, length, drop, Some, Result, Ok, Err, IsErrAnd}
use Rattle.std.proofs.Common.{ap, sym, subst, ◌∙◌, append_assoc, append-nil, get_or}
use Rattle.std.proofs.lemmas.List.{drop_all}
use Rattle.std.proofs.lemmas.Result.{err_from_is_err_and}
use Rattle.language_model.specs.declared.scope.CheckError.{CheckError}
use Rattle.language_model.specs.declared.scope.CheckRefusal.{CheckRefusal}
use Rattle.language_model.specs.Typing.{Found, after, refused}
use Rattle.language_model.specs.declared.answer.TypeAnswer.{TypeAnswer}
use Rattle.language_model.specs.declared.answer.TypeAnswer.TheVariants.{Refused, Memory}
use Rattle.language_model.specs.Finds.{Finds, with_front, IsRefused}
use Rattle.language_model.proofs.FoundAnswers.{after_after, finds_by, stops}
use Rattle.spl_value.proofs.Lists.{drop_at}

-- what is said of an error that `?` returns
pub fails_by : {B : Type 0} (o p : Found B) (r : Result B TypeAnswer) (e : TypeAnswer) → IsErrAnd r (λ y. y ≡ e) → o ≡ p → Finds p (Err e) → Finds o r
fails_by o p r e h same g = let q = finds_by o p (Err e) same g in let w = err_from_is_err_and r h in subst (Finds o) (sym (w.1 ∙ ap Err w.2)) q

pub refuses : (A : Type 0) (error : CheckError) (at : ℕ) (name : List ℕ) (a : TypeAnswer) → IsRefused error at name a → Finds (refused {A = A} error at (Some name)) (Err a)
refuses A error at name (Refused r) h = ap Err (sym h)
refuses A error at name Memory h = tt

-- an answer that is a refusal
pub refused_by : (A : Type 0) (r : CheckRefusal) (o : Found A) (a : TypeAnswer) → a ≡ Refused r → o ≡ Err r → Finds o (Err a)
refused_by A r o a e h = subst (λ a. Finds o (Err a)) (sym e) h

-- rows of what is found in turn, each item after the keys of those before it, the last one's first
pub record IsRow {X Y K : Type 0} (S : List K → X → Found Y) (R : List K → List X → Found (List Y)) (key : Y → K) : Type 0 where
  pub none : (before : List K) → R before [] ≡ Ok []
  pub more : (before : List K) (x : X) (xs : List X) → R before (x ∷ xs) ≡ after (S before x) (λ y. after (R (key y ∷ before) xs) (λ ys. Ok (y ∷ ys)))

module _ {X Y K : Type 0} (S : List K → X → Found Y) (R : List K → List X → Found (List Y)) (key : Y → K) (is : IsRow S R key)
    (xs : List X) (i : ℕ) (front : List Y) (before : List K) where
  pub row_past : length xs ≤ i → with_front front (R before (drop i xs)) ≡ Ok front
  row_past h = ap (λ r. with_front front (R before r)) (drop_all i xs h) ∙ ap (with_front front) (is.none before) ∙ ap Ok (append-nil front)

  module _ (x : X) (h : i < length xs) (e : x ≡ get_or xs i x) where
    rest : R before (drop i xs) ≡ after (S before x) (λ y. after (R (key y ∷ before) (drop (i + 1) xs)) (λ ys. Ok (y ∷ ys)))
    rest = ap (R before) (drop_at xs i x h e) ∙ is.more before x (drop (i + 1) xs)

    pub row_on : (y : Y) (zs : List Y) → S before x ≡ Ok y → zs ≡ front ++ y ∷ []
        → with_front front (R before (drop i xs)) ≡ with_front zs (R (key y ∷ before) (drop (i + 1) xs))
    row_on y zs s z =
        ap (with_front front) (rest ∙ ap (λ o. after o (λ y. after (R (key y ∷ before) (drop (i + 1) xs)) (λ ys. Ok (y ∷ ys)))) s)
        ∙ after_after (R (key y ∷ before) (drop (i + 1) xs)) (λ ys. Ok (y ∷ ys)) (λ ys. Ok (front ++ ys))
        ∙ (λ j. after (R (key y ∷ before) (drop (i + 1) xs)) (λ ys. Ok (sym (append_assoc front (y ∷ []) ys) j)))
        ∙ ap (λ l. with_front l (R (key y ∷ before) (drop (i + 1) xs))) (sym z)

    pub row_stops : (a : TypeAnswer) → Finds (S before x) (Err a) → Finds (with_front front (R before (drop i xs))) (Err a)
    row_stops a q = stops (R before (drop i xs)) _ a (finds_by _ _ (Err a) rest (stops (S before x) _ a q))
