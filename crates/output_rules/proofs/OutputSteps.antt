-- How the answers of calls are composed, as in the definition of outputs.
use Rattle.std.specs.Prelude.{◌≡◌, ◌+◌, List, [], ◌∷◌, ◌++◌, Ok, Err}
use Rattle.std.proofs.Common.{refl, ap, sym, ◌∙◌, append_assoc}
use Rattle.language_model.specs.Typing.{Found, after}
use Rattle.language_model.specs.Finds.{with_front}

-- one more, or some more, came first
pub front_on : {A : Type 0} (xs zs : List A) (x : A) (o : Found (List A)) → zs ≡ xs ++ x ∷ [] → with_front xs (after o (λ rest. Ok (x ∷ rest))) ≡ with_front zs o
front_on xs zs x (Err r) e = refl
front_on xs zs x (Ok ys) e = ap Ok (sym (append_assoc xs (x ∷ []) ys) ∙ ap (λ l. l ++ ys) (sym e))

pub front_more : {A : Type 0} (xs ys : List A) (o : Found (List A)) → with_front xs (after o (λ rest. Ok (ys ++ rest))) ≡ with_front (xs ++ ys) o
front_more xs ys (Err r) = refl
front_more xs ys (Ok zs) = ap Ok (sym (append_assoc xs ys zs))

pub front_none : {A : Type 0} (o : Found (List A)) → o ≡ with_front [] o
front_none (Ok xs) = refl
front_none (Err r) = refl
