-- Marks of the attributes that are assigned.
use Rattle.std.specs.Prelude.{◌≡◌, ℕ, ◌==◌, ◌<◌, Bool, true, false, ◌||◌, List, [], ◌∷◌, length}
use Rattle.std.specs.List.{list_any}
use Rattle.std.proofs.Common.{refl, ap, sym, ◌∙◌, get_or, set}
use Rattle.std.proofs.lemmas.List.{get_or-set_other, get_or-set_same}
use Rattle.std.proofs.lemmas.Option.{unwrap_or-slice_get}
use Rattle.std.proofs.lemmas.Bool.{eqb-true, eqb-false}
use Rattle.language_model.specs.OutputTyping.{Assigned}
use Rattle.language_model.proofs.parts.OutputTyping.{is_assigned}
use Rattle.language_model.specs.parts.OutputTyping.{places}
use Rattle.output_rules.specs.steps.Marking.{Tells}
use Rattle.spl_value.proofs.Bools.{or_false as or_none}

or_over : (a b c : Bool) → (a || (b || c)) ≡ ((b || a) || c)
or_over true true c = refl
or_over true false c = refl
or_over false true c = refl
or_over false false c = refl

all_places : {A : Type 0} (before : List ℕ) (xs : Assigned A) (k : ℕ)
    → list_any (λ n. n == k) (places before xs) ≡ (is_assigned k xs || list_any (λ n. n == k) before)
all_places before [] k = refl
all_places before (x ∷ xs) k =
    all_places (x.0 ∷ before) xs k ∙ or_over (is_assigned k xs) (x.0 == k) (list_any (λ n. n == k) before)

-- a mark tells whether an attribute is assigned
pub tells_assigned : {A : Type 0} (xs : Assigned A) (marks : List Bool) → Tells (places [] xs) marks → (k : ℕ) → get_or marks k false ≡ is_assigned k xs
tells_assigned xs marks t k =
    sym (unwrap_or-slice_get marks k false) ∙ t.told k ∙ all_places [] xs k ∙ or_none (is_assigned k xs)

one_more : (marks : List Bool) (p k : ℕ) (b : Bool) → p < length marks → (p == k) ≡ b → get_or (set marks p true) k false ≡ (b || get_or marks k false)
one_more marks p k true h e = ap (λ n. get_or (set marks p true) n false) (sym (eqb-true p k e)) ∙ get_or-set_same marks p true false h
one_more marks p k false h e = get_or-set_other marks p k true false (λ same. eqb-false p k e (sym same))

-- one more is
pub tells_more : (before : List ℕ) (marks marked : List Bool) (p : ℕ) → Tells before marks → p < length marks → marked ≡ set marks p true → Tells (p ∷ before) marked
tells_more before marks marked p t h e = record {
  told = λ k.
      unwrap_or-slice_get marked k false
      ∙ ap (λ ms. get_or ms k false) e
      ∙ one_more marks p k (p == k) h refl
      ∙ ap (λ b. (p == k) || b) (sym (unwrap_or-slice_get marks k false) ∙ t.told k);
}
