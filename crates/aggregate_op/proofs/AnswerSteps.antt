-- The attributes of a content's tuple, each by the assignment that gets it.
use Rattle.std.proofs.Common.{◌≡◌, ◌<◌, ◌≤◌, ◌+◌, ◌==◌, ◌⊎◌, inl, inr, ℕ, zero, suc, false, cond, List, [], ◌∷◌, length, drop, get_or, slice_get, Option, Some, None, refl, sym, ap, ◌∙◌, arith}
use Rattle.std.proofs.lemmas.Bool.{eq-eqb}
use Rattle.spl_value.specs.declared.value.Value.{Value}
use Rattle.spl_value.proofs.Lists.{drop_at, drop_past}
use Rattle.language_model.specs.declared.checked.CollectedAttribute.{CollectedAttribute}
use Rattle.language_model.specs.Evaluation.{field_at}
use Rattle.aggregate_op.specs.steps.Summing.{fields_of}

-- from a place on there is nothing, or a value and what follows it
abbrev Parts : List Value → ℕ → Type 0
Parts vs k = ((drop k vs ≡ []) × (drop (suc k) vs ≡ []) × (slice_get vs k ≡ None)) ⊎ ((v : Value) × (drop k vs ≡ v ∷ drop (suc k) vs) × (slice_get vs k ≡ Some v))

parts : (vs : List Value) (k : ℕ) → Parts vs k
parts [] k = inl (drop_past [] k (omega arith), drop_past [] (suc k) (omega arith), refl)
parts (v ∷ vs) zero = inr (v, refl, refl)
parts (v ∷ vs) (suc k) = parts vs k

module _ (a : ℕ) (output : List CollectedAttribute) (answers : List Value) (k : ℕ) where
  -- no assignment is left
  pub none_gets : length output ≤ k → field_at a (fields_of (drop k output) (drop k answers)) ≡ None
  none_gets past = ap (λ xs. field_at a (fields_of xs (drop k answers))) (drop_past output k past)

  module _ (x : CollectedAttribute) (within : k < length output) (is : x ≡ get_or output k x) where
    -- the first assignment that is left gets the attribute
    pub this_gets : (o : Option Value) → x.attribute ≡ a → slice_get answers k ≡ o → field_at a (fields_of (drop k output) (drop k answers)) ≡ o
    this_gets o same there = ap (λ xs. field_at a (fields_of xs (drop k answers))) (drop_at output k x within is) ∙ by (parts answers k) ∙ there
      where
        by : Parts answers k → field_at a (fields_of (x ∷ drop (k + 1) output) (drop k answers)) ≡ slice_get answers k
        by (inl e) = ap (λ vs. field_at a (fields_of (x ∷ drop (k + 1) output) vs)) e.0 ∙ sym e.2
        by (inr e) =
            ap (λ vs. field_at a (fields_of (x ∷ drop (k + 1) output) vs)) e.1
            ∙ ap (λ b. cond b (Some e.0) (field_at a (fields_of (drop (k + 1) output) (drop (suc k) answers)))) (eq-eqb x.attribute a same) ∙ sym e.2

    -- another one does
    pub others_get : (x.attribute == a) ≡ false → field_at a (fields_of (drop (k + 1) output) (drop (k + 1) answers)) ≡ field_at a (fields_of (drop k output) (drop k answers))
    others_get other =
        let after : k + 1 ≡ suc k = omega arith in
        ap (λ n. field_at a (fields_of (drop (k + 1) output) (drop n answers))) after
        ∙ by (parts answers k) ∙ ap (λ xs. field_at a (fields_of xs (drop k answers))) (sym (drop_at output k x within is))
      where
        none : (xs : List CollectedAttribute) → fields_of xs [] ≡ []
        none [] = refl
        none (y ∷ xs) = refl

        by : Parts answers k → field_at a (fields_of (drop (k + 1) output) (drop (suc k) answers)) ≡ field_at a (fields_of (x ∷ drop (k + 1) output) (drop k answers))
        by (inl e) =
            ap (λ vs. field_at a (fields_of (drop (k + 1) output) vs)) e.1 ∙ ap (field_at a) (none (drop (k + 1) output))
            ∙ sym (ap (λ vs. field_at a (fields_of (x ∷ drop (k + 1) output) vs)) e.0)
        by (inr e) =
            sym (ap (λ b. cond b (Some e.0) (field_at a (fields_of (drop (k + 1) output) (drop (suc k) answers)))) other)
            ∙ sym (ap (λ vs. field_at a (fields_of (x ∷ drop (k + 1) output) vs)) e.1)
