-- What a change within a value makes of it.
use Rattle.std.specs.Prelude.{◌≡◌, ◌==◌, ℕ, true, false, List, [], ◌∷◌, length, Option, None, Some, Result, Ok, Err, slice_get, slice_set}
use Rattle.std.proofs.Common.{refl, sym, ap, subst, ◌∙◌}
use Rattle.std.proofs.lemmas.Bool.{eqb-true}
use Rattle.std.proofs.lemmas.List.{nil_from_length}
use Rattle.spl_value.specs.declared.item.FaultKind.{FaultKind}
use Rattle.spl_value.specs.declared.item.FaultKind.TheVariants as F
use Rattle.spl_value.specs.declared.value.Value.{Value}
use Rattle.spl_value.specs.declared.value.Value.TheVariants as V
use Rattle.spl_value.specs.declared.value.Value.TheOpen as O
use Rattle.spl_value.specs.declared.value.Value.TheViews.{out-Value}
use Rattle.spl_value.specs.Calls.{CallOutcome, Gives, Faults}
use Rattle.spl_value.specs.Pairs.{pairs_get, pairs_put}
use Rattle.spl_tree.specs.declared.code.Selector.{Selector}
use Rattle.spl_tree.specs.declared.code.Selector.TheVariants as K
use Rattle.language_model.specs.Changes.{passed_on, changed, level_changed, found_index}
use Rattle.language_model.specs.Operators.{level_element}
use Rattle.language_model.specs.parts.Operators.{found}
use Rattle.language_model.proofs.parts.Operators.{given}
use Rattle.value_operations.specs.declared.stop.Stop.{Stop}
use Rattle.value_operations.specs.declared.stop.Stop.TheVariants as S
use Rattle.value_operations.specs.steps.Places.{IsPlaceIn}
use Rattle.value_operations.specs.Changing.{Changes}

-- the result of the change of a part is passed on to the whole
passes_on : (r : Result (Unit {0}) Stop) (whole part : CallOutcome) (put : Value → Value) (new : Value) → whole ≡ passed_on part (λ new. Gives (put new))
    → Changes part r new → Changes whole r (put new)
passes_on (Ok u) whole part put new e h = e ∙ ap (λ o. passed_on o (λ new. Gives (put new))) h
passes_on (Err (S.Fault kind)) whole part put new e h = e ∙ ap (λ o. passed_on o (λ new. Gives (put new))) h
passes_on (Err S.Memory) whole part put new e h = tt

-- a change that can't be made
pub not_changed : (o : CallOutcome) (r : Result (Unit {0}) Stop) (new : Value) (kind : FaultKind) → r ≡ Err (S.Fault kind) → o ≡ Faults kind → Changes o r new
not_changed o r new kind e h = subst (λ r. Changes o r new) (sym e) h

module _ (change : Option Value → CallOutcome) (steps rest : List (Selector Value)) where
  level : (step : Selector Value) → steps ≡ step ∷ rest → (v : Value) → changed steps change (Some v) ≡ level_changed step (changed rest change) (out-Value v)
  level step is v = ap (λ l. changed l change (Some v)) is

  -- ---- tuples

  pub member_changes : (i : ℕ) (vs : List Value) (old new : Value) → steps ≡ K.Member i ∷ rest → slice_get vs i ≡ Some old
      → (r : Result (Unit {0}) Stop) → Changes (changed rest change (Some old)) r new → Changes (changed steps change (Some (V.Tuple vs))) r (V.Tuple (slice_set vs i new))
  member_changes i vs old new is there r =
      passes_on r (changed steps change (Some (V.Tuple vs))) (changed rest change (Some old)) (λ new. V.Tuple (slice_set vs i new)) new
      (level (K.Member i) is (V.Tuple vs) ∙ ap (level_changed (K.Member i) (changed rest change)) (V.outs-Tuple vs)
      ∙ ap (λ o. passed_on (given o) (λ old. passed_on (changed rest change (Some old)) (λ new. Gives (V.Tuple (slice_set vs i new))))) there)

  -- ---- lists

  element_changed : (n : Value) (vs : List Value) (o : CallOutcome) → steps ≡ K.Element n ∷ rest → level_element (O.List vs) (out-Value n) ≡ o
      → changed steps change (Some (V.List vs))
      ≡ passed_on o (λ old. passed_on (changed rest change (Some old)) (λ new. Gives (V.List (slice_set vs (found_index (out-Value n)) new))))
  element_changed n vs o is e =
      level (K.Element n) is (V.List vs) ∙ ap (level_changed (K.Element n) (changed rest change)) (V.outs-List vs)
      ∙ ap (λ o. passed_on o (λ old. passed_on (changed rest change (Some old)) (λ new. Gives (V.List (slice_set vs (found_index (out-Value n)) new))))) e

  pub element_changes : (n : Value) (vs : List Value) (at : ℕ) (old new : Value) → steps ≡ K.Element n ∷ rest → IsPlaceIn (length vs) n (Some at) → slice_get vs at ≡ Some old
      → (r : Result (Unit {0}) Stop) → Changes (changed rest change (Some old)) r new → Changes (changed steps change (Some (V.List vs))) r (V.List (slice_set vs at new))
  element_changes n vs at old new is place there r =
      passes_on r (changed steps change (Some (V.List vs))) (changed rest change (Some old)) (λ new. V.List (slice_set vs at new)) new
      (element_changed n vs (Gives old) is (place.2 vs ∙ ap (found F.Index) there)
      ∙ ap (λ i. passed_on (changed rest change (Some old)) (λ new. Gives (V.List (slice_set vs i new)))) place.0)

  pub element_missing : (n : Value) (vs : List Value) → steps ≡ K.Element n ∷ rest → IsPlaceIn (length vs) n None → changed steps change (Some (V.List vs)) ≡ Faults F.Index
  element_missing n vs is place = element_changed n vs (Faults F.Index) is (place vs refl)

-- ---- maps

module _ (change : Option Value → CallOutcome) (rest : List (Selector Value)) (q : Value) (ps : List (Value × Value)) where
  value_changed : (old : Option Value) → pairs_get ps q ≡ old
      → changed (K.AtKey q ∷ rest) change (Some (V.Map ps)) ≡ passed_on (changed rest change old) (λ new. Gives (V.Map (pairs_put ps q new)))
  value_changed old there =
      ap (level_changed (K.AtKey q) (changed rest change)) (V.outs-Map ps)
      ∙ ap (λ old. passed_on (changed rest change old) (λ new. Gives (V.Map (pairs_put ps q new)))) there

  pub value_changes : (old new : Value) → pairs_get ps q ≡ Some old → (r : Result (Unit {0}) Stop) → Changes (changed rest change (Some old)) r new
      → Changes (changed (K.AtKey q ∷ rest) change (Some (V.Map ps))) r (V.Map (pairs_put ps q new))
  value_changes old new there r =
      passes_on r (changed (K.AtKey q ∷ rest) change (Some (V.Map ps))) (changed rest change (Some old)) (λ new. V.Map (pairs_put ps q new)) new
      (value_changed (Some old) there)

  missing_none : (l : List (Selector Value)) → (length l == 0) ≡ false → changed l change None ≡ Faults F.NoKey
  missing_none [] is = absurd cc
  missing_none (step ∷ l) is = refl

  -- the last step adds the key
  pub value_added : pairs_get ps q ≡ None → (length rest == 0) ≡ true
      → changed (K.AtKey q ∷ rest) change (Some (V.Map ps)) ≡ passed_on (change None) (λ new. Gives (V.Map (pairs_put ps q new)))
  value_added there is = value_changed None there ∙ ap (λ l. passed_on (changed l change None) (λ new. Gives (V.Map (pairs_put ps q new)))) (nil_from_length rest (eqb-true (length rest) 0 is))

  -- another step doesn't
  pub value_missing : pairs_get ps q ≡ None → (length rest == 0) ≡ false → changed (K.AtKey q ∷ rest) change (Some (V.Map ps)) ≡ Faults F.NoKey
  value_missing there is = value_changed None there ∙ ap (λ o. passed_on o (λ new. Gives (V.Map (pairs_put ps q new)))) (missing_none rest is)
