-- An index as a place in a list.
use Rattle.std.specs.Prelude.{◌≡◌, ℕ, ◌<◌, ◌≤◌, ℤ, pos, negsuc, nat_abs, IsTrue, List, Some, None}
use Rattle.std.specs.Int.{w64, w128, FitsUnsigned}
use Rattle.std.proofs.Common.{sym, ap, subst, ◌∙◌, arith, to_z, of_z}
use Rattle.std.proofs.lemmas.Int.{ints}
use Rattle.std.proofs.lemmas.Option.{slice_get_past}
use Rattle.spl_value.specs.declared.item.FaultKind.TheVariants as K
use Rattle.spl_value.specs.declared.types.SplType.TheVariants as S
use Rattle.spl_value.specs.declared.value.Value.{Value}
use Rattle.spl_value.specs.declared.value.Value.TheVariants as V
use Rattle.spl_value.specs.declared.value.Value.TheOpen as O
use Rattle.spl_value.specs.declared.value.Value.TheViews.{out-Value}
use Rattle.spl_value.proofs.FitsLaws.{fits_int, int_from_fits}
use Rattle.spl_value.specs.Values.{fits, kind_holds}
use Rattle.language_model.specs.Changes.{found_index}
use Rattle.language_model.specs.Operators.{element_at, level_element}
use Rattle.language_model.specs.parts.Operators.{found}
use Rattle.value_operations.specs.steps.Places.{IsIndex, IsPlaceIn}
use Rattle.value_operations.proofs.Parts.{below}
use Rattle.spl_value.proofs.Widths.{kept_in_128}

natural : (n : ℤ) (at : ℕ) → FitsUnsigned w64 n → at ≡ nat_abs n → n ≡ pos at
natural (pos m) at f e = ap pos (sym e)
natural (negsuc m) at f e = absurd (omega (arith, ints, f.0))

module _ (v : Value) (fit : IsIndex v) where
  pub not_integer : ((n : ℤ) → v ≡ V.Int n → ⊥) → ⊥
  not_integer never = let is = int_from_fits fit.0 v fit.1 in never is.0 is.1

  module _ (length_of : ℕ) (n : ℤ) (is : v ≡ V.Int n) where
    holds : IsTrue (kind_holds fit.0 n)
    holds = sym (fits_int fit.0 n) ∙ subst (λ (w : Value). IsTrue (fits (S.Int fit.0) w)) is fit.1

    kept : to_z w128 (of_z w128 n) ≡ n
    kept = kept_in_128 fit.0 n holds

    element_is : (vs : List Value) → level_element (O.List vs) (out-Value v) ≡ element_at vs n
    element_is vs = ap (level_element (O.List vs)) (ap out-Value is ∙ V.outs-Int n)

    number : (at : ℕ) → FitsUnsigned w64 (to_z w128 (of_z w128 n)) → at ≡ nat_abs (to_z w128 (of_z w128 n)) → n ≡ pos at
    number at f e = natural n at (subst (FitsUnsigned w64) kept f) (e ∙ ap nat_abs kept)

    pub place_within : (at : ℕ) → FitsUnsigned w64 (to_z w128 (of_z w128 n)) → at ≡ nat_abs (to_z w128 (of_z w128 n)) → at < length_of → IsPlaceIn length_of v (Some at)
    place_within at f e lt =
        let z = number at f e in
        (ap found_index (ap out-Value is ∙ V.outs-Int n ∙ ap O.Int z), lt, λ vs. element_is vs ∙ ap (element_at vs) z)

    pub place_past : (at : ℕ) → FitsUnsigned w64 (to_z w128 (of_z w128 n)) → at ≡ nat_abs (to_z w128 (of_z w128 n)) → length_of ≤ at → IsPlaceIn length_of v None
    place_past at f e le vs long = element_is vs ∙ ap (element_at vs) (number at f e) ∙ ap (found K.Index) (slice_get_past vs at (omega arith))

    pub place_below : (FitsUnsigned w64 (to_z w128 (of_z w128 n)) → ⊥) → IsPlaceIn length_of v None
    place_below never vs long = element_is vs ∙ below fit.0 vs n holds (subst (λ (z : ℤ). FitsUnsigned w64 z → ⊥) kept never)
