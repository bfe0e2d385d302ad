-- The parts of values that fit.
use Rattle.std.specs.Prelude.{◌≡◌, ℕ, zero, suc, ◌<◌, ◌≤◌, ℤ, pos, negsuc, nat_abs, IsTrue, List, [], ◌∷◌, length, Some, slice_get}
use Rattle.std.specs.Cmp.{second_so}
use Rattle.std.specs.Int.{w64, w128, FitsUnsigned}
use Rattle.std.specs.List.{list_all}
use Rattle.std.proofs.Common.{sym, ap, subst, refl, ◌∙◌, arith, to_z, of_z}
use Rattle.std.proofs.lemmas.Option.{slice_get_past}
use Rattle.spl_value.specs.declared.item.FaultKind.TheVariants as K
use Rattle.spl_value.specs.declared.types.IntKind.{IntKind}
use Rattle.spl_value.specs.declared.types.Named.{Named}
use Rattle.spl_value.specs.declared.types.SplType.{SplType}
use Rattle.spl_value.specs.declared.types.SplType.TheVariants as S
use Rattle.spl_value.specs.declared.value.Value.{Value}
use Rattle.spl_value.specs.declared.value.Value.TheVariants as V
use Rattle.spl_value.specs.declared.value.Value.TheViews.{out-Value}
use Rattle.spl_value.specs.Calls.{Gives, Faults}
use Rattle.spl_value.proofs.FitsLaws.{pair_fits, fits_int, fits_map, fits_tuple, int_from_fits, list_from_fits, map_from_fits, tuple_from_fits}
use Rattle.spl_value.specs.Pairs.{are_pairs}
use Rattle.spl_value.specs.Values.{fits, tuple_fits, kind_holds}
use Rattle.language_model.specs.Operators.{level_member, element_at, level_element}
use Rattle.language_model.specs.parts.Operators.{found}
use Rattle.language_model.proofs.parts.Operators.{given}
use Rattle.value_operations.specs.Taking.{HasMember, HasElements, HasKeys}
use Rattle.value_operations.proofs.Sizes.{natural_fits}
use Rattle.spl_value.proofs.Bools.{and_left as first_true}
use Rattle.spl_value.proofs.Widths.{kept_in_128}

-- ---- tuples

pub within_schema : (schema : List (Named SplType)) (vs : List Value) (i : ℕ) (a : Named SplType) → IsTrue (tuple_fits schema vs) → slice_get schema i ≡ Some a → i < length vs
within_schema [] vs i a h e = absurd cc
within_schema (b ∷ schema) [] i a h e = absurd cc
within_schema (b ∷ schema) (v ∷ vs) zero a h e = omega arith
within_schema (b ∷ schema) (v ∷ vs) (suc i) a h e =
    let below : i < length vs = within_schema schema vs i a (second_so (fits b.kind v) (tuple_fits schema vs) h) e in omega arith

module _ (i : ℕ) (v : Value) where
  pub not_tuple : HasMember i v → ((vs : List Value) → v ≡ V.Tuple vs → ⊥) → ⊥
  not_tuple (schema, a, e, h) never = let is = tuple_from_fits schema v h in never is.0 is.1

  pub member_within : (vs : List Value) → HasMember i v → v ≡ V.Tuple vs → i < length vs
  member_within vs (schema, a, e, h) is =
      within_schema schema vs i a (sym (fits_tuple schema vs) ∙ subst (λ (w : Value). IsTrue (fits (S.Tuple schema) w)) is h) e

  pub member_is : (w : Value) (vs : List Value) → v ≡ V.Tuple vs → slice_get vs i ≡ Some w → level_member i (out-Value v) ≡ Gives w
  member_is w vs is e = ap (level_member i) (ap out-Value is ∙ V.outs-Tuple vs) ∙ ap given e

-- ---- lists

-- an index that is no natural number
pub below : (k : IntKind) (vs : List Value) (n : ℤ) → IsTrue (kind_holds k n) → (FitsUnsigned w64 n → ⊥) → element_at vs n ≡ Faults K.Index
below k vs (pos m) h never = absurd (never (natural_fits k m h))
below k vs (negsuc m) h never = refl

module _ (v index : Value) where
  pub not_list : HasElements v index → ((vs : List Value) → v ≡ V.List vs → ⊥) → ⊥
  not_list (t, k, h, g) never = let is = list_from_fits t v h in never is.0 is.1

  pub not_index : HasElements v index → ((n : ℤ) → index ≡ V.Int n → ⊥) → ⊥
  not_index (t, k, h, g) never = let is = int_from_fits k index g in never is.0 is.1

  element_is : (vs : List Value) (n : ℤ) → v ≡ V.List vs → index ≡ V.Int n → level_element (out-Value v) (out-Value index) ≡ element_at vs n
  element_is vs n e f = λ i. level_element ((ap out-Value e ∙ V.outs-List vs) i) ((ap out-Value f ∙ V.outs-Int n) i)

  past : (vs : List Value) (n : ℤ) (at : ℕ) → at ≡ nat_abs n → length vs ≤ at → element_at vs n ≡ Faults K.Index
  past vs (pos m) at e h = ap (found K.Index) (slice_get_past vs m (omega arith))
  past vs (negsuc m) at e h = refl

  pub element_past : (vs : List Value) (n : ℤ) (at : ℕ) → HasElements v index → v ≡ V.List vs → index ≡ V.Int n → at ≡ nat_abs (to_z w128 (of_z w128 n)) → length vs ≤ at
      → level_element (out-Value v) (out-Value index) ≡ Faults K.Index
  element_past vs n at (t, k, h, g) e f is le =
      let holds : IsTrue (kind_holds k n) = sym (fits_int k n) ∙ subst (λ (w : Value). IsTrue (fits (S.Int k) w)) f g in
      element_is vs n e f ∙ past vs n at (is ∙ ap nat_abs (kept_in_128 k n holds)) le

  pub element_below : (n : ℤ) → HasElements v index → index ≡ V.Int n → (FitsUnsigned w64 (to_z w128 (of_z w128 n)) → ⊥)
      → level_element (out-Value v) (out-Value index) ≡ Faults K.Index
  element_below n (t, k, h, g) f never =
      let is = list_from_fits t v h in
      let holds : IsTrue (kind_holds k n) = sym (fits_int k n) ∙ subst (λ (w : Value). IsTrue (fits (S.Int k) w)) f g in
      element_is is.0 n is.1 f ∙ below k is.0 n holds (subst (λ (z : ℤ). FitsUnsigned w64 z → ⊥) (kept_in_128 k n holds) never)

-- ---- maps

pub pairs_of : (k t : SplType) (v : Value) (ps : List (Value × Value)) → IsTrue (fits (S.Map k t) v) → v ≡ V.Map ps → IsTrue (are_pairs ps)
pairs_of k t v ps h e =
    first_true (are_pairs ps) (list_all (pair_fits k t) ps) (sym (fits_map k t ps) ∙ subst (λ (m : Value). IsTrue (fits (S.Map k t) m)) e h)

module _ (v key : Value) where
  pub not_map : HasKeys v key → ((ps : List (Value × Value)) → v ≡ V.Map ps → ⊥) → ⊥
  not_map (k, t, h, g) never = let is = map_from_fits k t v h in never is.0 is.1

  pub keys_rise : (ps : List (Value × Value)) → HasKeys v key → v ≡ V.Map ps → IsTrue (are_pairs ps)
  keys_rise ps (k, t, h, g) e = pairs_of k t v ps h e
