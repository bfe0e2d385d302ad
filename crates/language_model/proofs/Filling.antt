-- Fields that give each place of a tuple once make a tuple of its type.
use Rattle.std.specs.Prelude.{◌≡◌, ◌+◌, ◌<◌, ◌==◌, ℕ, suc, true, false, IsTrue, cond, if◌then◌else◌, List, [], ◌∷◌, length, Some, slice_get}
use Rattle.std.specs.List.{AllByRecursion}
use Rattle.std.specs.Option.{option_map, option_and_then}
use Rattle.std.specs.Cmp.Derive.{both_true}
use Rattle.std.proofs.Common.{refl, sym, ap, ◌∙◌, arith, subst}
use Rattle.std.proofs.lemmas.Bool.{eqb-true}
use Rattle.std.proofs.lemmas.List.{length-map}
use Rattle.std.proofs.lemmas.Option.{slice_get_within}
use Rattle.spl_value.specs.declared.types.Named.{Named}
use Rattle.spl_value.specs.declared.types.SplType.{SplType}
use Rattle.spl_value.specs.declared.value.Value.{Value}
use Rattle.spl_value.specs.Values.{tuple_fits}
use Rattle.language_model.specs.Evaluation.{field_at, tuple_from, tuple_of}
use Rattle.language_model.proofs.Counting.{how_often, Below, as_many}
use Rattle.language_model.proofs.Places.{places}
use Rattle.language_model.proofs.Yielding.{IsThere, OfType}

-- ---- the value at a place

-- the field's place is one of the tuple, and its value is of the type there
abbrev pub FieldHolds : List (Named SplType) → ℕ × Value → Type 0
FieldHolds schema f = (a : Named SplType) × (slice_get schema f.0 ≡ Some a) × OfType a.kind f.1

abbrev FieldThere : List (Named SplType) → ℕ → List (ℕ × Value) → Type 0
FieldThere schema i fs = IsThere (λ v. FieldHolds schema (i, v)) (field_at i fs)

field_there : (schema : List (Named SplType)) (i : ℕ) (fs : List (ℕ × Value)) → AllByRecursion (FieldHolds schema) fs → how_often i (places fs) ≡ 1 → FieldThere schema i fs
field_there schema i [] h once = absurd (omega arith)
field_there schema i (f ∷ fs) h once =
    elim (f.0 == i) as (λ b. (f.0 == i) ≡ b → cond b (1 + how_often i (places fs)) (how_often i (places fs)) ≡ 1 → IsThere (λ v. FieldHolds schema (i, v)) (if b then Some f.1 else field_at i fs)) [
      | true ↦ λ e once. (f.1, refl, subst (λ (j : ℕ). FieldHolds schema (j, f.1)) (eqb-true f.0 i e) h.0)
      | false ↦ λ e once. field_there schema i fs h.1 once
    ] refl once

-- ---- the tuple

-- the values from a place on are of the types of these attributes
tuple_there : (fs : List (ℕ × Value)) (i : ℕ) (rest : List (Named SplType))
    → ((j k : ℕ) (a : Named SplType) → j ≡ i + k → slice_get rest k ≡ Some a → IsThere (OfType a.kind) (field_at j fs))
    → IsThere (λ vs. IsTrue (tuple_fits rest vs)) (tuple_from i (length rest) fs)
tuple_there fs i [] h = ([], refl, refl)
tuple_there fs i (a ∷ rest) h =
    let first = h i 0 a (omega arith) refl in
    let others = tuple_there fs (suc i) rest (λ j k b e there. h j (suc k) b (omega arith) there) in (
      first.0 ∷ others.0,
      (λ x. option_and_then (λ v. option_map (λ vs. v ∷ vs) (others.1 x)) (first.1 x)),
      both_true first.2 others.2,
    )

field_of_type : (schema : List (Named SplType)) (i : ℕ) (a : Named SplType) (fs : List (ℕ × Value)) → AllByRecursion (FieldHolds schema) fs → how_often i (places fs) ≡ 1
    → slice_get schema i ≡ Some a → IsThere (OfType a.kind) (field_at i fs)
field_of_type schema i a fs h once e =
    let is = field_there schema i fs h once in
    let at : Some is.2.0 ≡ Some a = sym is.2.1 ∙ e in
    let same : is.2.0 ≡ a = cc in
    (is.0, is.1, subst (λ (b : Named SplType). OfType b.kind is.0) same is.2.2)

places_below : (schema : List (Named SplType)) (fs : List (ℕ × Value)) → AllByRecursion (FieldHolds schema) fs → Below (length schema) (places fs)
places_below schema [] h = tt
places_below schema (f ∷ fs) h = (slice_get_within schema f.0 h.0.0 h.0.1, places_below schema fs h.1)

pub tuple_made : (schema : List (Named SplType)) (fs : List (ℕ × Value)) → AllByRecursion (FieldHolds schema) fs
    → ((i : ℕ) → i < length schema → how_often i (places fs) ≡ 1) → IsThere (λ vs. IsTrue (tuple_fits schema vs)) (tuple_of fs)
tuple_made schema fs h once =
    let long : length fs ≡ length schema = sym (length-map fs (λ f. f.0)) ∙ as_many (length schema) (places fs) (places_below schema fs h) once in
    let made : IsThere (λ vs. IsTrue (tuple_fits schema vs)) (tuple_from 0 (length schema) fs) = tuple_there fs 0 schema at_place in
    (made.0, ap (λ n. tuple_from 0 n fs) long ∙ made.1, made.2)
  where
    at_place : (j k : ℕ) (a : Named SplType) → j ≡ 0 + k → slice_get schema k ≡ Some a → IsThere (OfType a.kind) (field_at j fs)
    at_place j k a e there =
        let same : j ≡ k = omega arith in
        let at : slice_get schema j ≡ Some a = ap (slice_get schema) same ∙ there in
        field_of_type schema j a fs h (once j (slice_get_within schema j a at)) at
