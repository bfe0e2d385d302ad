-- Which definitions lead back to themselves, by the rows of the places where they lead.
use Rattle.std.specs.Prelude.{◌≡◌, ◌<◌, ℕ, zero, suc, Bool, List, [], ◌∷◌, length, map, Option, Some, None, slice_get, slice_index_or}
use Rattle.std.specs.List.{All, cons_option}
use Rattle.std.specs.Option.{option_map, option_map_or}
use Rattle.std.proofs.Common.{refl, ap, sym, subst, ◌∙◌, arith}
use Rattle.std.proofs.lemmas.Option.{same_Some, slice_get_within}
use Rattle.spl_tree.specs.declared.unit.TypeDefinition.{TypeDefinition}
use Rattle.language_model.specs.Leading.{leads_back}
use Rattle.language_model.specs.Scopes.{At, at_place}
use Rattle.language_model.specs.TypeNames.{definition_of, leads_to}
use Rattle.language_model.specs.parts.TypeNames.{Names, is_circular, shape_names}
use Rattle.language_model.proofs.DefinedTypes.{there}
use Rattle.written_types.specs.Circles.{TellsCircular}
use Rattle.written_types.specs.steps.Circles.{TellsBack, with_circle}
use Rattle.written_types.specs.steps.Definitions.{places_of, rows_of}
use Rattle.written_types.specs.Stepping.{steps_from, LeadsWithin}
use Rattle.spl_value.proofs.Lists.{map_length}

-- ---- rows

row_at : {A B : Type 0} (f : A → List B) (xs : List A) (place : ℕ) → slice_index_or (map f xs) place [] ≡ option_map_or f (slice_get xs place) []
row_at f [] place = refl
row_at f (x ∷ xs) zero = refl
row_at f (x ∷ xs) (suc place) = row_at f xs place

module _ (definitions : List TypeDefinition) where
  steps_are : steps_from (rows_of definitions) ≡ leads_to definitions
  steps_are = λ i place. row_at (λ d. places_of definitions (shape_names d.shape)) definitions place i

  count_is : length (rows_of definitions) ≡ length definitions
  count_is = map_length (λ d. places_of definitions (shape_names d.shape)) definitions

  back_is : (place : ℕ) → leads_back (length (rows_of definitions)) (steps_from (rows_of definitions)) place ≡ is_circular definitions place
  back_is place = λ i. leads_back (count_is i) (steps_are i) place

  pub tells_circular : (flags : List Bool) → TellsBack (rows_of definitions) flags → TellsCircular definitions flags
  tells_circular flags tells = (tells.0 ∙ count_is, λ place h. tells.1 place (subst (λ n. place < n) (sym count_is) h) ∙ ap Some (back_is place))

  -- ---- they lead to definitions

  place_below : (name : List ℕ) (o : Option (At TypeDefinition)) → definition_of definitions name ≡ o → (rest : List ℕ)
      → All (λ to. to < length definitions) rest → All (λ to. to < length definitions) (cons_option (option_map (λ d. d.place) o) rest)
  place_below name None is rest below = below
  place_below name (Some d) is rest below = on
    where
      here : d.place < length definitions
      here = slice_get_within definitions d.place d.what (there definitions name d is)

      on : All (λ to. to < length definitions) (d.place ∷ rest)
      on zero x h = here
      on (suc k) x h = below k x (omega (arith, h))

  places_below : (names : Names) → All (λ to. to < length definitions) (places_of definitions names)
  places_below [] = λ k d h. absurd (omega (arith, h))
  places_below (name ∷ rest) = place_below name (definition_of definitions name) refl (places_of definitions rest) (places_below rest)

  rows_below : (some : List TypeDefinition) → All (λ row. All (λ to. to < length definitions) row) (map (λ d. places_of definitions (shape_names d.shape)) some)
  rows_below [] k d h = absurd (omega (arith, h))
  rows_below (x ∷ some) zero d h = places_below (shape_names x.shape)
  rows_below (x ∷ some) (suc k) d h = let less : k < length (map (λ d. places_of definitions (shape_names d.shape)) some) = omega (arith, h) in rows_below some k d less

  pub rows_within : LeadsWithin (rows_of definitions)
  rows_within = subst (λ n. All (λ row. All (λ to. to < n) row) (rows_of definitions)) (sym count_is) (rows_below definitions)

  -- ---- the definition of a name

  flag_of : (flags : List Bool) → TellsCircular definitions flags → (name : List ℕ) (place : ℕ) (d : TypeDefinition) → Some (at_place place d) ≡ definition_of definitions name
      → slice_get flags place ≡ Some (is_circular definitions place)
  flag_of flags tells name place d is = tells.1 place (slice_get_within definitions place d (there definitions name (at_place place d) (sym is)))

module _ (definitions value : List TypeDefinition) (same : definitions ≡ value) (flags : List Bool) (tells : TellsCircular definitions flags)
    (name : List ℕ) (place : ℕ) (d : TypeDefinition) (is : Some (at_place place d) ≡ definition_of definitions name) where
  pub has_flag : None ≡ slice_get flags place → ⊥
  has_flag none = let h = none ∙ flag_of definitions flags tells name place d is in cc

  pub told_is : (b : Bool) → Some b ≡ slice_get flags place → Some (d, b) ≡ with_circle value (definition_of value name)
  told_is b at =
      let flag : b ≡ is_circular definitions place = same_Some _ _ (at ∙ flag_of definitions flags tells name place d is) in
      subst (λ ds. Some (d, b) ≡ with_circle ds (definition_of ds name)) same
      (ap (λ x. Some (d, x)) flag ∙ ap (with_circle definitions) is)
