-- Where names lead, by the places of their definitions.
use Rattle.std.specs.Prelude.{◌≡◌, ℕ, List, ◌++◌, Option, Some, None, slice_get}
use Rattle.std.specs.Option.{option_map}
use Rattle.std.proofs.Common.{refl, ap, sym, subst, ◌∙◌, append_assoc}
use Rattle.std.proofs.lemmas.List.Elements.{filter_map-append}
use Rattle.std.proofs.lemmas.Option.{same_Some}
use Rattle.spl_tree.specs.declared.shape.TypeKind.TheVariants as V
use Rattle.spl_tree.specs.declared.unit.TypeDefinition.{TypeDefinition}
use Rattle.spl_tree.specs.Trees.{TypeExpr}
use Rattle.language_model.specs.Scopes.{At, at_place}
use Rattle.language_model.specs.TypeNames.{definition_of, type_names}
use Rattle.language_model.specs.parts.TypeNames.{Names}
use Rattle.language_model.proofs.TypeNameLaws.{kind_names_in, map_names}
use Rattle.language_model.proofs.DefinedTypes.{there}
use Rattle.written_types.specs.steps.Definitions.{places_of}

-- ---- the places of names

pub places_of-append : (definitions : List TypeDefinition) (xs ys : Names) → places_of definitions (xs ++ ys) ≡ places_of definitions xs ++ places_of definitions ys
places_of-append definitions xs ys = filter_map-append (λ name. option_map (λ d. d.place) (definition_of definitions name)) xs ys

-- the places of a map's key and of its value
pub map_places : (definitions : List TypeDefinition) (written k v : TypeExpr) (before now new : List ℕ) → written.what ≡ V.Map k v
    → now ≡ before ++ places_of definitions (type_names k) → new ≡ now ++ places_of definitions (type_names v)
    → new ≡ before ++ places_of definitions (type_names written)
map_places definitions written k v before now new is first second =
    let keys = places_of definitions (type_names k) in
    let values = places_of definitions (type_names v) in
    second
    ∙ ap (λ ps. ps ++ values) first
    ∙ append_assoc before keys values
    ∙ ap (λ ps. before ++ ps) (sym (places_of-append definitions (type_names k) (type_names v)) ∙ ap (places_of definitions) (sym (ap kind_names_in is ∙ map_names k v)))

pub ruleset place_laws = (places_of-append)

-- ---- the definition of a name

abbrev place : Option (At TypeDefinition) → Option ℕ
place o = option_map (λ d. d.place) o

module _ (definitions : List TypeDefinition) (name : List ℕ) where
  found_at : (k : ℕ) (o : Option (At TypeDefinition)) → definition_of definitions name ≡ o → place o ≡ Some k
      → (d : TypeDefinition) × (o ≡ Some (at_place k d)) × (slice_get definitions k ≡ Some d)
  found_at k None is e = absurd cc
  found_at k (Some a) is e =
      let here : a.place ≡ k = same_Some _ _ e in
      (a.what, ap (λ p. Some (at_place p a.what)) here, subst (λ p. slice_get definitions p ≡ Some a.what) here (there definitions name a is))

  found : (k : ℕ) → Some k ≡ place (definition_of definitions name) → (d : TypeDefinition) × (definition_of definitions name ≡ Some (at_place k d)) × (slice_get definitions k ≡ Some d)
  found k e = found_at k (definition_of definitions name) refl (sym e)

  pub is_there : (k : ℕ) → Some k ≡ place (definition_of definitions name) → None ≡ slice_get definitions k → ⊥
  is_there k e none = let there = (found k e).2 in cc

  pub is_defined : (k : ℕ) (d : TypeDefinition) → Some k ≡ place (definition_of definitions name) → Some d ≡ slice_get definitions k
      → Some (at_place k d) ≡ definition_of definitions name
  is_defined k d e at =
      let f = found k e in
      let same : d ≡ f.0 = same_Some _ _ (at ∙ f.2) in
      ap (λ x. Some (at_place k x)) same ∙ sym f.1
