-- The names of the types of a unit, definition by definition.
use Rattle.std.specs.Prelude.{◌≡◌, ◌<◌, ℕ, ◌+◌, List, [], ◌∷◌, ◌++◌, length}
use Rattle.std.proofs.Common.{refl, ap, sym, ◌∙◌, get_or, take, add-one, subst, append-nil}
use Rattle.std.proofs.lemmas.List.{map-append}
use Rattle.std.proofs.lemmas.List.Elements.{filter_map-append}
use Rattle.std.proofs.Math.Seq.{take-suc}
use Rattle.spl_tree.specs.declared.unit.Definition.{Definition}
use Rattle.spl_tree.specs.declared.unit.Definition.TheVariants as D
use Rattle.spl_tree.specs.declared.unit.TypeDefinition.{TypeDefinition}
use Rattle.language_model.specs.TypeNames.{as_type, type_definitions}
use Rattle.program_tables.specs.declared.names.Names.{Names}
use Rattle.program_tables.specs.Names.{HoldsNames}
use Rattle.body_sites.specs.Names.{type_names_of}

module _ (unit : List Definition) (i : ℕ) (d : Definition) (within : i < length unit) (here : d ≡ get_or unit i d) where
  types_at : type_definitions (take (i + 1) unit) ≡ type_definitions (take i unit) ++ type_definitions (d ∷ [])
  types_at =
      rw add-one (ap type_definitions (take-suc unit i d within ∙ ap (λ x. take i unit ++ x ∷ []) (sym here)) ∙ filter_map-append as_type (take i unit) (d ∷ []))

  module _ (t : TypeDefinition) (is : d ≡ D.Type t) where
    type_at : type_definitions (take (i + 1) unit) ≡ type_definitions (take i unit) ++ t ∷ []
    type_at = types_at ∙ ap (λ d. type_definitions (take i unit) ++ type_definitions (d ∷ [])) is

    names_at : type_names_of (type_definitions (take i unit)) ++ t.name.what ∷ [] ≡ type_names_of (type_definitions (take (i + 1) unit))
    names_at = sym (ap type_names_of type_at ∙ map-append (λ d. d.name.what) (type_definitions (take i unit)) (t ∷ []))

    pub name_at : (table added : Names) → table ≡ added → (name : List ℕ) → name ≡ t.name.what
        → HoldsNames added (type_names_of (type_definitions (take i unit)) ++ name ∷ []) → HoldsNames table (type_names_of (type_definitions (take (i + 1) unit)))
    name_at table added same name own stand =
        subst (λ t. HoldsNames t (type_names_of (type_definitions (take (i + 1) unit)))) (sym same)
        (subst (HoldsNames added) (ap (λ n. type_names_of (type_definitions (take i unit)) ++ n ∷ []) own ∙ names_at) stand)

  pub none_at : ((t : TypeDefinition) → d ≡ D.Type t → ⊥) → type_definitions (take (i + 1) unit) ≡ type_definitions (take i unit)
  none_at other = types_at ∙ ap (λ ts. type_definitions (take i unit) ++ ts) (none d other) ∙ append-nil (type_definitions (take i unit))
    where
      none : (d : Definition) → ((t : TypeDefinition) → d ≡ D.Type t → ⊥) → type_definitions (d ∷ []) ≡ []
      none (D.Type t) other = absurd (other t refl)
      none (D.Composite c) other = refl
      none (D.Function f) other = refl
