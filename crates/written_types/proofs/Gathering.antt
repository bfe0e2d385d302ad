-- The definitions of types among those of a unit, one definition after the other.
use Rattle.std.specs.Prelude.{◌≡◌, ℕ, ◌+◌, ◌<◌, List, [], ◌∷◌, ◌++◌, length, map, take, None}
use Rattle.std.specs.Borrow.{Bor}
use Rattle.std.specs.List.{cons_option}
use Rattle.std.proofs.Common.{refl, ap, sym, ◌∙◌, get_or, append-nil}
use Rattle.std.proofs.lemmas.List.{map-append}
use Rattle.std.proofs.lemmas.List.Elements.{filter_map-append}
use Rattle.spl_tree.specs.declared.unit.Definition.{Definition}
use Rattle.spl_tree.specs.declared.unit.Definition.TheVariants as D
use Rattle.spl_tree.specs.declared.unit.TypeDefinition.{TypeDefinition}
use Rattle.language_model.specs.TypeNames.{as_type, type_definitions}
use Rattle.spl_value.proofs.Lists.{take_at as take_on}

module _ (unit : List Definition) (i : ℕ) (d : Definition) (within : i < length unit) (here : d ≡ get_or unit i d) where
  one_more : type_definitions (take (i + 1) unit) ≡ type_definitions (take i unit) ++ cons_option (as_type d) []
  one_more = ap type_definitions (take_on unit i d within here) ∙ filter_map-append as_type (take i unit) (d ∷ [])

  -- a definition of a type is added
  pub gathered : (t : Bor TypeDefinition) (before after : List (Bor TypeDefinition)) → d ≡ D.Type t.now → map (λ x. x.now) before ≡ type_definitions (take i unit)
      → after ≡ before ++ t ∷ [] → map (λ x. x.now) after ≡ type_definitions (take (i + 1) unit)
  gathered t before after is had comes =
      ap (map (λ x. x.now)) comes
      ∙ map-append (λ x. x.now) before (t ∷ [])
      ∙ ap (λ ts. ts ++ t.now ∷ []) had
      ∙ ap (λ o. type_definitions (take i unit) ++ cons_option o []) (ap as_type (sym is))
      ∙ sym one_more

  -- another one isn't
  pub passed_by : ((t : TypeDefinition) → d ≡ D.Type t → ⊥) → type_definitions (take i unit) ≡ type_definitions (take (i + 1) unit)
  passed_by other = sym (one_more ∙ ap (λ o. type_definitions (take i unit) ++ cons_option o []) (none d other) ∙ append-nil (type_definitions (take i unit)))
    where
      none : (d : Definition) → ((t : TypeDefinition) → d ≡ D.Type t → ⊥) → as_type d ≡ None
      none (D.Type t) other = absurd (other t refl)
      none (D.Composite c) other = refl
      none (D.Function f) other = refl
