-- The composites of a unit, definition by definition.
use Rattle.std.specs.Prelude.{◌≡◌, ◌<◌, ℕ, ◌+◌, List, [], ◌∷◌, ◌++◌, length, map}
use Rattle.std.proofs.Common.{refl, ap, sym, ◌∙◌, get_or, take, add-one, subst, append-nil}
use Rattle.std.proofs.lemmas.List.{map-append}
use Rattle.std.proofs.lemmas.List.Elements.{filter_map-append}
use Rattle.std.proofs.Math.Seq.{take-suc}
use Rattle.spl_tree.specs.declared.unit.Composite.{Composite}
use Rattle.spl_tree.specs.declared.unit.Definition.{Definition}
use Rattle.spl_tree.specs.declared.unit.Definition.TheVariants as D
use Rattle.language_model.specs.Composites.{as_composite, composites}
use Rattle.program_tables.specs.declared.names.Names.{Names}
use Rattle.composite_tables.specs.declared.tables.Scope.{Scope}
use Rattle.program_tables.specs.Names.{HoldsNames}
use Rattle.composite_tables.specs.Names.{composite_names}

module _ (unit : List Definition) (i : ℕ) (d : Definition) (within : i < length unit) (here : d ≡ get_or unit i d) where
  composites_at : composites (take (i + 1) unit) ≡ composites (take i unit) ++ composites (d ∷ [])
  composites_at =
      rw add-one (ap composites (take-suc unit i d within ∙ ap (λ x. take i unit ++ x ∷ []) (sym here)) ∙ filter_map-append as_composite (take i unit) (d ∷ []))

  module _ (c : Composite) (is : d ≡ D.Composite c) where
    composite_at : composites (take (i + 1) unit) ≡ composites (take i unit) ++ c ∷ []
    composite_at = composites_at ∙ ap (λ d. composites (take i unit) ++ composites (d ∷ [])) is

    pub scope_at : (scopes more : List Scope) (s : Scope) → map (λ s. s.composite.now) scopes ≡ composites (take i unit) → s.composite.now ≡ c
        → more ≡ scopes ++ s ∷ [] → map (λ s. s.composite.now) more ≡ composites (take (i + 1) unit)
    scope_at scopes more s before own e =
        ap (map (λ s. s.composite.now)) e ∙ map-append (λ s. s.composite.now) scopes (s ∷ [])
        ∙ (λ j. before j ++ own j ∷ []) ∙ sym composite_at

    names_at : composite_names (take i unit) ++ c.name.what ∷ [] ≡ composite_names (take (i + 1) unit)
    names_at = sym (ap (map (λ c. c.name.what)) composite_at ∙ map-append (λ c. c.name.what) (composites (take i unit)) (c ∷ []))

    pub name_at : (table added : Names) → table ≡ added → (name : List ℕ) → name ≡ c.name.what
        → HoldsNames added (composite_names (take i unit) ++ name ∷ []) → HoldsNames table (composite_names (take (i + 1) unit))
    name_at table added same name own stand =
        subst (λ t. HoldsNames t (composite_names (take (i + 1) unit))) (sym same)
        (subst (HoldsNames added) (ap (λ n. composite_names (take i unit) ++ n ∷ []) own ∙ names_at) stand)

  pub none_at : ((c : Composite) → d ≡ D.Composite c → ⊥) → composites (take (i + 1) unit) ≡ composites (take i unit)
  none_at other = composites_at ∙ ap (λ cs. composites (take i unit) ++ cs) (none d other) ∙ append-nil (composites (take i unit))
    where
      none : (d : Definition) → ((c : Composite) → d ≡ D.Composite c → ⊥) → composites (d ∷ []) ≡ []
      none (D.Composite c) other = absurd (other c refl)
      none (D.Type t) other = refl
      none (D.Function f) other = refl
