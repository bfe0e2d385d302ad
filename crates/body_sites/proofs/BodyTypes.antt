-- Names of types in a body.
use Rattle.std.specs.Prelude.{◌≡◌, ℕ, suc, Bool, true, false, ◌||◌, List, [], ◌∷◌, if◌then◌else◌, is_some, Some}
use Rattle.std.specs.List.{list_any}
use Rattle.std.specs.Str.{bytes_eq}
use Rattle.std.proofs.Common.{refl, sym, ◌∙◌}
use Rattle.spl_tree.specs.declared.unit.TypeDefinition.{TypeDefinition}
use Rattle.language_model.specs.Names.{is_named}
use Rattle.language_model.specs.Scopes.{at_place, first_from}
use Rattle.language_model.specs.TypeNames.{definition_of}
use Rattle.body_sites.specs.Names.{type_names_of}

first_among : (name : List ℕ) (i : ℕ) (ds : List TypeDefinition) → is_some (first_from (λ d. bytes_eq d.name.what name) i ds) ≡ list_any (λ n. bytes_eq n name) (type_names_of ds)
first_among name i [] = refl
first_among name i (d ∷ ds) =
    elim (bytes_eq d.name.what name) as (λ b. is_some (if b then Some (at_place i d) else first_from (λ d. bytes_eq d.name.what name) (suc i) ds)
    ≡ (b || list_any (λ n. bytes_eq n name) (type_names_of ds))) [
      | true ↦ refl
      | false ↦ first_among name (suc i) ds
    ]

pub defined_among : (name : List ℕ) (ds : List TypeDefinition) → is_named (type_names_of ds) name ≡ is_some (definition_of ds name)
defined_among name ds = sym (first_among name 0 ds)

pub type_here : (a b r : Bool) → r ≡ a → r ≡ true → r ≡ (a || b)
type_here true b r e t = e
type_here false b r e t = absurd (let h = sym t ∙ e in cc)

pub type_outside : (a b r s : Bool) → r ≡ a → r ≡ false → s ≡ b → s ≡ (a || b)
type_outside true b r s e f h = absurd (let h = sym f ∙ e in cc)
type_outside false b r s e f h = h
