-- The composite of a name by the place of the name.
use Rattle.std.specs.Prelude.{◌≡◌, ℕ, suc, ◌+◌, Bool, true, false, List, [], ◌∷◌, if◌then◌else◌, map, slice_get, Option, Some, None}
use Rattle.std.specs.Option.{option_map}
use Rattle.std.specs.Str.{bytes_eq}
use Rattle.std.proofs.Common.{refl, ap, sym, ◌∙◌, arith}
use Rattle.spl_tree.specs.declared.unit.Composite.{Composite}
use Rattle.spl_tree.specs.declared.unit.Definition.{Definition}
use Rattle.language_model.specs.Composites.{composites, composite_named}
use Rattle.language_model.specs.Expansion.{place_of}
use Rattle.language_model.specs.Scopes.{At, at_place, first_from}
use Rattle.language_model.proofs.Standing.{Stands, first_stands}
use Rattle.composite_tables.specs.Names.{composite_names}

abbrev place : {A : Type 0} → Option (At A) → Option ℕ
place o = option_map (λ n. n.place) o

module _ {A : Type 0} (name_of : A → List ℕ) (name : List ℕ) where
  abbrev has_name : A → Bool
  has_name x = bytes_eq (name_of x) name

  place_from : (i : ℕ) (xs : List A) → place (first_from (λ n. bytes_eq n name) i (map name_of xs)) ≡ place (first_from has_name i xs)
  place_from i [] = refl
  place_from i (x ∷ xs) =
      elim (bytes_eq (name_of x) name) as (λ b. place (if b then Some (at_place i (name_of x)) else first_from (λ n. bytes_eq n name) (suc i) (map name_of xs))
      ≡ place (if b then Some (at_place i x) else first_from has_name (suc i) xs)) [
        | true ↦ refl
        | false ↦ place_from (suc i) xs
      ]

module _ (unit : List Definition) (name : List ℕ) where
  by_name : place_of name (composite_names unit) ≡ place (composite_named unit name)
  by_name = place_from (λ c. c.name.what) name 0 (composites unit)

  pub unnamed : place_of name (composite_names unit) ≡ None → composite_named unit name ≡ None
  unnamed e = none (composite_named unit name) (sym by_name ∙ e)
    where
      none : (o : Option (At Composite)) → place o ≡ None → o ≡ None
      none None e = refl
      none (Some a) e = cc

  stands_at : (k : ℕ) (o : Option (At Composite)) → place o ≡ Some k → Stands (has_name (λ c. c.name.what) name) (composites unit) 0 o
      → (c : Composite) × (o ≡ Some (at_place k c)) × (slice_get (composites unit) k ≡ Some c)
  stands_at k None e h = cc
  stands_at k (Some a) e h =
      let here : a.place ≡ k = cc in
      let counted : a.place ≡ 0 + h.0 = h.1 in
      let there : h.0 ≡ k = omega arith in
      (a.what, ap (λ p. Some (at_place p a.what)) here, ap (slice_get (composites unit)) (sym there) ∙ h.2)

  named_at : (k : ℕ) → place_of name (composite_names unit) ≡ Some k
      → (c : Composite) × (composite_named unit name ≡ Some (at_place k c)) × (slice_get (composites unit) k ≡ Some c)
  named_at k e = stands_at k (composite_named unit name) (sym by_name ∙ e) (first_stands (has_name (λ c. c.name.what) name) (composites unit) 0)

  pub is_named : (k : ℕ) (c : Composite) → place_of name (composite_names unit) ≡ Some k → slice_get (composites unit) k ≡ Some c
      → Some (at_place k c) ≡ composite_named unit name
  is_named k c e there =
      let named = named_at k e in
      let same : c ≡ named.0 = let h = sym there ∙ named.2 in cc in
      ap (λ c. Some (at_place k c)) same ∙ sym named.1

  pub is_there : (k : ℕ) → place_of name (composite_names unit) ≡ Some k → slice_get (composites unit) k ≡ None → ⊥
  is_there k e none = let h = sym none ∙ (named_at k e).2 in cc
