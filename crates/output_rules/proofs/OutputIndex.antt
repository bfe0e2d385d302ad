-- What is found by the names of attributes.
use Rattle.std.specs.Prelude.{◌≡◌, ◌<◌, ℕ, suc, ◌+◌, List, [], ◌∷◌, ◌++◌, Option, Some, None, drop, length, map, slice_get}
use Rattle.std.specs.Borrow.{Bor}
use Rattle.std.specs.Option.{option_map}
use Rattle.std.specs.Str.{bytes_eq}
use Rattle.std.proofs.Common.{refl, ap, sym, subst, ◌∙◌, arith, get_or, add-one}
use Rattle.std.proofs.lemmas.List.{drop-map, length-map}
use Rattle.std.proofs.lemmas.Option.{same_Some}
use Rattle.spl_value.specs.declared.types.Named.{Named}
use Rattle.spl_value.specs.declared.types.SplType.{SplType}
use Rattle.language_model.specs.declared.scope.Port.{Port}
use Rattle.language_model.specs.declared.scope.Scope.{Scope}
use Rattle.language_model.specs.OutputTyping.{one_attribute, taken_over}
use Rattle.language_model.specs.Scopes.{At, PortAttribute, at_place, attribute_of, attributes_from}
use Rattle.language_model.specs.parts.Scopes.{in_port}
use Rattle.language_model.proofs.Standing.{Stands, first_stands}
use Rattle.output_rules.specs.steps.Indexed.{attributes_in, place_from}
use Rattle.spl_value.proofs.Lists.{drop_at}

module _ (schema : List (Named SplType)) (name : List ℕ) where
  found_at : (k : ℕ) (o : Option (At (Named SplType))) → Stands (λ a. bytes_eq a.name name) schema 0 o → option_map (λ a. a.place) o ≡ Some k
      → (d : Named SplType) × (o ≡ Some (at_place k d)) × (slice_get schema k ≡ Some d)
  found_at k None st e = absurd cc
  found_at k (Some a) st e =
      let here : a.place ≡ k = same_Some _ _ e in
      let counted : a.place ≡ 0 + st.0 = st.1 in
      let at : st.0 ≡ k = omega (arith, counted, here) in
      (a.what, ap (λ p. Some (at_place p a.what)) here, subst (λ n. slice_get schema n ≡ Some a.what) at st.2)

  found : (k : ℕ) → Some k ≡ place_from 0 schema name → (d : Named SplType) × (attribute_of schema name ≡ Some (at_place k d)) × (slice_get schema k ≡ Some d)
  found k e = found_at k (attribute_of schema name) (first_stands (λ a. bytes_eq a.name name) schema 0) (sym e)

  -- an attribute stands at the place that is found
  pub is_there : (k : ℕ) → Some k ≡ place_from 0 schema name → None ≡ slice_get schema k → ⊥
  is_there k e none = let there = (found k e).2 in cc

  pub is_first : (k : ℕ) (d : Named SplType) → Some k ≡ place_from 0 schema name → Some d ≡ slice_get schema k → attribute_of schema name ≡ Some (at_place k d)
  is_first k d e at =
      let f = found k e in
      let same : d ≡ f.0 = same_Some _ _ (at ∙ f.2) in
      f.1 ∙ ap (λ x. Some (at_place k x)) (sym same)

-- ---- ports

same_attributes : (i : ℕ) (ports : List Port) (name : List ℕ) → attributes_in i (map (λ p. p.schema) ports) name ≡ attributes_from i ports name
same_attributes i [] name = refl
same_attributes i (p ∷ ps) name = ap (λ l. in_port i (attribute_of p.schema name) ++ l) (same_attributes (suc i) ps name)

module _ {A : Type 0} (schema_of : A → List (Named SplType)) (ports : List A) (i : ℕ) (name : List ℕ) (p : A) (h : i < length ports) (e : p ≡ get_or ports i p) where
  abbrev from : ℕ → List PortAttribute
  from k = attributes_in k (drop k (map schema_of ports)) name

  here : from i ≡ in_port i (attribute_of (schema_of p) name) ++ from (i + 1)
  here =
      ap (λ l. attributes_in i l name) (drop-map schema_of i ports ∙ ap (map schema_of) (drop_at ports i p h e))
      ∙ ap (λ l. in_port i (attribute_of (schema_of p) name) ++ attributes_in (suc i) l name) (sym (drop-map schema_of (i + 1) ports))
      ∙ ap (λ n. in_port i (attribute_of (schema_of p) name) ++ attributes_in n (drop (i + 1) (map schema_of ports)) name) (sym (add-one i))

  pub holds_here : (before : List PortAttribute) (place : ℕ) (a : Bor (Named SplType)) → before ≡ from i → attribute_of (schema_of p) name ≡ Some (at_place place a.now)
      → (before ≡ record { port = i; attribute = place; kind = a.now.kind } ∷ from (suc i)) × (i < length (map schema_of ports))
  holds_here before place a b found = (
    b ∙ here ∙ ap (λ o. in_port i o ++ from (i + 1)) found ∙ ap (λ n. record { port = i; attribute = place; kind = a.now.kind } ∷ from n) (add-one i),
    rw length-map h,
  )

  pub holds_later : (before : List PortAttribute) → before ≡ from i → attribute_of (schema_of p) name ≡ None → before ≡ from (i + 1)
  holds_later before b none = b ∙ here ∙ ap (λ o. in_port i o ++ from (i + 1)) none

-- what is taken over from the ports of a scope
pub from_scope : (scope : Scope) (at : ℕ) (a : Named SplType) (schemas : List (List (Named SplType))) → schemas ≡ map (λ p. p.schema) scope.ports
    → taken_over scope at a ≡ one_attribute at a.kind (attributes_in 0 schemas a.name)
from_scope scope at a schemas e =
    ap (one_attribute at a.kind) (sym (same_attributes 0 scope.ports a.name) ∙ ap (λ l. attributes_in 0 l a.name) (sym e))
