-- The graph of a unit, and what it was made of from the main composite on.
use Rattle.std.specs.Prelude.{◌≡◌, ◌+◌, ℕ, Bool, true, false, List, [], ◌∷◌, Option, Some, None, Ok, slice_get, if◌then◌else◌, codes, is_some}
use Rattle.std.specs.List.{list_all}
use Rattle.std.specs.Str.{bytes_eq}
use Rattle.std.proofs.Common.{refl, sym, ap, ◌∙◌, subst, arith}
use Rattle.std.proofs.lemmas.Option.{same_Some}
use Rattle.spl_tree.specs.declared.graph.Graph.{Graph}
use Rattle.spl_tree.specs.declared.unit.Composite.{Composite}
use Rattle.spl_tree.specs.declared.unit.Definition.{Definition}
use Rattle.language_model.specs.Composites.{composites, composite_named, has_no_ports, if_main}
use Rattle.language_model.specs.parts.Composites.{may_be_main}
use Rattle.language_model.proofs.parts.Composites.{only_one, portless, behind_first, named_or_only}
use Rattle.language_model.specs.Declarations.{declared_twice}
use Rattle.language_model.specs.Expansion.{Expanded, Made}
use Rattle.language_model.specs.Flat.{IsFlat, IsMain, flat_from, twice, no_main, recursive, expands}
use Rattle.language_model.proofs.parts.Flat.{graph_of}
use Rattle.language_model.specs.Recursion.{HasNoRecursion, composite_callers}
use Rattle.language_model.specs.Scopes.{At, first_from}
use Rattle.graph_laws.proofs.Flattening.{topo_of, made_of}
use Rattle.graph_laws.proofs.Inlining.{Holds, main_holds}
use Rattle.language_model.proofs.Standing.{Stands, first_stands}
use Rattle.expansion_laws.proofs.Expanding.{IsComplete, complete}
use Rattle.spl_value.proofs.Bools.{and_parts}

-- ---- the main composite has no ports

if_main_is : (c : At Composite) (place : ℕ) → if_main c ≡ Some place → (c.place ≡ place) × (has_no_ports c.what ≡ true)
if_main_is c place e =
    elim (may_be_main c.what) as (λ b. may_be_main c.what ≡ b → (if b then Some c.place else None) ≡ Some place → (c.place ≡ place) × (has_no_ports c.what ≡ true)) [
      | true ↦ λ may is. (same_Some c.place place is, (and_parts (has_no_ports c.what) (list_all (λ p. is_some p.default) c.what.parameters) may).0)
      | false ↦ λ may is. absurd cc
    ] refl e

-- a composite that was found is the one at the place
abbrev IsPortless : List Composite → ℕ → Type 0
IsPortless cs place = (c : Composite) → slice_get cs place ≡ Some c → has_no_ports c ≡ true

found_portless : (p : Composite → Bool) (cs : List Composite) (c : At Composite) (place : ℕ) → Stands p cs 0 (Some c) → if_main c ≡ Some place → IsPortless cs place
found_portless p cs c place s e d at =
    let main = if_main_is c place e in
    let there : c.place ≡ 0 + s.0 = s.1 in
    let same : s.0 ≡ place = omega (arith, there, main.0) in
    let one : c.what ≡ d = same_Some c.what d (sym s.2 ∙ ap (slice_get cs) same ∙ at) in
    ap has_no_ports (sym one) ∙ main.1

only_portless : (cs : List Composite) (o : Option (At Composite)) (others : List Composite) (place : ℕ) → Stands has_no_ports cs 0 o → only_one o others ≡ Some place → IsPortless cs place
only_portless cs None others place s e = λ c at. absurd cc
only_portless cs (Some c) [] place s e = found_portless has_no_ports cs c place s e
only_portless cs (Some c) (d ∷ others) place s e = λ c at. absurd cc

main_portless : (unit : List Definition) (o : Option (At Composite)) (place : ℕ) → Stands (λ c. bytes_eq c.name.what (codes "Main")) (composites unit) 0 o
    → named_or_only unit o ≡ Some place → IsPortless (composites unit) place
main_portless unit (Some c) place s e = found_portless (λ c. bytes_eq c.name.what (codes "Main")) (composites unit) c place s e
main_portless unit None place s e =
    only_portless (composites unit) (first_from has_no_ports 0 (composites unit)) (behind_first (portless (composites unit))) place (first_stands has_no_ports (composites unit) 0) e

has_none : (unit : List Definition) (main : At Composite) → IsMain unit main → has_no_ports main.what ≡ true
has_none unit main is =
    main_portless unit (composite_named unit (codes "Main")) main.place (first_stands (λ c. bytes_eq c.name.what (codes "Main")) (composites unit) 0) is.0 main.what is.1

-- ---- what a graph was made of

pub record IsOf (unit : List Definition) (names : List (List ℕ)) (g : Graph) : Type 0 where
  pub main : At Composite
  pub made : Made
  pub once : declared_twice unit ≡ None
  pub acyclic : HasNoRecursion (composite_callers unit)
  pub holds : Holds unit made
  pub complete : IsComplete unit main made
  pub is : g ≡ graph_of made (topo_of made)
  pub flat : flat_from unit names main ≡ Ok g

pub of_flat : (unit : List Definition) (names : List (List ℕ)) (g : Graph) (x : Expanded Graph) → IsFlat unit names x → x ≡ Ok g → IsOf unit names g
of_flat unit names g x (twice n declared) e = absurd cc
of_flat unit names g x (no_main declared none) e = absurd cc
of_flat unit names g x (recursive main n declared is r) e = absurd cc
of_flat unit names g x (expands main declared is r) e =
    let m = made_of unit names main g e in
    record {
      main = main;
      made = m.made;
      once = declared;
      acyclic = r.composites;
      holds = main_holds unit main m.made is.1 m.expanded;
      complete = complete unit main m.made is.1 (has_none unit main is) r.composites m.expanded;
      is = m.is;
      flat = e;
    }

-- what holds of all graphs that were made so
pub of_all : (P : List Definition → Graph → Type 0) (unit : List Definition) (names : List (List ℕ)) (g : Graph) → IsFlat unit names (Ok g)
    → ((main : At Composite) (made : Made) → declared_twice unit ≡ None → HasNoRecursion (composite_callers unit) → Holds unit made → IsComplete unit main made
    → P unit (graph_of made (topo_of made))) → P unit g
of_all P unit names g flat holds =
    let o = of_flat unit names g (Ok g) flat refl in
    subst (P unit) (sym o.is) (holds o.main o.made o.once o.acyclic o.holds o.complete)
