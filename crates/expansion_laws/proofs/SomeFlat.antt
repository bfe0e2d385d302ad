-- A unit has a graph, or a first refusal on the way to it.
use Rattle.std.specs.Prelude.{◌≡◌, ◌⊎◌, ℕ, ◌+◌, Bool, true, false, if◌then◌else◌, codes, List, [], ◌∷◌, Option, Some, None, Err, slice_get}
use Rattle.std.proofs.Common.{refl, sym, ap, ◌∙◌, arith, inl, inr}
use Rattle.std.proofs.lemmas.Option.{same_Some}
use Rattle.spl_tree.specs.declared.expression.Placed.{Placed}
use Rattle.spl_tree.specs.declared.unit.Composite.{Composite}
use Rattle.spl_tree.specs.declared.unit.Definition.{Definition}
use Rattle.language_model.specs.declared.expansion.ExpansionError.TheVariants as E
use Rattle.language_model.specs.Refusals.{named_refusal, unnamed_refusal}
use Rattle.language_model.specs.Composites.{composites, composite_named, has_no_ports, if_main, main_of}
use Rattle.language_model.specs.parts.Composites.{may_be_main}
use Rattle.language_model.proofs.parts.Composites.{portless, behind_first, only_one, named_or_only}
use Rattle.language_model.specs.Declarations.{declared_twice}
use Rattle.language_model.specs.Flat.{IsMain, flat_from, twice, no_main, recursive, expands}
use Rattle.language_model.specs.Recursion.{HasNoRecursion, IsRecursive, in_functions, in_composites, IsNotRecursive, function_callers, composite_callers}
use Rattle.language_model.specs.Scopes.{At, first_from}
use Rattle.language_model.proofs.Standing.{found_first}
use Rattle.expansion_laws.specs.Laws.{IsFound, FoundLaw}
use Rattle.expansion_laws.proofs.Reaching.{Recursion, recursion_decided}

-- ---- recursion

abbrev Recursive : List Definition → Type 0
Recursive unit = (n : Placed (List ℕ)) × IsRecursive unit n

unit_decided : (unit : List Definition) → Recursive unit ⊎ IsNotRecursive unit
unit_decided unit = by_functions (recursion_decided (function_callers unit)) (recursion_decided (composite_callers unit))
  where
    by_composites : HasNoRecursion (function_callers unit) → Recursion (composite_callers unit) ⊎ HasNoRecursion (composite_callers unit) → Recursive unit ⊎ IsNotRecursive unit
    by_composites functions (inl found) = inl (found.0, in_composites functions found.1)
    by_composites functions (inr none) = inr (record { functions = functions; composites = none })

    by_functions : Recursion (function_callers unit) ⊎ HasNoRecursion (function_callers unit) → Recursion (composite_callers unit) ⊎ HasNoRecursion (composite_callers unit)
        → Recursive unit ⊎ IsNotRecursive unit
    by_functions (inl found) composites = inl (found.0, in_functions found.1)
    by_functions (inr none) composites = by_composites none composites

-- ---- the main composite

-- the first that passes stands at its place
first_there : {A : Type 0} (test : A → Bool) (xs : List A) (x : At A) → first_from test 0 xs ≡ Some x → slice_get xs x.place ≡ Some x.what
first_there test xs x is =
    let h = found_first test 0 xs x is in
    let place : x.place ≡ 0 + h.0 = h.1 in
    let same : x.place ≡ h.0 = omega (arith, place) in
    ap (slice_get xs) same ∙ h.2

abbrev StandsAt : List Definition → ℕ → Type 0
StandsAt unit place = (main : At Composite) × (main.place ≡ place) × (slice_get (composites unit) main.place ≡ Some main.what)

main_at : (unit : List Definition) (place : ℕ) (test : Composite → Bool) (c : At Composite) → first_from test 0 (composites unit) ≡ Some c → if_main c ≡ Some place → StandsAt unit place
main_at unit place test c found is =
    elim (may_be_main c.what) as (λ b. (if b then Some c.place else None) ≡ Some place → StandsAt unit place) [
      | true ↦ λ here. (c, same_Some c.place place here, first_there test (composites unit) c found)
      | false ↦ λ here. absurd cc
    ] is

only_at : (unit : List Definition) (place : ℕ) (first : Option (At Composite)) (others : List Composite) → first_from has_no_ports 0 (composites unit) ≡ first
    → only_one first others ≡ Some place → StandsAt unit place
only_at unit place None others found is = absurd cc
only_at unit place (Some c) [] found is = main_at unit place has_no_ports c found is
only_at unit place (Some c) (d ∷ others) found is = absurd cc

named_at : (unit : List Definition) (place : ℕ) (first : Option (At Composite)) → composite_named unit (codes "Main") ≡ first → named_or_only unit first ≡ Some place → StandsAt unit place
named_at unit place (Some c) found is = main_at unit place _ c found is
named_at unit place None found is = only_at unit place (first_from has_no_ports 0 (composites unit)) (behind_first (portless (composites unit))) refl is

main_there : (unit : List Definition) (place : ℕ) → main_of unit ≡ Some place → (main : At Composite) × IsMain unit main
main_there unit place is =
    let h = named_at unit place (composite_named unit (codes "Main")) refl is in
    (h.0, (is ∙ ap (λ k. Some k) (sym h.1), h.2))

-- ---- the whole

pub found_law : FoundLaw
found_law unit names = by_names (declared_twice unit) refl
  where
    by_recursion : (main : At Composite) → declared_twice unit ≡ None → IsMain unit main → Recursive unit ⊎ IsNotRecursive unit → IsFound unit names
    by_recursion main once is (inl found) = (Err (named_refusal E.Recursive found.0), recursive main found.0 once is found.1)
    by_recursion main once is (inr none) = (flat_from unit names main, expands main once is none)

    by_main : declared_twice unit ≡ None → (o : Option ℕ) → main_of unit ≡ o → IsFound unit names
    by_main once None is = (Err (unnamed_refusal E.NoMain 0), no_main once is)
    by_main once (Some place) is = let main = main_there unit place is in by_recursion main.0 once main.1 (unit_decided unit)

    by_names : (o : Option (Placed (List ℕ))) → declared_twice unit ≡ o → IsFound unit names
    by_names (Some n) is = (Err (named_refusal E.Twice n), twice n is)
    by_names None is = by_main is (main_of unit) refl
