-- How deep calls nest where nothing reaches itself: no deeper than there are callers.
use Rattle.std.specs.Prelude.{◌≡◌, ◌<◌, ◌≤◌, ℕ, zero, suc, Bool, true, false, ◌||◌, List, [], ◌∷◌, map, filter_map, length, if◌then◌else◌, Option, Some, None, slice_get}
use Rattle.std.specs.List.{AllByRecursion, IsDistinct, list_any, cons_option}
use Rattle.std.specs.Option.{option_map}
use Rattle.std.specs.Str.{bytes_eq}
use Rattle.std.proofs.Common.{refl, sym, ap, ◌∙◌, subst, eqb, arith, ne_eqb, eqb-true}
use Rattle.std.proofs.lemmas.List.{length-map}
use Rattle.std.proofs.lemmas.Map.Steps.{length-le_from_distinct_below}
use Rattle.std.proofs.lemmas.Option.{slice_get-map, slice_get_within}
use Rattle.spl_tree.specs.declared.unit.Composite.{Composite}
use Rattle.spl_tree.specs.declared.unit.Definition.{Definition}
use Rattle.spl_tree.specs.declared.unit.Invocation.{Invocation}
use Rattle.spl_tree.specs.Trees.{placed}
use Rattle.language_model.specs.Composites.{composites, composite_named}
use Rattle.language_model.specs.Invoking.{Body, target_of}
use Rattle.language_model.specs.Recursion.{Caller, Calls, IsCall, Leads, directly, through, HasNoRecursion, calls_among, composite_callers}
use Rattle.language_model.specs.parts.Recursion.{IsAcyclic, composite_caller}
use Rattle.language_model.proofs.parts.Recursion.{call_among}
use Rattle.language_model.specs.Scopes.{At, at_place, first_from}
use Rattle.graph_laws.specs.steps.Paths.{IsPath}
use Rattle.graph_laws.proofs.Inlining.{named}
use Rattle.graph_laws.proofs.OneFlat.{there}

-- ---- paths

-- what leads to a caller leads to what it calls
pub leads_on : (calls : Calls) (a b c : ℕ) → Leads calls a b → IsCall calls b c → Leads calls a c
leads_on calls a b c (directly a' b' call) on = through a b c call (directly b c on)
leads_on calls a b c (through a' mid b' call rest) on = through a mid c call (leads_on calls mid b c rest on)

all_lead_on : (calls : Calls) (p place : ℕ) (outer : List ℕ) → IsCall calls p place → AllByRecursion (λ q. Leads calls q p) outer → AllByRecursion (λ q. Leads calls q place) outer
all_lead_on calls p place [] call all = tt
all_lead_on calls p place (q ∷ outer) call all = (leads_on calls q p place all.0 call, all_lead_on calls p place outer call all.1)

-- the outer ones lead to the one at the place
pub path_leads : (calls : Calls) (place : ℕ) (outer : List ℕ) → IsPath calls place outer → AllByRecursion (λ q. Leads calls q place) outer
path_leads calls place [] path = tt
path_leads calls place (p ∷ outer) path = (directly p place path.0, all_lead_on calls p place outer path.0 (path_leads calls p outer path.1))

-- ---- their length

others : (calls : Calls) (place : ℕ) (outer : List ℕ) → IsAcyclic calls → AllByRecursion (λ q. Leads calls q place) outer → AllByRecursion (λ q. eqb place q ≡ false) outer
others calls place [] none all = tt
others calls place (q ∷ outer) none all =
    (ne_eqb place q (λ same. none place (subst (λ p. Leads calls p place) (sym same) all.0)), others calls place outer none all.1)

distinct : (calls : Calls) (place : ℕ) (outer : List ℕ) → IsAcyclic calls → IsPath calls place outer → IsDistinct eqb (place ∷ outer)
unfolding IsDistinct
distinct calls place [] none path = (tt, tt)
distinct calls place (p ∷ outer) none path = (others calls place (p ∷ outer) none (path_leads calls place (p ∷ outer) path), distinct calls p outer none path.1)

path_below : (calls : Calls) (place : ℕ) (outer : List ℕ) → place < length calls → IsPath calls place outer → AllByRecursion (λ q. q < length calls) (place ∷ outer)
path_below calls place [] lt path = (lt, tt)
path_below calls place (p ∷ outer) lt path = (lt, path_below calls p outer (slice_get_within calls p path.0.list path.0.of_caller) path.1)

any_below : (n : ℕ) (ps : List ℕ) → AllByRecursion (λ p. p < n) ps → (q : ℕ) → list_any (eqb q) ps ≡ true → q < n
any_below n [] all q is = absurd cc
any_below n (p ∷ ps) all q is =
    elim (eqb q p) as (λ b. eqb q p ≡ b → b || list_any (eqb q) ps ≡ true → q < n) [
      | true ↦ λ same is. let e : q ≡ p = eqb-true q p same in subst (λ x. x < n) (sym e) all.0
      | false ↦ λ other is. any_below n ps all.1 q is
    ] refl is

-- where nothing reaches itself, a path has no more members than there are callers
pub path_within : (calls : Calls) (place : ℕ) (outer : List ℕ) → IsAcyclic calls → place < length calls → IsPath calls place outer → length (place ∷ outer) ≤ length calls
path_within calls place outer none lt path =
    length-le_from_distinct_below (place ∷ outer) (length calls) (distinct calls place outer none path)
    (any_below (length calls) (place ∷ outer) (path_below calls place outer lt path))

-- ---- composites

first_mapped : {A B : Type 0} (f : A → B) (test : B → Bool) (i : ℕ) (xs : List A)
    → first_from test i (map f xs) ≡ option_map (λ (x : At A). at_place x.place (f x.what)) (first_from (λ x. test (f x)) i xs)
first_mapped f test i [] = refl
first_mapped {A = A} f test i (x ∷ xs) =
    elim (test (f x))
    as (λ b. (if b then Some (at_place i (f x)) else first_from test (suc i) (map f xs))
    ≡ option_map (λ (y : At A). at_place y.place (f y.what)) (if b then Some (at_place i x) else first_from (λ y. test (f y)) (suc i) xs)) [
      | true ↦ refl
      | false ↦ first_mapped f test (suc i) xs
    ]

filter_map_there : {A B : Type 0} (f : A → Option B) (xs : List A) (n : ℕ) (x : A) (y : B) → slice_get xs n ≡ Some x → f x ≡ Some y
    → (m : ℕ) × (slice_get (filter_map f xs) m ≡ Some y)
filter_map_there f [] n x y at gives = absurd cc
filter_map_there f (z ∷ xs) zero x y at gives =
    let same : z ≡ x = cc in let first : f z ≡ Some y = ap f same ∙ gives in (0, ap (λ o. slice_get (cons_option o (filter_map f xs)) 0) first)
filter_map_there {B = B} f (z ∷ xs) (suc n) x y at gives = later (f z) (filter_map_there f xs n x y at gives)
  where
    later : (o : Option B) → (m : ℕ) × (slice_get (filter_map f xs) m ≡ Some y) → (m : ℕ) × (slice_get (cons_option o (filter_map f xs)) m ≡ Some y)
    later None h = h
    later (Some w) h = (suc h.0, h.1)

-- what the name of a composite calls
call_named : (unit : List Definition) (at : ℕ) (name : List ℕ) (d : At Composite) → target_of unit name ≡ Body d
    → call_among (composite_callers unit) (placed at name) ≡ Some (placed at d.place)
call_named unit at name d target =
    ap (option_map (λ (c : At Caller). placed at c.place)) (first_mapped composite_caller (λ c. bytes_eq c.name name) 0 (composites unit)
    ∙ ap (option_map (λ (c : At Composite). at_place c.place (composite_caller c.what))) (named name (composite_named unit name) d target))

-- a composite calls those that it invokes
pub invoked_is_call : (unit : List Definition) (place : ℕ) (c : Composite) (n : ℕ) (i : Invocation) (d : At Composite)
    → slice_get (composites unit) place ≡ Some c → slice_get c.graph n ≡ Some i → target_of unit i.operator.what ≡ Body d
    → IsCall (calls_among (composite_callers unit)) place d.place
invoked_is_call unit place c n i d at_place at target =
    let callers = composite_callers unit in
    let list = filter_map (call_among callers) (composite_caller c).called in
    let is_there = filter_map_there (call_among callers) (composite_caller c).called n (placed i.at i.operator.what) (placed i.at d.place)
    (slice_get-map (λ (i : Invocation). placed i.at i.operator.what) c.graph n ∙ ap (option_map (λ (i : Invocation). placed i.at i.operator.what)) at)
    (call_named unit i.at i.operator.what d target) in
    record {
      list = list;
      call = placed i.at d.place;
      of_caller =
          slice_get-map (λ (x : Caller). filter_map (call_among callers) x.called) callers place
          ∙ ap (option_map (λ (x : Caller). filter_map (call_among callers) x.called)) (slice_get-map composite_caller (composites unit) place ∙ ap (option_map composite_caller) at_place);
      among = there list is_there.0 (placed i.at d.place) is_there.1;
      callee = refl;
    }

-- composites that invoke one another, the outermost last, are no more than the unit has
pub composites_within : (unit : List Definition) (place : ℕ) (outer : List ℕ) → HasNoRecursion (composite_callers unit) → place < length (composites unit)
    → IsPath (calls_among (composite_callers unit)) place outer → length (place ∷ outer) ≤ length (composites unit)
composites_within unit place outer none lt path =
    let count : length (calls_among (composite_callers unit)) ≡ length (composites unit) = length-map (composite_callers unit) _ ∙ length-map (composites unit) composite_caller in
    let within = path_within (calls_among (composite_callers unit)) place outer none (omega arith) path in
    omega arith
