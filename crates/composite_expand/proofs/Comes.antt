-- The result of a unit, by that of its main composite.
use Rattle.std.proofs.Common.{◌≡◌, ◌∙◌, refl, sym, ap, subst, ℕ, zero, suc, ◌+◌, ◌<◌, List, [], ◌∷◌, length, Option, Some, None, Ok, Err, arith}
use Rattle.std.specs.Prelude.{Bool, true, false, Result, map, slice_get, if◌then◌else◌, codes}
use Rattle.std.specs.Option.{option_map_or}
use Rattle.spl_tree.specs.declared.expression.Placed.{Placed}
use Rattle.spl_tree.specs.declared.graph.Graph.{Graph}
use Rattle.spl_tree.specs.declared.unit.Composite.{Composite}
use Rattle.spl_tree.specs.declared.unit.Definition.{Definition}
use Rattle.spl_tree.specs.Trees.{placed}
use Rattle.language_model.specs.declared.expansion.ExpansionError.TheVariants as E
use Rattle.language_model.specs.Refusals.{named_refusal}
use Rattle.language_model.specs.declared.expansion.Operation.{Operation}
use Rattle.language_model.specs.Composites.{composites, composite_named, main_of, if_main, has_no_ports, is_empty}
use Rattle.language_model.proofs.parts.Composites.{named_or_only, only_one, portless, behind_first}
use Rattle.language_model.specs.parts.Composites.{may_be_main}
use Rattle.language_model.specs.Declarations.{declared_twice, first_of}
use Rattle.language_model.specs.Expansion.{Made, Expanded, after}
use Rattle.language_model.specs.Flat.{IsFlat, flat_from, ordered, with_own_files}
use Rattle.language_model.proofs.parts.Flat.{if_all_taken, graph_of, label_at, files_had, if_none_had}
use Rattle.language_model.specs.Numbering.{ops_from, streams_from, expansions_from}
use Rattle.language_model.specs.Recursion.{HasNoRecursion, IsRecursive, IsNotRecursive, composite_callers}
use Rattle.language_model.specs.Scopes.{At, first_from}
use Rattle.language_model.specs.Taking.{taken, first_untaken, is_taken}
use Rattle.language_model.proofs.Standing.{found_first}
use Rattle.composite_expand.specs.declared.answer.ExpandAnswer.{ExpandAnswer}
use Rattle.composite_expand.specs.declared.answer.ExpandAnswer.TheVariants as X
use Rattle.composite_expand.specs.Expands.{Expands}
use Rattle.composite_expand.specs.steps.Answers.{IsAnswer}
use Rattle.composite_tables.specs.declared.made.Body as M
use Rattle.composite_tables.specs.declared.made.Input.{Input}
use Rattle.stream_numbering.specs.declared.numbering.Numbered.{Numbered}
use Rattle.composite_tables.specs.Inputs.{Shows, AreNested, InputsStand}
use Rattle.composite_expand.specs.declared.walk.Walk.{Walk}
use Rattle.stream_numbering.specs.Numbered.{IsNumbered}
use Rattle.composite_expand.specs.steps.Walks.{IsExpanded, Starts, Refuses}
use Rattle.spl_value.proofs.Bools.{and_left, and_right}

label_found : (ops : List Operation) (op : ℕ) (label : Placed (List ℕ)) → slice_get (map (λ (x : Operation). placed x.at x.label) ops) op ≡ Some label
    → option_map_or (λ (x : Operation). placed x.at x.label) (slice_get ops op) (placed 0 []) ≡ label
label_found [] zero label there = absurd cc
label_found [] (suc op) label there = absurd cc
label_found (x ∷ xs) zero label there = cc
label_found (x ∷ xs) (suc op) label there = label_found xs op label there

label_there : (made : Made) (op : ℕ) (label : Placed (List ℕ)) → slice_get (map (λ (x : Operation). placed x.at x.label) made.ops) op ≡ Some label → label_at made op ≡ label
label_there made op label there = label_found made.ops op label there

-- the first that isn't taken is one of them
pub untaken_within : (topo : List ℕ) (n count k : ℕ) → first_untaken topo n count ≡ Some k → k < n + count
untaken_within topo n zero k is = absurd cc
untaken_within topo n (suc count) k is =
    elim (is_taken topo n) as (λ b. (if b then first_untaken topo (suc n) count else Some n) ≡ Some k → k < n + suc count) [
      | true ↦ λ later. let h = untaken_within topo (suc n) count k later in omega (arith, h)
      | false ↦ λ here. let same : n ≡ k = cc in omega (arith, same)
    ] is

pub numbered_is : (unit : List Definition) (main : At Composite) (w : Walk) (e : IsExpanded unit main w) (n : Numbered) (ops : List Operation) (bodies : List M.Body) (rows : List (List Input))
    → ops ≡ w.ops → bodies ≡ w.bodies → rows ≡ w.inputs
    → ((made : Made) → made.ops ≡ ops → Shows unit bodies made.expansions → AreNested made.expansions → InputsStand made.expansions rows → IsNumbered made n) → IsNumbered e.made n
numbered_is unit main w e n ops bodies rows same_ops same_bodies same_rows gives =
    gives e.made (sym (same_ops ∙ e.ops)) (subst (λ bs. Shows unit bs e.made.expansions) (sym same_bodies) e.bodies) e.nested (subst (InputsStand e.made.expansions) (sym same_rows) e.inputs)

module _ (unit : List Definition) (names : List (List ℕ)) (main : At Composite) (w : Walk) (e : IsExpanded unit main w) (n : Numbered) (is : IsNumbered e.made n) (topo : List ℕ)
    (order : topo ≡ taken n.streams n.ops) where
  topo_is : topo ≡ taken (streams_from 0 e.made.ops) (ops_from e.made 0 e.made.ops)
  topo_is = order ∙ ap (λ s. taken s n.ops) is.streams ∙ ap (λ o. taken (streams_from 0 e.made.ops) o) is.ops

  -- what stands where the first operator that isn't taken is this one, or none
  from_order : (o : Option ℕ) → first_untaken topo 0 (length e.made.ops) ≡ o
      → flat_from unit names main ≡ after (if_all_taken e.made topo o) (with_own_files unit names)
  from_order o first =
      ap (λ x. after x (λ made. after (ordered made) (with_own_files unit names))) e.is
      ∙ ap (λ t. after (if_all_taken e.made t (first_untaken t 0 (length e.made.ops))) (with_own_files unit names)) (sym topo_is)
      ∙ ap (λ p. after (if_all_taken e.made topo p) (with_own_files unit names)) first

  pub loops : (op : ℕ) (label : Placed (List ℕ)) → first_untaken topo 0 (length e.made.ops) ≡ Some op
      → slice_get (map (λ (x : Operation). placed x.at x.label) e.made.ops) op ≡ Some label → flat_from unit names main ≡ Err (named_refusal E.Loop label)
  loops op label first there = from_order (Some op) first ∙ ap (λ l. Err (named_refusal E.Loop l)) (label_there e.made op label there)

  graph_is : (g : Graph) → g ≡ record { ops = n.ops; streams = n.streams; expansions = n.expansions; topo = topo } → graph_of e.made topo ≡ g
  graph_is g same =
      ap (λ s. record { ops = ops_from e.made 0 e.made.ops; streams = s; expansions = expansions_from e.made 0 e.made.expansions; topo = topo }) (sym is.streams)
      ∙ ap (λ x. record { ops = ops_from e.made 0 e.made.ops; streams = n.streams; expansions = x; topo = topo }) (sym is.expansions)
      ∙ ap (λ o. record { ops = o; streams = n.streams; expansions = n.expansions; topo = topo }) (sym is.ops)
      ∙ sym same

  pub same_files : first_untaken topo 0 (length e.made.ops) ≡ None → (found : Option (Placed (List ℕ)))
      → found ≡ first_of (map (λ f. f.file) (files_had unit names n.expansions n.ops)) → (g : Graph)
      → g ≡ record { ops = n.ops; streams = n.streams; expansions = n.expansions; topo = topo } → flat_from unit names main ≡ if_none_had g found
  same_files first found had g same =
      from_order None first ∙ ap (with_own_files unit names) (graph_is g same)
      ∙ ap (λ h. if_none_had h (first_of (map (λ f. f.file) (files_had unit names h.expansions h.ops)))) same
      ∙ ap (if_none_had _) (sym had) ∙ ap (λ h. if_none_had h found) (sym same)

-- ---- the main composite

none_of : {A : Type 0} (xs : List A) → is_empty xs ≡ true → xs ≡ []
none_of [] is = refl
none_of (x ∷ xs) is = absurd cc

-- a composite that may be the main one has no inputs
no_inputs : (c : Composite) → may_be_main c ≡ true → c.inputs ≡ []
no_inputs c is = none_of c.inputs (and_right (is_empty c.outputs) (is_empty c.inputs) (and_left (has_no_ports c) _ is))

if_main_is : (c : At Composite) (place : ℕ) → if_main c ≡ Some place → (c.place ≡ place) × (may_be_main c.what ≡ true)
if_main_is c place is =
    elim (may_be_main c.what) as (λ b. may_be_main c.what ≡ b → (if b then Some c.place else None) ≡ Some place → (c.place ≡ place) × (may_be_main c.what ≡ true)) [
      | true ↦ λ may here. (cc, may)
      | false ↦ λ may here. absurd cc
    ] refl is

-- the main composite, which stands at its place and has no inputs
pub record IsThere (unit : List Definition) (place : ℕ) (main : At Composite) : Type 0 where
  pub place_is : main.place ≡ place
  pub there : slice_get (composites unit) main.place ≡ Some main.what
  pub inputs : main.what.inputs ≡ []

there_at : (unit : List Definition) (place : ℕ) (test : Composite → Bool) (c : At Composite) → first_from test 0 (composites unit) ≡ Some c → if_main c ≡ Some place
    → (m : At Composite) × IsThere unit place m
there_at unit place test c found is =
    let h = found_first test 0 (composites unit) c found in
    let m = if_main_is c place is in
    let number : c.place ≡ 0 + h.0 = h.1 in
    let same : c.place ≡ h.0 = omega (arith, number) in
    (c, record { place_is = m.0; there = ap (slice_get (composites unit)) same ∙ h.2; inputs = no_inputs c.what m.1 })

only_there : (unit : List Definition) (place : ℕ) (first : Option (At Composite)) (others : List Composite) → first_from has_no_ports 0 (composites unit) ≡ first
    → only_one first others ≡ Some place → (m : At Composite) × IsThere unit place m
only_there unit place None others found is = absurd cc
only_there unit place (Some c) [] found is = there_at unit place has_no_ports c found is
only_there unit place (Some c) (d ∷ others) found is = absurd cc

named_there : (unit : List Definition) (place : ℕ) (first : Option (At Composite)) → composite_named unit (codes "Main") ≡ first → named_or_only unit first ≡ Some place
    → (m : At Composite) × IsThere unit place m
named_there unit place (Some c) found is = there_at unit place _ c found is
named_there unit place None found is = only_there unit place (first_from has_no_ports 0 (composites unit)) (behind_first (portless (composites unit))) refl is

main_there : (unit : List Definition) (place : ℕ) → main_of unit ≡ Some place → (m : At Composite) × IsThere unit place m
main_there unit place is = named_there unit place (composite_named unit (codes "Main")) refl is

pub main_starts : (unit : List Definition) (place : ℕ) → main_of unit ≡ Some place → HasNoRecursion (composite_callers unit) → (m : At Composite) × Starts unit place m
main_starts unit place is none =
    let h = main_there unit place is in
    (h.0, record { place_is = h.1.place_is; there = h.1.there; inputs = h.1.inputs; none = none })

-- ---- what is answered

pub recursive : (unit : List Definition) (names : List (List ℕ)) (place : ℕ) (n : Placed (List ℕ)) → declared_twice unit ≡ None → main_of unit ≡ Some place → IsRecursive unit n
    → IsFlat unit names (Err (named_refusal E.Recursive n))
recursive unit names place n once is found =
    let h = main_there unit place is in
    IsFlat.recursive h.0 n once ((is ∙ ap (λ k. Some k) (sym h.1.place_is)), h.1.there) found

module _ (unit : List Definition) (names : List (List ℕ)) (place : ℕ) (main : At Composite) (once : declared_twice unit ≡ None) (is : main_of unit ≡ Some place)
    (starts : Starts unit place main) (none : IsNotRecursive unit) where
  comes_to : (found : Expanded Graph) → flat_from unit names main ≡ found → IsFlat unit names found
  comes_to found same = subst (IsFlat unit names) same (IsFlat.expands main once ((is ∙ ap (λ n. Some n) (sym starts.place_is)), starts.there) none)

  pub answered : (result : Result Graph ExpandAnswer) → IsAnswer (flat_from unit names main) result → Expands unit names result
  answered (Ok g) same = comes_to (Ok g) same
  answered (Err (X.Refused r)) same = comes_to (Err r) same
  answered (Err X.Memory) same = tt

  pub refused : (answer : ExpandAnswer) → Refuses unit main answer → Expands unit names (Err answer)
  refused (X.Refused r) same = comes_to (Err r) (ap (λ x. after x (λ made. after (ordered made) (with_own_files unit names))) same)
  refused X.Memory same = tt
