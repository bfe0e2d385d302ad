-- What an expansion makes of a unit: operators in the order of the text, each set in its body, and no invocation left out.
use Rattle.std.specs.Prelude.{◌≡◌, ◌+◌, ◌==◌, ℕ, zero, suc, List, [], ◌∷◌, ◌++◌, flat_map, length, Some, Ok, Err, slice_get, if◌then◌else◌, true, false}
use Rattle.std.proofs.Common.{refl, sym, ap, ◌∙◌, subst, arith, eqb-true}
use Rattle.std.proofs.lemmas.Bool.{eqb-false}
use Rattle.std.proofs.lemmas.Option.{same_Some, slice_get_within}
use Rattle.spl_tree.specs.declared.graph.Site.{Site}
use Rattle.spl_tree.specs.declared.unit.Composite.{Composite}
use Rattle.spl_tree.specs.declared.unit.Definition.{Definition}
use Rattle.spl_tree.specs.declared.unit.HeadPort.{HeadPort}
use Rattle.spl_tree.specs.declared.unit.Invocation.{Invocation}
use Rattle.spl_tree.specs.declared.unit.OutputStream.{OutputStream}
use Rattle.spl_tree.specs.Trees.{placed}
use Rattle.language_model.specs.declared.expansion.ExpansionError.TheVariants as E
use Rattle.language_model.specs.Refusals.{named_refusal}
use Rattle.language_model.specs.Composites.{composites, has_no_ports}
use Rattle.language_model.specs.Declarations.{first_of}
use Rattle.language_model.specs.Expansion.{Made, Inlined, Opened, Expands, after, operation, inlined, opened_in, expanded_target, expanded_invocation, expanded_graph, expanded, main_body, expanded_main}
use Rattle.language_model.proofs.parts.Expansion.{with_operation}
use Rattle.language_model.specs.parts.Expansion.{with_expansion, if_grown}
use Rattle.language_model.specs.Invoking.{Target, Operator, Body, Nothing, target_of, undeclared, fits_head, stream_names}
use Rattle.language_model.specs.Names.{is_named}
use Rattle.language_model.specs.Recursion.{HasNoRecursion, calls_among, composite_callers}
use Rattle.language_model.specs.Scopes.{At}
use Rattle.language_model.proofs.FoundAnswers.{after_gives, same_Ok}
use Rattle.graph_laws.proofs.Inlining.{IsIn, within_is, found, declared_gives}
use Rattle.graph_laws.specs.steps.Paths.{IsPath}
use Rattle.graph_laws.proofs.Nesting.{composites_within, invoked_is_call}
use Rattle.expansion_laws.proofs.Growing.{LiesIn, main_lies, IsReadable, IsWired, wired_main, IsInOrder}
use Rattle.expansion_laws.proofs.Heads.{declared_none, all_readable, outputs_fit, output_made}
use Rattle.expansion_laws.proofs.Stepping.{IsReady, IsOpen, open_on, Comes, makes_no_stream, comes_on, IsDone, Adds, adds_none, adds_on, ready_on, adds_operator, operator_comes, operator_grows, opened, way_in, opened_in_order, opened_open, opened_ready, adds_body, body_comes}

abbrev site : ℕ → ℕ → Site
site k n = record { expansion = k; invocation = n }

-- the body is one of the unit's, and there are as many composites as bodies around it and others that nest in it
record IsNested (unit : List Definition) (depth : ℕ) (p : Opened) : Type 0 where
  pub is_in : IsIn unit p.body
  pub outer : List ℕ
  pub path : IsPath (calls_among (composite_callers unit)) p.body.composite.place outer
  pub deep : depth + length outer ≡ length (composites unit)

-- what comes of one invocation, and of several from one on
record One (unit : List Definition) (p : Opened) (pp : List ℕ) (number : ℕ) (i : Invocation) (before next : Made) : Type 0 where
  pub adds : Adds unit pp number (suc number) before next
  pub comes : Comes unit next (site p.number number) i
  pub none : length before.ops ≡ length next.ops → length i.outputs ≡ 0

record All (unit : List Definition) (p : Opened) (pp : List ℕ) (number : ℕ) (is : List Invocation) (before next : Made) : Type 0 where
  pub adds : Adds unit pp number (number + length is) before next
  pub come : (n : ℕ) (i : Invocation) → slice_get is n ≡ Some i → Comes unit next (site p.number (number + n)) i
  pub none : length before.ops ≡ length next.ops → (n : ℕ) (i : Invocation) → slice_get is n ≡ Some i → length i.outputs ≡ 0

abbrev DoesAll : List Definition → ℕ → Expands → Type 0
DoesAll unit depth expands = (p : Opened) (pp : List ℕ) (before next : Made) → IsNested unit depth p → IsInOrder unit before → IsOpen before p pp → IsReady before pp 0
    → expands p before ≡ Ok next → All unit p pp 0 p.body.composite.what.graph before next

-- ---- bodies that make no stream

no_streams : (is : List Invocation) → ((n : ℕ) (i : Invocation) → slice_get is n ≡ Some i → length i.outputs ≡ 0) → flat_map (λ i. Rattle.std.specs.Prelude.map (λ o. o.name.what) i.outputs) is ≡ []
no_streams [] none = refl
no_streams (i ∷ is) none = no_outputs i.outputs (none 0 i refl) (no_streams is (λ n j at. none (suc n) j at))
  where
    no_outputs : (os : List OutputStream) → length os ≡ 0 → flat_map (λ i. Rattle.std.specs.Prelude.map (λ o. o.name.what) i.outputs) is ≡ []
        → Rattle.std.specs.Prelude.map (λ o. o.name.what) os ++ flat_map (λ i. Rattle.std.specs.Prelude.map (λ o. o.name.what) i.outputs) is ≡ []
    no_outputs [] e rest = rest
    no_outputs (o ∷ os) e rest = absurd (omega arith)

no_head_outputs : (c : Composite) (i : Invocation) (ps : List HeadPort) → ((k : ℕ) (p : HeadPort) → slice_get ps k ≡ Some p → is_named (stream_names c) p.name.what ≡ true)
    → stream_names c ≡ [] → length ps ≡ 0
no_head_outputs c i [] made none = refl
no_head_outputs c i (p ∷ ps) made none = absurd (let h : is_named [] p.name.what ≡ true = ap (λ n. is_named n p.name.what) (sym none) ∙ made 0 p refl in cc)

no_outputs_left : (c : Composite) (i : Invocation) → fits_head c i ≡ true → ((n : ℕ) (j : Invocation) → slice_get c.graph n ≡ Some j → length j.outputs ≡ 0) → length i.outputs ≡ 0
no_outputs_left c i fits none = outputs_fit c i fits ∙ no_head_outputs c i c.outputs (output_made c i fits) (no_streams c.graph none)

-- ---- an invocation

module _ (unit : List Definition) (depth : ℕ) (expands : Expands) (does : DoesAll unit depth expands) (p : Opened) (pp : List ℕ) (nested : IsNested unit (suc depth) p) where
  nested_in : (number : ℕ) (i : Invocation) (c : At Composite) (made : Made) → slice_get p.body.composite.what.graph number ≡ Some i → target_of unit i.operator.what ≡ Body c
      → IsNested unit depth (opened_in p number i c made)
  nested_in number i c made there target = record {
    is_in = found unit i.operator.what c target;
    outer = p.body.composite.place ∷ nested.outer;
    path = (invoked_is_call unit p.body.composite.place p.body.composite.what number i c nested.is_in there target, nested.path);
    deep = omega (arith, nested.deep);
  }

  module _ (number : ℕ) (i : Invocation) (before : Made) (in_order : IsInOrder unit before) (open_body : IsOpen before p pp) (ready : IsReady before pp number)
      (there : slice_get p.body.composite.what.graph number ≡ Some i) (readable : IsReadable p.body.composite.what i) where
    one_body : (c : At Composite) (target : target_of unit i.operator.what ≡ Body c) (fits : fits_head c.what i ≡ true) (made next : Made)
        → All unit (opened_in p number i c before) (way_in unit p pp number i c before in_order open_body ready there target fits readable) 0 c.what.graph
        (opened unit p pp number i c before in_order open_body ready there target fits readable) made
        → if_grown before made ≡ next → One unit p pp number i before next
    one_body c target fits made next all is_next =
        elim (length before.ops == length made.ops)
        as (λ b. (length before.ops == length made.ops) ≡ b → (if b then before else made) ≡ next → One unit p pp number i before next) [
          | true ↦ λ same n. subst (One unit p pp number i before) n (one_nothing (eqb-true (length before.ops) (length made.ops) same))
          | false ↦ λ other n. subst (One unit p pp number i before) n (one_grown (eqb-false (length before.ops) (length made.ops) other))
        ] refl is_next
      where
        one_nothing : length before.ops ≡ length made.ops → One unit p pp number i before before
        one_nothing same =
            let none = no_outputs_left c.what i fits (all.none same) in
            record { adds = adds_none unit pp number (suc number) before in_order; comes = makes_no_stream none; none = λ again. none }

        one_grown : (length before.ops ≡ length made.ops → ⊥) → One unit p pp number i before made
        one_grown grew = record {
          adds = adds_body unit p pp number i c before in_order open_body ready there target fits readable (length c.what.graph) made adds done;
          comes = body_comes unit p pp number i c before in_order open_body ready there target fits readable (length c.what.graph) made adds done;
          none = λ same. absurd (grew same);
        }
          where
            adds : Adds unit (way_in unit p pp number i c before in_order open_body ready there target fits readable) 0 (length c.what.graph)
                (opened unit p pp number i c before in_order open_body ready there target fits readable) made
            adds =
                let same : 0 + length c.what.graph ≡ length c.what.graph = omega arith in
                subst (λ (n : ℕ). Adds unit (way_in unit p pp number i c before in_order open_body ready there target fits readable) 0 n
                (opened unit p pp number i c before in_order open_body ready there target fits readable) made) same all.adds

            done : IsDone unit made (length before.expansions) (inlined p number c)
            done n j at = let same : 0 + n ≡ n = omega arith in subst (λ (m : ℕ). Comes unit made (site (length before.expansions) m) j) same (all.come n j at)

    one_target : (next : Made) → (target : Target) → target_of unit i.operator.what ≡ target → expanded_target expands p number i target before ≡ Ok next → One unit p pp number i before next
    one_target next (Operator kind) is e =
        subst (One unit p pp number i before) (within_is i.at (with_operation (operation before.expansions p number i kind) before) next e) record {
          adds = adds_operator unit p pp number i kind before in_order open_body ready there is readable;
          comes = operator_comes unit p pp number i kind before in_order open_body ready there is readable;
          none = λ same. absurd (operator_grows unit p pp number i kind before in_order open_body ready there is readable same);
        }
    one_target next (Body c) is e =
        elim (fits_head c.what i)
        as (λ b. fits_head c.what i ≡ b → (if b then after (expands (opened_in p number i c before) (with_expansion (inlined p number c) before)) (λ m. Ok (if_grown before m)) else Err (named_refusal E.Ports (placed i.at i.operator.what))) ≡ Ok next
        → One unit p pp number i before next) [
          | true ↦ λ fits gives.
              let x = after_gives (expands (opened_in p number i c before) (with_expansion (inlined p number c) before)) (λ m. Ok (if_grown before m)) next gives in
              one_body c is fits x.0 next
              (does (opened_in p number i c before) (pp ++ number ∷ []) (with_expansion (inlined p number c) before) x.0 (nested_in number i c before there is)
              (opened_in_order unit p pp number i c before in_order open_body ready there is fits readable)
              (opened_open unit p pp number i c before in_order open_body ready there is fits readable)
              (opened_ready unit p pp number i c before in_order open_body ready there is fits readable) x.1)
              (same_Ok x.2)
          | false ↦ λ misfits refused. absurd cc
        ] refl e
    one_target next Nothing is e = absurd cc

  one_invocation : (number : ℕ) (i : Invocation) (before next : Made) → IsInOrder unit before → IsOpen before p pp → IsReady before pp number
      → slice_get p.body.composite.what.graph number ≡ Some i → expanded_invocation expands unit p number i before ≡ Ok next → One unit p pp number i before next
  one_invocation number i before next in_order open_body ready there e =
      let unknown = first_of (undeclared unit p.body.composite.what i) in
      let readable = all_readable unit p.body.composite.what i
      (declared_none unknown (expanded_target expands p number i (target_of unit i.operator.what) before) next e) in
      one_target number i before in_order open_body ready there readable next (target_of unit i.operator.what) refl
      (declared_gives unknown (expanded_target expands p number i (target_of unit i.operator.what) before) next e)

  -- ---- a graph

  all_from : (number : ℕ) (i : Invocation) (is : List Invocation) (x y z : Made) → One unit p pp number i x y → All unit p pp (suc number) is y z → All unit p pp number (i ∷ is) x z
  all_from number i is x y z first rest = record { adds = adds; come = come; none = none }
    where
      adds : Adds unit pp number (number + length (i ∷ is)) x z
      adds =
          let same : suc number + length is ≡ number + length (i ∷ is) = omega arith in
          subst (λ (n : ℕ). Adds unit pp number n x z) same
          (adds_on unit pp number (suc number) (suc number + length is) x y z (omega arith) (omega arith) first.adds rest.adds)

      come : (n : ℕ) (j : Invocation) → slice_get (i ∷ is) n ≡ Some j → Comes unit z (site p.number (number + n)) j
      come zero j at =
          let same : i ≡ j = cc in
          let here : number ≡ number + 0 = omega arith in
          subst (λ (m : ℕ). Comes unit z (site p.number m) j) here
          (subst (Comes unit z (site p.number number)) same (comes_on unit y z (site p.number number) i rest.adds.ops rest.adds.bodies first.comes))
      come (suc n) j at = let later : suc number + n ≡ number + suc n = omega arith in subst (λ (m : ℕ). Comes unit z (site p.number m) j) later (rest.come n j at)

      none : length x.ops ≡ length z.ops → (n : ℕ) (j : Invocation) → slice_get (i ∷ is) n ≡ Some j → length j.outputs ≡ 0
      none same zero j at =
          let is_first : i ≡ j = cc in
          let own = first.none (omega (arith, same, first.adds.count, rest.adds.count)) in
          ap (λ (k : Invocation). length k.outputs) (sym is_first) ∙ own
      none same (suc n) j at = rest.none (omega (arith, same, first.adds.count, rest.adds.count)) n j at

  all_of : (number : ℕ) (is : List Invocation) (before next : Made) → IsInOrder unit before → IsOpen before p pp → IsReady before pp number
      → ((j : ℕ) (i : Invocation) → slice_get is j ≡ Some i → slice_get p.body.composite.what.graph (number + j) ≡ Some i)
      → expanded_graph expands unit p number is before ≡ Ok next → All unit p pp number is before next
  all_of number [] before next in_order open_body ready there e =
      let same : before ≡ next = same_Ok e in
      subst (All unit p pp number [] before) same record { adds = adds_none unit pp number (number + 0) before in_order; come = λ n i at. absurd cc; none = λ none n i at. absurd cc }
  all_of number (i ∷ is) before next in_order open_body ready there e =
      let x = after_gives (expanded_invocation expands unit p number i before) (expanded_graph expands unit p (suc number) is) next e in
      let here : number + 0 ≡ number = omega arith in
      let first = one_invocation number i before x.0 in_order open_body ready (sym (ap (slice_get p.body.composite.what.graph) here) ∙ there 0 i refl) x.1 in
      let later = λ (j : ℕ) (k : Invocation) (at : slice_get is j ≡ Some k).
      (let same : suc number + j ≡ number + suc j = omega arith in ap (slice_get p.body.composite.what.graph) same ∙ there (suc j) k at) in
      all_from number i is before x.0 next first
      (all_of (suc number) is x.0 next first.adds.in_order (open_on before x.0 p pp first.adds.bodies open_body)
      (ready_on unit pp number (suc number) before x.0 (omega arith) first.adds ready) later x.2)

does_all : (unit : List Definition) → HasNoRecursion (composite_callers unit) → (depth : ℕ) → DoesAll unit depth (expanded depth unit)
does_all unit acyclic zero p pp before next nested in_order open_body ready e =
    let within = composites_within unit p.body.composite.place nested.outer acyclic (slice_get_within (composites unit) p.body.composite.place p.body.composite.what nested.is_in) nested.path in
    absurd (omega (arith, within, nested.deep))
does_all unit acyclic (suc depth) p pp before next nested in_order open_body ready e =
    all_of unit depth (expanded depth unit) (does_all unit acyclic depth) p pp nested 0 p.body.composite.what.graph before next in_order open_body ready
    (λ j i is. let same : 0 + j ≡ j = omega arith in ap (slice_get p.body.composite.what.graph) same ∙ is) e

-- ---- the whole

-- what was made from the main composite on
pub record IsComplete (unit : List Definition) (main : At Composite) (made : Made) : Type 0 where
  pub in_order : IsInOrder unit made
  pub done : (k : ℕ) (e : Inlined) → slice_get made.expansions k ≡ Some e → IsDone unit made k e

only : (main : At Composite) (P : ℕ → Inlined → Type 0) → P 0 (main_body main) → (k : ℕ) (x : Inlined) → slice_get (main_body main ∷ []) k ≡ Some x → P k x
only main P h zero x at = let same : main_body main ≡ x = cc in subst (P 0) same h
only main P h (suc k) x at = absurd cc

one_place : (main : At Composite) (k : ℕ) (x : Inlined) → slice_get (main_body main ∷ []) k ≡ Some x → k ≡ 0
one_place main zero x at = refl
one_place main (suc k) x at = absurd cc

pub complete : (unit : List Definition) (main : At Composite) (made : Made) → slice_get (composites unit) main.place ≡ Some main.what → has_no_ports main.what ≡ true
    → HasNoRecursion (composite_callers unit) → expanded_main unit main ≡ Ok made → IsComplete unit main made
complete unit main made is ports acyclic e = record { in_order = all.adds.in_order; done = done }
  where
    start : Made
    start = record { ops = []; expansions = main_body main ∷ [] }

    opening : Opened
    opening = record { number = 0; prefix = []; body = main_body main }

    lies : LiesIn (main_body main ∷ []) 0 [] []
    lies = main_lies 0 (main_body main) refl refl

    begins : IsInOrder unit start
    begins = record {
      wired = only main (IsWired unit (main_body main ∷ [])) (wired_main refl ports);
      lies = λ k x at. only main (λ n y. Rattle.expansion_laws.proofs.Growing.IsLying (main_body main ∷ []) n) (record { way = []; prefix = []; lies = lies }) k x at;
      set = λ n o at. absurd cc;
      parted = λ m n o q lt at there. absurd cc;
      apart = λ j l x d lt at there. absurd (let h = one_place main l d there in omega arith);
    }

    ready : IsReady start [] 0
    ready = record {
      ops = λ n o at. absurd cc;
      bodies = λ k x at. only main (λ n y. Rattle.expansion_laws.proofs.Stepping.BodyAhead (main_body main ∷ []) [] 0 n)
          (record { way = []; prefix = []; lies = lies; apart = λ m rest more same. cc }) k x at;
    }

    all : All unit opening [] 0 main.what.graph start made
    all =
        does_all unit acyclic (length (composites unit)) opening [] start made
        record { is_in = is; outer = []; path = tt; deep = omega arith } begins (record { stands = refl; lies = lies }) ready e

    first : slice_get made.expansions 0 ≡ Some (main_body main)
    first = all.adds.bodies 0 (main_body main) refl

    done : (k : ℕ) (x : Inlined) → slice_get made.expansions k ≡ Some x → IsDone unit made k x
    done zero x at n i there =
        let same : main_body main ≡ x = same_Some (main_body main) x (sym first ∙ at) in
        let number : 0 + n ≡ n = omega arith in
        subst (λ (m : ℕ). Comes unit made (site 0 m) i) number (all.come n i (ap (λ (y : Inlined). slice_get y.composite.what.graph n) same ∙ there))
    done (suc k) x at n i there = all.adds.done (suc k) x (omega arith) at n i there
