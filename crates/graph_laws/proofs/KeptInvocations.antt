-- Each invocation in a body is kept, as its operator or its body, where no composite reaches itself.
use Rattle.std.specs.Prelude.{◌≡◌, ◌+◌, ◌==◌, ◌≤◌, ℕ, zero, suc, List, [], ◌∷◌, length, Option, Some, None, Ok, Err, slice_get, if◌then◌else◌, true, false}
use Rattle.std.specs.Option.{option_map, option_and_then}
use Rattle.std.proofs.Common.{refl, sym, ap, ◌∙◌, subst, arith, inl, inr, get_or, eqb-true}
use Rattle.std.proofs.lemmas.Bool.{cases_lt, eqb-false}
use Rattle.std.proofs.lemmas.Option.{same_Some, slice_get_within, slice_get-get_or}
use Rattle.std.proofs.lemmas.List.{length-append}
use Rattle.spl_tree.specs.declared.graph.Expansion.{Expansion}
use Rattle.spl_tree.specs.declared.graph.OpKind.{OpKind}
use Rattle.spl_tree.specs.declared.graph.Site.{Site}
use Rattle.spl_tree.specs.declared.unit.Composite.{Composite}
use Rattle.spl_tree.specs.declared.unit.Definition.{Definition}
use Rattle.spl_tree.specs.declared.unit.Invocation.{Invocation}
use Rattle.spl_tree.specs.Trees.{placed}
use Rattle.language_model.specs.declared.expansion.ExpansionError.TheVariants as E
use Rattle.language_model.specs.Refusals.{named_refusal}
use Rattle.language_model.specs.declared.expansion.Operation.{Operation}
use Rattle.language_model.specs.Composites.{composites}
use Rattle.language_model.specs.Declarations.{first_of}
use Rattle.language_model.specs.Expansion.{Made, Inlined, Opened, Expands, after, operation, inlined, opened_in, expanded_target, expanded_invocation, expanded_graph, expanded, main_body, expanded_main}
use Rattle.language_model.proofs.parts.Expansion.{site_in, with_operation}
use Rattle.language_model.specs.parts.Expansion.{with_expansion, if_grown}
use Rattle.language_model.proofs.parts.Flat.{graph_of}
use Rattle.language_model.specs.FlatLaws.{MakesNone, of_none, one_more, IsKept, as_operator, as_body, without_operators, IsWhole, WholeLaw}
use Rattle.language_model.specs.Invoking.{Target, Operator, Body, Nothing, target_of, undeclared, fits_head}
use Rattle.language_model.specs.Numbering.{expansions_from}
use Rattle.language_model.proofs.parts.Numbering.{op_of, expansion_of}
use Rattle.language_model.specs.Recursion.{HasNoRecursion, calls_among, composite_callers}
use Rattle.language_model.specs.Scopes.{At}
use Rattle.language_model.specs.DollarTargets.{composite_of, invocation_at}
use Rattle.graph_laws.proofs.Flattening.{topo_of, made_of, op_there}
use Rattle.language_model.proofs.Options.{mapped}
use Rattle.graph_laws.proofs.Inlining.{IsIn, Holds, Grows, within_is, found, declared_gives, main_holds}
use Rattle.graph_laws.specs.steps.Paths.{IsPath}
use Rattle.graph_laws.proofs.Nesting.{composites_within, invoked_is_call}
use Rattle.graph_laws.proofs.ExpansionAnswers.{expansion_at}
use Rattle.language_model.proofs.FoundAnswers.{after_gives, same_Ok}
use Rattle.spl_value.proofs.Lists.{append_front, append_last}

-- ---- what stands in what was made

abbrev site : ℕ → ℕ → Site
site k n = record { expansion = k; invocation = n }

-- what becomes of an invocation
data Stays (unit : List Definition) (made : Made) (s : Site) (i : Invocation) : Type 0 where
  is_operator : (kind : OpKind) (n : ℕ) (o : Operation) → target_of unit i.operator.what ≡ Operator kind
      → slice_get made.ops n ≡ Some o → o.site ≡ s → o.kind ≡ kind → Stays unit made s i
  is_body : (c : At Composite) (k : ℕ) (e : Inlined) → target_of unit i.operator.what ≡ Body c
      → slice_get made.expansions k ≡ Some e → e.site ≡ Some s → e.composite ≡ c → Stays unit made s i
  is_nothing : (c : At Composite) → target_of unit i.operator.what ≡ Body c → MakesNone unit c.what.graph → Stays unit made s i

-- each invocation in the body at a number
abbrev IsDone : List Definition → Made → ℕ → Inlined → Type 0
IsDone unit made k e = (n : ℕ) (i : Invocation) → slice_get e.composite.what.graph n ≡ Some i → Stays unit made (site k n) i

-- what was made is kept, and the bodies that came are done
record Adds (unit : List Definition) (before next : Made) : Type 0 where
  pub ops : (n : ℕ) (o : Operation) → slice_get before.ops n ≡ Some o → slice_get next.ops n ≡ Some o
  pub count : length before.ops ≤ length next.ops
  pub bodies : Grows before.expansions next.expansions
  pub done : (k : ℕ) (e : Inlined) → length before.expansions ≤ k → slice_get next.expansions k ≡ Some e → IsDone unit next k e

stays_on : (unit : List Definition) (before next : Made) (s : Site) (i : Invocation) → Adds unit before next → Stays unit before s i → Stays unit next s i
stays_on unit before next s i a (is_operator kind n o target at of_site of_kind) = is_operator kind n o target (a.ops n o at) of_site of_kind
stays_on unit before next s i a (is_body c k e target at of_site is) = is_body c k e target (a.bodies k e at) of_site is
stays_on unit before next s i a (is_nothing c target none) = is_nothing c target none

pub past_end : {A : Type 0} (xs : List A) (k : ℕ) (x : A) → length xs ≤ k → slice_get xs k ≡ Some x → ⊥
past_end xs k x le at = let lt = slice_get_within xs k x at in omega arith

adds_none : (unit : List Definition) (made : Made) → Adds unit made made
adds_none unit made = record {
  ops = λ n o at. at;
  count = omega arith;
  bodies = λ k e at. at;
  done = λ k e le at. absurd (past_end made.expansions k e le at);
}

adds_on : (unit : List Definition) (x y z : Made) → Adds unit x y → Adds unit y z → Adds unit x z
adds_on unit x y z a b = record {
  ops = λ n o at. b.ops n o (a.ops n o at);
  count = omega (arith, a.count, b.count);
  bodies = λ k e at. b.bodies k e (a.bodies k e at);
  done = done;
}
  where
    old : (k : ℕ) (e d : Inlined) → length x.expansions ≤ k → slice_get z.expansions k ≡ Some e → slice_get y.expansions k ≡ Some d → IsDone unit z k e
    old k e d le at was =
        let same : d ≡ e = same_Some d e (sym (b.bodies k d was) ∙ at) in
        subst (IsDone unit z k) same (λ n i there. stays_on unit y z (site k n) i b (a.done k d le was n i there))

    done : (k : ℕ) (e : Inlined) → length x.expansions ≤ k → slice_get z.expansions k ≡ Some e → IsDone unit z k e
    done k e le at = elim (cases_lt k (length y.expansions)) [
      | inl lt ↦ old k e (get_or y.expansions k e) le at (slice_get-get_or y.expansions k e lt)
      | inr ge ↦ b.done k e ge at
    ]

-- ---- what one step makes

-- what comes of an invocation; where it is no operator, none comes of its composite
record One (unit : List Definition) (s : Site) (i : Invocation) (before next : Made) : Type 0 where
  pub adds : Adds unit before next
  pub stays : Stays unit next s i
  pub none : length before.ops ≡ length next.ops → (c : At Composite) × (target_of unit i.operator.what ≡ Body c) × MakesNone unit c.what.graph

-- what comes of the invocations of the body at a number, from one of them on
record All (unit : List Definition) (k number : ℕ) (is : List Invocation) (before next : Made) : Type 0 where
  pub adds : Adds unit before next
  pub stay : (n : ℕ) (i : Invocation) → slice_get is n ≡ Some i → Stays unit next (site k (number + n)) i
  pub none : length before.ops ≡ length next.ops → MakesNone unit is

-- the body is one of the unit's, and there are as many composites as bodies around it and others that nest in it
record IsNested (unit : List Definition) (depth : ℕ) (p : Opened) : Type 0 where
  pub is_in : IsIn unit p.body
  pub outer : List ℕ
  pub path : IsPath (calls_among (composite_callers unit)) p.body.composite.place outer
  pub deep : depth + length outer ≡ length (composites unit)

abbrev DoesAll : List Definition → ℕ → Expands → Type 0
DoesAll unit depth expands = (p : Opened) (before next : Made) → IsNested unit depth p → expands p before ≡ Ok next → All unit p.number 0 p.body.composite.what.graph before next

-- ---- an operator

module _ (unit : List Definition) (s : Site) (i : Invocation) (o : Operation) (before : Made) where
  abbrev longer : Made
  longer = with_operation o before

  count_longer : length longer.ops ≡ length before.ops + 1
  count_longer = length-append before.ops (o ∷ [])

  adds_operator : Adds unit before longer
  adds_operator = record {
    ops = append_front before.ops (o ∷ []);
    count = omega (arith, count_longer);
    bodies = λ k e at. at;
    done = λ k e le at. absurd (past_end before.expansions k e le at);
  }

  one_operator : target_of unit i.operator.what ≡ Operator o.kind → o.site ≡ s → One unit s i before longer
  one_operator target at = record {
    adds = adds_operator;
    stays = is_operator o.kind (length before.ops) o target (append_last before.ops o) at refl;
    none = λ same. absurd (omega (arith, count_longer, same));
  }

-- ---- several invocations

all_from : (unit : List Definition) (k number : ℕ) (i : Invocation) (is : List Invocation) (x y z : Made) → One unit (site k number) i x y → All unit k (suc number) is y z → All unit k number (i ∷ is) x z
all_from unit k number i is x y z first rest = record { adds = adds_on unit x y z first.adds rest.adds; stay = stay; none = none }
  where
    stay : (n : ℕ) (j : Invocation) → slice_get (i ∷ is) n ≡ Some j → Stays unit z (site k (number + n)) j
    stay zero j at =
        let same : i ≡ j = cc in
        let here : number ≡ number + 0 = omega arith in
        subst (λ m. Stays unit z (site k m) j) here (subst (Stays unit z (site k number)) same (stays_on unit y z (site k number) i rest.adds first.stays))
    stay (suc n) j at = let later : suc number + n ≡ number + suc n = omega arith in subst (λ m. Stays unit z (site k m) j) later (rest.stay n j at)

    none : length x.ops ≡ length z.ops → MakesNone unit (i ∷ is)
    none same =
        let one = first.none (omega (arith, same, first.adds.count, rest.adds.count)) in
        one_more i is one.0 one.1 one.2 (rest.none (omega (arith, same, first.adds.count, rest.adds.count)))

-- ---- a composite

-- a body as it is opened by an invocation, and what comes of it
module _ (unit : List Definition) (s : Site) (i : Invocation) (c : At Composite) (target : target_of unit i.operator.what ≡ Body c) (e : Inlined) (is : e.composite ≡ c) (of_site : e.site ≡ Some s)
    (before made : Made) (all : All unit (length before.expansions) 0 c.what.graph (with_expansion e before) made) where
  abbrev opened : Made
  opened = with_expansion e before

  body_there : slice_get made.expansions (length before.expansions) ≡ Some e
  body_there = all.adds.bodies (length before.expansions) e (append_last before.expansions e)

  body_done : IsDone unit made (length before.expansions) e
  body_done n j at =
      let same : 0 + n ≡ n = omega arith in
      let graph : slice_get c.what.graph n ≡ Some j = ap (λ (x : At Composite). slice_get x.what.graph n) (sym is) ∙ at in
      subst (λ m. Stays unit made (site (length before.expansions) m) j) same (all.stay n j graph)

  all_done : (k : ℕ) (x : Inlined) → length before.expansions ≤ k → slice_get made.expansions k ≡ Some x → IsDone unit made k x
  all_done k x le at = elim (cases_lt (length before.expansions) k) [
    | inl lt ↦ all.adds.done k x (omega (arith, length-append before.expansions (e ∷ []))) at
    | inr ge ↦
        let here : length before.expansions ≡ k = omega arith in
        let same : e ≡ x = same_Some e x (sym body_there ∙ ap (slice_get made.expansions) here ∙ at) in
        subst (λ n. IsDone unit made n x) here (subst (IsDone unit made (length before.expansions)) same body_done)
  ]

  one_body : (length before.ops ≡ length made.ops → ⊥) → One unit s i before made
  one_body grew = record {
    adds = record {
      ops = all.adds.ops;
      count = all.adds.count;
      bodies = λ k x at. all.adds.bodies k x (append_front before.expansions (e ∷ []) k x at);
      done = all_done;
    };
    stays = is_body c (length before.expansions) e target body_there of_site is;
    none = λ same. absurd (grew same);
  }

  one_nothing : length before.ops ≡ length made.ops → One unit s i before before
  one_nothing same = record {
    adds = adds_none unit before;
    stays = is_nothing c target (all.none same);
    none = λ again. (c, target, all.none same);
  }

  one_if_grown : (next : Made) → if_grown before made ≡ next → One unit s i before next
  one_if_grown next is_next =
      elim (length before.ops == length made.ops)
      as (λ b. (length before.ops == length made.ops) ≡ b → (if b then before else made) ≡ next → One unit s i before next) [
        | true ↦ λ same n. subst (One unit s i before) n (one_nothing (eqb-true (length before.ops) (length made.ops) same))
        | false ↦ λ other n. subst (One unit s i before) n (one_body (eqb-false (length before.ops) (length made.ops) other))
      ] refl is_next

-- ---- an invocation

module _ (unit : List Definition) (depth : ℕ) (expands : Expands) (does : DoesAll unit depth expands) (p : Opened) (nested : IsNested unit (suc depth) p) where
  nested_in : (number : ℕ) (i : Invocation) (c : At Composite) (made : Made) → slice_get p.body.composite.what.graph number ≡ Some i → target_of unit i.operator.what ≡ Body c
      → IsNested unit depth (opened_in p number i c made)
  nested_in number i c made there target = record {
    is_in = found unit i.operator.what c target;
    outer = p.body.composite.place ∷ nested.outer;
    path = (invoked_is_call unit p.body.composite.place p.body.composite.what number i c nested.is_in there target, nested.path);
    deep = omega (arith, nested.deep);
  }

  one_target : (number : ℕ) (i : Invocation) (before next : Made) → slice_get p.body.composite.what.graph number ≡ Some i
      → (target : Target) → target_of unit i.operator.what ≡ target → expanded_target expands p number i target before ≡ Ok next → One unit (site_in p number) i before next
  one_target number i before next there (Operator kind) is e =
      subst (One unit (site_in p number) i before) (within_is i.at (with_operation (operation before.expansions p number i kind) before) next e)
      (one_operator unit (site_in p number) i (operation before.expansions p number i kind) before is refl)
  one_target number i before next there (Body c) is e =
      elim (fits_head c.what i)
      as (λ b. (if b then after (expands (opened_in p number i c before) (with_expansion (inlined p number c) before)) (λ m. Ok (if_grown before m)) else Err (named_refusal E.Ports (placed i.at i.operator.what))) ≡ Ok next
      → One unit (site_in p number) i before next) [
        | true ↦ λ gives.
            let x = after_gives (expands (opened_in p number i c before) (with_expansion (inlined p number c) before)) (λ m. Ok (if_grown before m)) next gives in
            one_if_grown unit (site_in p number) i c is (inlined p number c) refl refl before x.0
            (does (opened_in p number i c before) (with_expansion (inlined p number c) before) x.0 (nested_in number i c before there is) x.1) next (same_Ok x.2)
        | false ↦ λ refused. absurd cc
      ] e
  one_target number i before next there Nothing is e = absurd cc

  one_invocation : (number : ℕ) (i : Invocation) (before next : Made) → slice_get p.body.composite.what.graph number ≡ Some i
      → expanded_invocation expands unit p number i before ≡ Ok next → One unit (site_in p number) i before next
  one_invocation number i before next there e =
      one_target number i before next there (target_of unit i.operator.what) refl
      (declared_gives (first_of (undeclared unit p.body.composite.what i)) (expanded_target expands p number i (target_of unit i.operator.what) before) next e)

  -- ---- a graph

  all_of : (number : ℕ) (is : List Invocation) (before next : Made)
      → ((j : ℕ) (i : Invocation) → slice_get is j ≡ Some i → slice_get p.body.composite.what.graph (number + j) ≡ Some i)
      → expanded_graph expands unit p number is before ≡ Ok next → All unit p.number number is before next
  all_of number [] before next there e =
      let same : before ≡ next = same_Ok e in
      subst (All unit p.number number [] before) same record { adds = adds_none unit before; stay = λ n i at. absurd cc; none = λ none. of_none }
  all_of number (i ∷ is) before next there e =
      let x = after_gives (expanded_invocation expands unit p number i before) (expanded_graph expands unit p (suc number) is) next e in
      let here : number + 0 ≡ number = omega arith in
      let first = one_invocation number i before x.0 (sym (ap (slice_get p.body.composite.what.graph) here) ∙ there 0 i refl) x.1 in
      let later = λ (j : ℕ) (k : Invocation) (at : slice_get is j ≡ Some k).
      (let same : suc number + j ≡ number + suc j = omega arith in ap (slice_get p.body.composite.what.graph) same ∙ there (suc j) k at) in
      all_from unit p.number number i is before x.0 next first (all_of (suc number) is x.0 next later x.2)

-- a body that is opened has others left that may nest in it
does_all : (unit : List Definition) → HasNoRecursion (composite_callers unit) → (depth : ℕ) → DoesAll unit depth (expanded depth unit)
does_all unit acyclic zero p before next nested e =
    let within = composites_within unit p.body.composite.place nested.outer acyclic (slice_get_within (composites unit) p.body.composite.place p.body.composite.what nested.is_in) nested.path in
    absurd (omega (arith, within, nested.deep))
does_all unit acyclic (suc depth) p before next nested e =
    all_of unit depth (expanded depth unit) (does_all unit acyclic depth) p nested 0 p.body.composite.what.graph before next
    (λ j i is. let same : 0 + j ≡ j = omega arith in ap (slice_get p.body.composite.what.graph) same ∙ is) e

-- ---- the whole

-- the main body is the first, and all bodies are done
record IsFinished (unit : List Definition) (main : At Composite) (made : Made) : Type 0 where
  pub main_first : slice_get made.expansions 0 ≡ Some (main_body main)
  pub done : (k : ℕ) (e : Inlined) → slice_get made.expansions k ≡ Some e → IsDone unit made k e

finished : (unit : List Definition) (main : At Composite) (made : Made) → slice_get (composites unit) main.place ≡ Some main.what → HasNoRecursion (composite_callers unit)
    → expanded_main unit main ≡ Ok made → IsFinished unit main made
finished unit main made is acyclic e = record { main_first = first; done = done }
  where
    start : Made
    start = record { ops = []; expansions = main_body main ∷ [] }

    all : All unit 0 0 main.what.graph start made
    all =
        does_all unit acyclic (length (composites unit)) (record { number = 0; prefix = []; body = main_body main }) start made
        record { is_in = is; outer = []; path = tt; deep = omega arith } e

    first : slice_get made.expansions 0 ≡ Some (main_body main)
    first = all.adds.bodies 0 (main_body main) refl

    done : (k : ℕ) (x : Inlined) → slice_get made.expansions k ≡ Some x → IsDone unit made k x
    done zero x at n i there =
        let same : main_body main ≡ x = same_Some (main_body main) x (sym first ∙ at) in
        let number : 0 + n ≡ n = omega arith in
        subst (λ m. Stays unit made (site 0 m) i) number (all.stay n i (ap (λ (y : Inlined). slice_get y.composite.what.graph n) same ∙ there))
    done (suc k) x at n i there = all.adds.done (suc k) x (omega arith) at n i there

pub then_gives : {A B : Type 0} (f : A → Option B) (o : Option A) (b : B) → option_and_then f o ≡ Some b → (a : A) × (o ≡ Some a) × (f a ≡ Some b)
then_gives f None b e = absurd cc
then_gives f (Some a) b e = (a, refl, e)

expansion_there : (made : Made) (k : ℕ) (e : Inlined) → slice_get made.expansions k ≡ Some e → slice_get (expansions_from made 0 made.expansions) k ≡ Some (expansion_of made (0 + k) e)
expansion_there made k e at = expansion_at made 0 made.expansions k ∙ ap (option_map (expansion_of made (0 + k))) at

kept_in : (unit : List Definition) (made : Made) (topo : List ℕ) (s : Site) (i : Invocation) → Stays unit made s i → IsKept unit (graph_of made topo) s i
kept_in unit made topo s i (is_operator kind n o target at of_site of_kind) = as_operator kind n (op_of made n o) target (op_there made n o at) of_site of_kind
kept_in unit made topo s i (is_body c k e target at of_site is) =
    as_body c k (expansion_of made (0 + k) e) target (expansion_there made k e at) of_site (ap (λ (x : At Composite). x.place) is)
kept_in unit made topo s i (is_nothing c target none) = without_operators c target none

whole : (unit : List Definition) (main : At Composite) (made : Made) (topo : List ℕ) → Holds unit made → IsFinished unit main made → IsWhole unit main (graph_of made topo)
whole unit main made topo h f = record {
  main_body = (expansion_of made 0 (main_body main), expansion_there made 0 (main_body main) f.main_first, refl, refl);
  kept = kept;
}
  where
    kept : (s : Site) (i : Invocation) → invocation_at unit (graph_of made topo).expansions s ≡ Some i → IsKept unit (graph_of made topo) s i
    kept s i at =
        let c = then_gives (λ (c : Composite). slice_get c.graph s.invocation) (option_and_then (composite_of unit) (slice_get (expansions_from made 0 made.expansions) s.expansion)) i at in
        let x = then_gives (composite_of unit) (slice_get (expansions_from made 0 made.expansions) s.expansion) c.0 c.1 in
        let e = mapped (expansion_of made (0 + s.expansion)) (slice_get made.expansions s.expansion) x.0 (sym (expansion_at made 0 made.expansions s.expansion) ∙ x.1) in
        let place : e.0.composite.place ≡ x.0.composite = ap (λ (y : Expansion). y.composite) e.2 in
        let what : e.0.composite.what ≡ c.0 = same_Some e.0.composite.what c.0 (sym (h.bodies s.expansion e.0 e.1) ∙ ap (slice_get (composites unit)) place ∙ x.2) in
        kept_in unit made topo s i (f.done s.expansion e.0 e.1 s.invocation i (ap (λ (y : Composite). slice_get y.graph s.invocation) what ∙ c.2))

pub whole_law : WholeLaw
whole_law unit names main g e is acyclic =
    let m = made_of unit names main g e in
    subst (IsWhole unit main) (sym m.is) (whole unit main m.made (topo_of m.made) (main_holds unit main m.made is m.expanded) (finished unit main m.made is acyclic m.expanded))
