-- The result of a step of a walk, by what it writes.
use Rattle.std.proofs.Common.{◌≡◌, ◌∙◌, ◌⊎◌, inl, inr, refl, sym, ap, subst, ℕ, zero, suc, ◌+◌, ◌-◌, ◌<◌, ◌≤◌, List, [], ◌∷◌, ◌++◌, length, take, Option, Some, None, Ok, Err, codes, arith, length-append, get_or}
use Rattle.std.specs.Prelude.{Bool, true, false, ◌&&◌, ◌==◌, ◌^◌, min, nat_le, nat_lt, MatchOption, if◌then◌else◌, reverse, slice_get, slice_set, sum_by}
use Rattle.std.proofs.lemmas.List.{length-reverse, length-set}
use Rattle.std.proofs.lemmas.List.Sums.{sum_by-append}
use Rattle.spl_tree.specs.declared.expression.Placed.{Placed}
use Rattle.spl_tree.specs.declared.graph.OpKind.{OpKind}
use Rattle.spl_tree.specs.declared.unit.Composite.{Composite}
use Rattle.spl_tree.specs.declared.unit.Definition.{Definition}
use Rattle.spl_tree.specs.declared.unit.Invocation.{Invocation}
use Rattle.spl_tree.specs.Trees.{placed}
use Rattle.language_model.specs.declared.expansion.ExpansionRefusal.{ExpansionRefusal}
use Rattle.language_model.specs.declared.expansion.ExpansionError.TheVariants as E
use Rattle.language_model.specs.Refusals.{named_refusal, unnamed_refusal}
use Rattle.language_model.specs.declared.expansion.Operation.{Operation}
use Rattle.language_model.specs.Composites.{composites}
use Rattle.language_model.specs.Declarations.{first_of}
use Rattle.language_model.specs.Expansion.{Inlined, expanded, expanded_target, expanded_invocation, expanded_main, invocation_name, inlined, opened_in, operation, after}
use Rattle.language_model.proofs.parts.Expansion.{if_declared, with_operation}
use Rattle.language_model.specs.parts.Expansion.{connections_of, is_within, ports_of, if_grown, with_expansion}
use Rattle.language_model.specs.Invoking.{Target, Operator, Body, Nothing, target_of, undeclared, fits_head}
use Rattle.language_model.specs.Recursion.{HasNoRecursion, composite_callers}
use Rattle.language_model.specs.Scopes.{At}
use Rattle.composite_tables.specs.declared.made.Body as M
use Rattle.composite_tables.specs.declared.made.Input.{Input}
use Rattle.composite_expand.specs.declared.walk.Opened.{Opened}
use Rattle.composite_expand.specs.declared.walk.Walk.{Walk}
use Rattle.composite_tables.specs.Inputs.{Shows, AreNested, AreInputs, InputsStand, IsBody}
use Rattle.composite_tables.proofs.Extending.{nested_more, nested_less, stand_more, stand_less, shows_more, shows_less}
use Rattle.graph_laws.proofs.Inlining.{found}
use Rattle.graph_laws.proofs.Nesting.{invoked_is_call}
use Rattle.std.proofs.lemmas.Option.{slice_get_within, slice_get_read}
use Rattle.std.proofs.lemmas.Bool.{eqb-true, lt-leb, le-leb, le-ltb, lt-ltb}
use Rattle.composite_expand.specs.steps.Walking.{Keeps, IsIdle}
use Rattle.composite_expand.specs.steps.Walks.{AreMarks, IsOn, Front, IsFurther, IsNew, IsAt, IsOver, OpensWith, GoesOn, work_left}
use Rattle.composite_expand.proofs.Way.{Holds, front, refused, passed_over, added, ended, back, closed_grown, closed_idle, opened, is_deep}
use Rattle.composite_expand.proofs.Work.{work_closed, work_further, work_opened}
use Rattle.spl_value.proofs.Bools.{and_left as andb_left, and_right as andb_right}
use Rattle.spl_value.proofs.Lists.{reverse_more as reversed}
use Rattle.spl_value.proofs.Results.{ok_weaker}

-- all but the bodies on the way
pub record IsSame (w v : Walk) : Type 0 where
  pub names : v.names.items ≡ w.names.items
  pub idle : v.idle ≡ w.idle
  pub ops : v.ops ≡ w.ops
  pub bodies : v.bodies ≡ w.bodies
  pub inputs : v.inputs ≡ w.inputs
  pub connections : v.connections ≡ w.connections

held : (unit : List Definition) (main : At Composite) (w v : Walk) (o : Opened) (os : List Opened) (at : Front unit main w o os) → IsSame w v → Holds unit v at.made
held unit main w v o os at same = record {
  marks = subst (AreMarks unit) (sym same.idle) at.marks;
  ops = same.ops ∙ at.ops;
  bodies = subst (λ bs. Shows unit bs at.made.expansions) (sym same.bodies) at.bodies;
  nested = at.nested;
  inputs = subst (InputsStand at.made.expansions) (sym same.inputs) at.inputs;
  connections = same.connections ∙ at.connections;
  within = at.within;
}

module _ (unit : List Definition) (main : At Composite) (w : Walk) (o : Opened) (c : Composite) (i : Invocation) (is : IsAt unit main w o c i) where
  abbrev stands : Front unit main w o (reverse w.opened)
  stands = is.at

  pub here : slice_get stands.f.opened.body.composite.what.graph stands.f.next ≡ Some i
  here = ap (λ n. slice_get stands.f.opened.body.composite.what.graph n) (sym stands.of.next) ∙ ap (λ d. slice_get d.graph o.next) is.composite ∙ is.here

  known_there : first_of (undeclared unit c i) ≡ None → first_of (undeclared unit stands.f.opened.body.composite.what i) ≡ None
  known_there known = ap (λ d. first_of (undeclared unit d i)) is.composite ∙ known

  goes_to : (v : Walk) (p : Opened) → v.opened ≡ w.opened ++ p ∷ [] → IsFurther o p → IsOn unit main v (p ∷ reverse w.opened) → GoesOn unit main w o v
  goes_to v p pushed on then_on =
      let way = reversed w.opened v.opened p pushed in
      record {
        on = subst (IsOn unit main v) (sym way) then_on;
        less = subst (λ ps. work_left unit ps < work_left unit (o ∷ reverse w.opened)) (sym way) (work_further unit main w o (reverse w.opened) stands i here p on);
      }

  pub passes : (v : Walk) (p : Opened) (d : At Composite) → first_of (undeclared unit c i) ≡ None → target_of unit i.operator.what ≡ Body d → fits_head d.what i ≡ true
      → IsIdle unit d.what d.what.graph → IsFurther o p → v.opened ≡ w.opened ++ p ∷ [] → IsSame w v → GoesOn unit main w o v
  passes v p d known target fits inner on pushed same =
      goes_to v p pushed on (passed_over unit main w v o p (reverse w.opened) stands i d here (known_there known) target fits inner on same.names
      (held unit main w v o (reverse w.opened) stands same))

  -- ---- refusals

  -- the result of an invocation whose names are declared
  target_is : (t : Target) → first_of (undeclared unit c i) ≡ None → target_of unit i.operator.what ≡ t
      → expanded_invocation (expanded stands.depth unit) unit stands.f.opened stands.f.next i stands.made ≡ expanded_target (expanded stands.depth unit) stands.f.opened stands.f.next i t stands.made
  target_is t known target =
      ap (λ n. if_declared n (expanded_target (expanded stands.depth unit) stands.f.opened stands.f.next i (target_of unit i.operator.what) stands.made)) (known_there known)
      ∙ ap (λ t. expanded_target (expanded stands.depth unit) stands.f.opened stands.f.next i t stands.made) target

  refuse : (r : ExpansionRefusal) → expanded_invocation (expanded stands.depth unit) unit stands.f.opened stands.f.next i stands.made ≡ Err r → expanded_main unit main ≡ Err r
  refuse r e = refused unit main w o (reverse w.opened) stands i r here e

  pub undeclared_refused : (n : Placed (List ℕ)) → first_of (undeclared unit c i) ≡ Some n → expanded_main unit main ≡ Err (named_refusal E.Unknown n)
  undeclared_refused n found =
      refuse (named_refusal E.Unknown n) (ap (λ m. if_declared m (expanded_target (expanded stands.depth unit) stands.f.opened stands.f.next i (target_of unit i.operator.what) stands.made))
      (ap (λ d. first_of (undeclared unit d i)) is.composite ∙ found))

  pub nothing_refused : first_of (undeclared unit c i) ≡ None → target_of unit i.operator.what ≡ Nothing → expanded_main unit main ≡ Err (named_refusal E.Unknown i.operator)
  nothing_refused known target = refuse (named_refusal E.Unknown i.operator) (target_is Nothing known target)

  pub ports_refused : (d : At Composite) → first_of (undeclared unit c i) ≡ None → target_of unit i.operator.what ≡ Body d → fits_head d.what i ≡ false
      → expanded_main unit main ≡ Err (named_refusal E.Ports (placed i.at i.operator.what))
  ports_refused d known target fits =
      refuse (named_refusal E.Ports (placed i.at i.operator.what)) (target_is (Body d) known target
      ∙ ap (λ b. if b then after (expanded stands.depth unit (opened_in stands.f.opened stands.f.next i d stands.made) (with_expansion (inlined stands.f.opened stands.f.next d) stands.made)) (λ m. Ok (if_grown stands.made m))
      else Err (named_refusal E.Ports (placed i.at i.operator.what))) fits)

  -- ---- operators

  -- the operator of the invocation
  abbrev pub made_operation : OpKind → Operation
  made_operation kind = operation stands.made.expansions stands.f.opened stands.f.next i kind

  pub too_many_refused : (kind : OpKind) → first_of (undeclared unit c i) ≡ None → target_of unit i.operator.what ≡ Operator kind
      → is_within (stands.made.ops ++ made_operation kind ∷ []) ≡ false → expanded_main unit main ≡ Err (unnamed_refusal E.TooMany i.at)
  too_many_refused kind known target past =
      refuse (unnamed_refusal E.TooMany i.at) (target_is (Operator kind) known target
      ∙ ap (λ b. if b then Ok (with_operation (made_operation kind) stands.made) else Err (unnamed_refusal E.TooMany i.at)) past)

  sum_snoc : (ops : List Operation) (op : Operation) → sum_by connections_of (ops ++ op ∷ []) ≡ sum_by connections_of ops + connections_of op
  sum_snoc ops op = let h = sum_by-append connections_of ops (op ∷ []) in omega (arith, h)

  pub operator_added : (v : Walk) (p : Opened) (kind : OpKind) → first_of (undeclared unit c i) ≡ None → target_of unit i.operator.what ≡ Operator kind
      → is_within (stands.made.ops ++ made_operation kind ∷ []) ≡ true → IsFurther o p → v.opened ≡ w.opened ++ p ∷ [] → v.names.items ≡ w.names.items → v.idle ≡ w.idle
      → v.ops ≡ w.ops ++ made_operation kind ∷ [] → v.bodies ≡ w.bodies → v.inputs ≡ w.inputs → v.connections ≡ w.connections + connections_of (made_operation kind)
      → GoesOn unit main w o v
  operator_added v p kind known target within on pushed names idle ops bodies inputs connections =
      goes_to v p pushed on (added unit main w v o p (reverse w.opened) stands i (made_operation kind) here
      (target_is (Operator kind) known target ∙ ap (λ b. if b then Ok (with_operation (made_operation kind) stands.made) else Err (unnamed_refusal E.TooMany i.at)) within)
      on names record {
        marks = subst (AreMarks unit) (sym idle) stands.marks;
        ops = ops ∙ ap (λ xs. xs ++ made_operation kind ∷ []) stands.ops;
        bodies = subst (λ bs. Shows unit bs stands.made.expansions) (sym bodies) stands.bodies;
        nested = stands.nested;
        inputs = subst (InputsStand stands.made.expansions) (sym inputs) stands.inputs;
        connections = connections ∙ ap (λ n. n + connections_of (made_operation kind)) stands.connections ∙ sym (sum_snoc stands.made.ops (made_operation kind));
        within = within;
      })

  -- ---- composites

  pub body_opened : (v : Walk) (p q : Opened) (d : At Composite) (b : M.Body) (row : List Input) → HasNoRecursion (composite_callers unit)
      → first_of (undeclared unit c i) ≡ None → target_of unit i.operator.what ≡ Body d → fits_head d.what i ≡ true
      → IsFurther o p → q.composite ≡ d.place → q.number ≡ length w.bodies → q.next ≡ 0 → q.prefix ≡ length v.names.items → q.ops ≡ length w.ops
      → v.opened ≡ (w.opened ++ p ∷ []) ++ q ∷ [] → v.names.items ≡ take o.prefix w.names.items ++ invocation_name i ++ codes "." → v.idle ≡ w.idle → v.ops ≡ w.ops
      → b.composite ≡ d.place → b.site ≡ Some (record { expansion = o.number; invocation = o.next }) → v.bodies ≡ w.bodies ++ b ∷ []
      → v.inputs ≡ w.inputs ++ row ∷ []
      → OpensWith stands.made.expansions o d row
      → v.connections ≡ w.connections → GoesOn unit main w o v
  body_opened v p q d b row none known target fits on q_composite q_number q_next q_prefix q_ops pushed names idle ops b_composite b_site bodies inputs row_stands connections =
      let deep = is_deep unit main w o (reverse w.opened) stands i d none here target in
      let there : slice_get (composites unit) d.place ≡ Some d.what = found unit i.operator.what d target in
      let f_place : slice_get (composites unit) stands.f.opened.body.composite.place ≡ Some stands.f.opened.body.composite.what =
      ap (slice_get (composites unit)) (sym stands.of.place) ∙ stands.of.composite in
      let call = invoked_is_call unit stands.f.opened.body.composite.place stands.f.opened.body.composite.what stands.f.next i d f_place here target in
      let y : Inlined = inlined stands.f.opened stands.f.next d in
      let way : reverse v.opened ≡ q ∷ p ∷ reverse w.opened =
      reversed (w.opened ++ p ∷ []) v.opened q pushed ∙ ap (λ ps. q ∷ ps) (reversed w.opened (w.opened ++ p ∷ []) p refl) in
      let new : IsNew q stands.made d v.names.items = record {
        composite = q_composite;
        number = q_number ∙ stands.bodies.count;
        next = q_next;
        prefix = q_prefix;
        ops = q_ops ∙ ap length stands.ops;
      } in
      let site : b.site ≡ y.site = b_site ∙ ap (λ n. Some (record { expansion = n; invocation = o.next })) stands.of.number
      ∙ ap (λ n. Some (record { expansion = stands.f.opened.number; invocation = n })) stands.of.next in
      let later : stands.f.opened.number < length stands.made.expansions = slice_get_within stands.made.expansions stands.f.opened.number stands.f.opened.body stands.there in
      let nested : AreNested (stands.made.expansions ++ y ∷ []) = nested_more stands.made.expansions y stands.nested later in
      record {
        on = subst (IsOn unit main v) (sym way) (opened unit main w v o p q (reverse w.opened) stands i d here (known_there known) target fits there call deep on new names record {
          marks = subst (AreMarks unit) (sym idle) stands.marks;
          ops = ops ∙ stands.ops;
          bodies = subst (λ bs. Shows unit bs (stands.made.expansions ++ y ∷ [])) (sym bodies)
              (shows_more unit w.bodies b stands.made.expansions y stands.bodies record { place = b_composite; composite = ap (slice_get (composites unit)) b_composite ∙ there; site = site });
          nested = nested;
          inputs = subst (InputsStand (stands.made.expansions ++ y ∷ [])) (sym inputs)
              (stand_more stands.made.expansions y w.inputs row nested stands.inputs (row_stands y (sym site ∙ b_site) refl));
          connections = connections ∙ stands.connections;
          within = stands.within;
        });
        less = subst (λ ps. work_left unit ps < work_left unit (o ∷ reverse w.opened)) (sym way)
            (work_opened unit main w o (reverse w.opened) stands i here p on q d v.names.items new target there deep);
      }

-- ---- the end of a body

no_reverse : {A : Type 0} (xs : List A) → reverse xs ≡ [] → xs ≡ []
no_reverse [] is = refl
no_reverse (x ∷ xs) is =
    let same : length (reverse (x ∷ xs)) ≡ suc (length xs) = length-reverse (x ∷ xs) in
    let none : length (reverse (x ∷ xs)) ≡ 0 = ap length is in
    absurd (omega (arith, same, none))

-- what is marked was marked before, or is it now
marked_now : (marks : List Bool) (i k : ℕ) → slice_get (slice_set marks i true) k ≡ Some true → (k ≡ i) ⊎ (slice_get marks k ≡ Some true)
marked_now [] i k is = inr is
marked_now (m ∷ ms) zero zero is = inl refl
marked_now (m ∷ ms) zero (suc k) is = inr is
marked_now (m ∷ ms) (suc i) zero is = inr is
marked_now (m ∷ ms) (suc i) (suc k) is = elim (marked_now ms i k is) [ inl same ↦ inl (ap suc same) | inr old ↦ inr old ]

marks_more : (unit : List Definition) (marks : List Bool) (place : ℕ) (c : Composite) → slice_get (composites unit) place ≡ Some c → IsIdle unit c c.graph → AreMarks unit marks
    → AreMarks unit (slice_set marks place true)
marks_more unit marks place c there idle are = record {
  count = length-set marks place true ∙ are.count;
  each = λ k d marked at_k.
      elim (marked_now marks place k marked) [
        | inl same ↦
            let both : Some d ≡ Some c = sym at_k ∙ ap (slice_get (composites unit)) same ∙ there in
            let is : d ≡ c = cc in
            subst (λ e. IsIdle unit e e.graph) (sym is) idle
        | inr old ↦ are.each k d old at_k
      ];
}

module _ (unit : List Definition) (main : At Composite) (w v : Walk) (o : Opened) where
  main_over : (os : List Opened) → os ≡ [] → (at : Front unit main w o os) → slice_get at.f.opened.body.composite.what.graph at.f.next ≡ None → IsSame w v → IsOn unit main v []
  main_over [] none at over same =
      let goal = ended unit main w o at over in
      let holds = held unit main w v o [] at same in
      record {
        frames = [];
        made = at.made;
        depth = length (composites unit);
        goal = goal;
        room = omega arith;
        tracks = tt;
        path = tt;
        keeps = Keeps.none at.made;
        waits = tt;
        there = tt;
        marks = holds.marks;
        ops = holds.ops;
        bodies = holds.bodies;
        nested = holds.nested;
        inputs = holds.inputs;
        connections = holds.connections;
        within = holds.within;
      }
  main_over (p ∷ os) none at over same = absurd cc

  grown_over : (os : List Opened) → (os ≡ [] → ⊥) → (at : Front unit main w o os) → slice_get at.f.opened.body.composite.what.graph at.f.next ≡ None
      → (o.ops ≡ length w.ops → ⊥) → IsSame w v → IsOn unit main v os
  grown_over [] inside at over grown same = absurd (inside refl)
  grown_over (p ∷ os) inside at over grown same =
      let b = back unit main w o p os at over in
      closed_grown unit main w v o p os at.made b (λ is. grown (b.of.ops ∙ is ∙ sym (ap length at.ops))) same.names (held unit main w v o (p ∷ os) at same)

  idle_over : (os : List Opened) → (os ≡ [] → ⊥) → (at : Front unit main w o os) → slice_get at.f.opened.body.composite.what.graph at.f.next ≡ None
      → (b : M.Body) (row : List Input) → o.ops ≡ length w.ops → v.names.items ≡ w.names.items → v.idle ≡ slice_set w.idle o.composite true → v.ops ≡ w.ops
      → w.bodies ≡ v.bodies ++ b ∷ [] → w.inputs ≡ v.inputs ++ row ∷ [] → v.connections ≡ w.connections → IsOn unit main v os
  idle_over [] inside at over b row none names idle ops bodies inputs connections = absurd (inside refl)
  idle_over (p ∷ os) inside at over b row none names idle ops bodies inputs connections =
      let k = back unit main w o p os at over in
      let same : length k.f.before.ops ≡ length at.made.ops = sym k.of.ops ∙ none ∙ ap length at.ops in
      let was : at.made ≡ with_expansion k.f.opened.body k.f.before = k.same same in
      let makes_none : IsIdle unit k.f.opened.body.composite.what k.f.opened.body.composite.what.graph = subst (IsIdle unit k.f.opened.body.composite.what) k.whole (k.idle_so_far same) in
      let x : Inlined = k.f.opened.body in
      let nested : AreNested (k.f.before.expansions ++ x ∷ []) = subst (λ m. AreNested m.expansions) was at.nested in
      closed_idle unit main w v o p os at.made k same names record {
        marks = subst (AreMarks unit) (sym idle) (marks_more unit w.idle o.composite k.f.opened.body.composite.what k.of.composite makes_none at.marks);
        ops = ops ∙ at.ops ∙ ap (λ m. m.ops) was;
        bodies = shows_less unit v.bodies b k.f.before.expansions x (subst (λ bs. Shows unit bs (k.f.before.expansions ++ x ∷ [])) bodies
            (subst (λ m. Shows unit w.bodies m.expansions) was at.bodies));
        nested = nested_less k.f.before.expansions x nested;
        inputs = stand_less k.f.before.expansions x v.inputs row nested (subst (InputsStand (k.f.before.expansions ++ x ∷ [])) inputs
            (subst (λ m. InputsStand m.expansions w.inputs) was at.inputs));
        connections = connections ∙ at.connections ∙ ap (λ m. sum_by connections_of m.ops) was;
        within = subst (λ m. is_within m.ops ≡ true) was at.within;
      }

module _ (unit : List Definition) (main : At Composite) (w v : Walk) (o : Opened) (c : Composite) (is : IsOver unit main w o c) where
  abbrev ending : Front unit main w o (reverse w.opened)
  ending = is.at

  graph_over : slice_get ending.f.opened.body.composite.what.graph ending.f.next ≡ None
  graph_over = ap (λ n. slice_get ending.f.opened.body.composite.what.graph n) (sym ending.of.next) ∙ ap (λ d. slice_get d.graph o.next) is.composite ∙ is.over

  ends_in : (os : List Opened) → reverse w.opened ≡ os → v.opened ≡ w.opened → IsOn unit main v os → GoesOn unit main w o v
  ends_in os way same stands =
      let now : reverse v.opened ≡ os = ap reverse same ∙ way in
      record {
        on = subst (IsOn unit main v) (sym now) stands;
        less = subst (λ ps. work_left unit ps < work_left unit (o ∷ reverse w.opened)) (way ∙ sym now) (work_closed unit main w o (reverse w.opened) ending);
      }

  -- the main body ends
  pub main_ends : IsSame w v → v.opened ≡ w.opened → w.opened ≡ [] → GoesOn unit main w o v
  main_ends same opened none =
      let way : reverse w.opened ≡ [] = ap reverse none in
      ends_in [] way opened (main_over unit main w v o (reverse w.opened) way ending graph_over same)

  -- a body ends that made operators
  pub grown_ends : IsSame w v → v.opened ≡ w.opened → (w.opened ≡ [] → ⊥) → (o.ops ≡ length w.ops → ⊥) → GoesOn unit main w o v
  grown_ends same opened inside grown =
      ends_in (reverse w.opened) refl opened (grown_over unit main w v o (reverse w.opened) (λ none. inside (no_reverse w.opened none)) ending graph_over grown same)

  -- a body ends that made none
  pub idle_ends : (b : M.Body) (row : List Input) → v.opened ≡ w.opened → (w.opened ≡ [] → ⊥) → o.ops ≡ length w.ops → v.names.items ≡ w.names.items
      → v.idle ≡ slice_set w.idle o.composite true → v.ops ≡ w.ops → w.bodies ≡ v.bodies ++ b ∷ [] → w.inputs ≡ v.inputs ++ row ∷ [] → v.connections ≡ w.connections
      → GoesOn unit main w o v
  idle_ends b row opened inside none names idle ops bodies inputs connections =
      ends_in (reverse w.opened) refl opened (idle_over unit main w v o (reverse w.opened) (λ empty. inside (no_reverse w.opened empty)) ending graph_over b row none names idle ops
      bodies inputs connections)

-- ---- the end, by what is popped

no_bodies : (unit : List Definition) (main : At Composite) (w : Walk) (o : Opened) (c : Composite) → IsOver unit main w o c → {A : Type 0} (xs : List A) → length xs ≡ length w.bodies → xs ≡ [] → ⊥
no_bodies unit main w o c is xs same none =
    let there = slice_get_within is.at.made.expansions is.at.f.opened.number is.at.f.opened.body is.at.there in
    let count : length w.bodies ≡ length is.at.made.expansions = is.at.bodies.count in
    let zero_long : length xs ≡ 0 = ap length none in
    omega (arith, there, count, same, zero_long)

pub idle_popped : (unit : List Definition) (main : At Composite) (w v : Walk) (o : Opened) (c : Composite) (is : IsOver unit main w o c) (b : Option M.Body) (row : Option (List Input))
    → v.opened ≡ w.opened → (w.opened ≡ [] → ⊥) → o.ops ≡ length w.ops → v.names.items ≡ w.names.items → v.idle ≡ slice_set w.idle o.composite true → v.ops ≡ w.ops
    → MatchOption b ((w.bodies ≡ []) × (v.bodies ≡ [])) (λ x. w.bodies ≡ v.bodies ++ x ∷ [])
    → MatchOption row ((w.inputs ≡ []) × (v.inputs ≡ [])) (λ x. w.inputs ≡ v.inputs ++ x ∷ []) → v.connections ≡ w.connections → GoesOn unit main w o v
idle_popped unit main w v o c is None row opened inside none names idle ops bodies inputs connections =
    absurd (no_bodies unit main w o c is w.bodies refl bodies.0)
idle_popped unit main w v o c is (Some b) None opened inside none names idle ops bodies inputs connections =
    absurd (no_bodies unit main w o c is w.inputs (is.at.inputs.count ∙ sym is.at.bodies.count) inputs.0)
idle_popped unit main w v o c is (Some b) (Some row) opened inside none names idle ops bodies inputs connections =
    idle_ends unit main w v o c is b row opened inside none names idle ops bodies inputs connections

pub ends_without : (unit : List Definition) (main : At Composite) (w v : Walk) (o : Opened) (c : Composite) (is : IsOver unit main w o c) → IsSame w v → v.opened ≡ w.opened
    → (w.opened ≡ []) ⊎ (o.ops ≡ length w.ops → ⊥) → GoesOn unit main w o v
ends_without unit main w v o c is same opened (inl none) = main_ends unit main w v o c is same opened none
ends_without unit main w v o c is same opened (inr grown) =
    elim (nil_or w.opened) [ inl none ↦ main_ends unit main w v o c is same opened none | inr inside ↦ grown_ends unit main w v o c is same opened inside grown ]
  where
    nil_or : {A : Type 0} (xs : List A) → (xs ≡ []) ⊎ (xs ≡ [] → ⊥)
    nil_or [] = inl refl
    nil_or (x ∷ xs) = inr (λ is. absurd cc)

pub same_walk : (w : Walk) (os : List Opened) → IsSame w (record w { opened = os })
same_walk w os = record { names = refl; idle = refl; ops = refl; bodies = refl; inputs = refl; connections = refl }

-- ---- the inputs of a body that is opened

fits_inputs : (d : Composite) (i : Invocation) → fits_head d i ≡ true → length d.inputs ≡ length i.inputs
fits_inputs d i fits =
    let first : ((length i.outputs == length d.outputs) && (length i.inputs == length d.inputs)) ≡ true = andb_left _ _ (andb_left _ _ (andb_left _ _ fits)) in
    sym (eqb-true (length i.inputs) (length d.inputs) (andb_right _ _ first))

-- the body in which an invocation stands, as the inputs of the one that it opens need it
pub row_of : (unit : List Definition) (main : At Composite) (w : Walk) (o : Opened) (c : Composite) (i : Invocation) (is : IsAt unit main w o c i) (row : List Input)
    → slice_get w.inputs o.number ≡ Some row → IsBody is.at.made.expansions o.number c row
row_of unit main w o c i is row there =
    let here : slice_get is.at.made.expansions o.number ≡ Some is.at.f.opened.body = ap (slice_get is.at.made.expansions) is.at.of.number ∙ is.at.there in
    record {
      body = is.at.f.opened.body;
      here = here;
      composite = is.composite;
      inputs = is.at.inputs.each o.number is.at.f.opened.body row here there;
      nested = is.at.nested;
    }

pub inputs_stand : (unit : List Definition) (main : At Composite) (w : Walk) (o : Opened) (c : Composite) (i : Invocation) (is : IsAt unit main w o c i) (row inputs : List Input)
    → slice_get w.inputs o.number ≡ Some row → (d : At Composite) → fits_head d.what i ≡ true
    → ((xs : List Inlined) → IsBody xs o.number c row → slice_get c.graph o.next ≡ Some i → (y : Inlined) → y.site ≡ Some (record { expansion = o.number; invocation = o.next })
    → length y.composite.what.inputs ≡ length i.inputs → AreInputs (xs ++ y ∷ []) (length xs) y inputs)
    → OpensWith is.at.made.expansions o d inputs
inputs_stand unit main w o c i is row inputs there d fits gives y at_site of =
    gives is.at.made.expansions (row_of unit main w o c i is row there) is.here y at_site
    (ap (λ (e : At Composite). length e.what.inputs) of ∙ fits_inputs d.what i fits)

pub row_there : (rows read : List (List Input)) (n : ℕ) (row seen : List Input) → read ≡ rows → n < length rows → row ≡ get_or read n row → seen ≡ row → slice_get rows n ≡ Some seen
row_there rows read n row seen same within at is =
    slice_get_read rows (length rows) n seen refl within (is ∙ at ∙ ap (λ xs. get_or xs n row) same ∙ default rows n row seen within)
  where
    default : (xs : List (List Input)) (n : ℕ) (d e : List Input) → n < length xs → get_or xs n d ≡ get_or xs n e
    default [] n d e less = absurd (omega (arith, less))
    default (x ∷ xs) zero d e less = refl
    default (x ∷ xs) (suc n) d e less = default xs n d e (omega (arith, less))

-- ---- how many operators and connections there are

not_within : (ops : List Operation) → (256 < length ops) ⊎ (2 ^ 30 ≤ sum_by connections_of ops) → is_within ops ≡ false
not_within ops (inl more) = ap (λ b. b && nat_lt (sum_by connections_of ops) (2 ^ 30)) (lt-leb (length ops) 256 more)
not_within ops (inr more) = ap (λ b. nat_le (length ops) 256 && b) (le-ltb (sum_by connections_of ops) (2 ^ 30) more) ∙ and_false (nat_le (length ops) 256)
  where
    and_false : (b : Bool) → (b && false) ≡ false
    and_false true = refl
    and_false false = refl

within_both : (ops : List Operation) → length ops ≤ 256 → sum_by connections_of ops < 2 ^ 30 → is_within ops ≡ true
within_both ops few less = ap (λ b. b && nat_lt (sum_by connections_of ops) (2 ^ 30)) (le-leb (length ops) 256 few) ∙ lt-ltb (sum_by connections_of ops) (2 ^ 30) less

module _ (unit : List Definition) (main : At Composite) (w : Walk) (o : Opened) (c : Composite) (i : Invocation) (is : IsAt unit main w o c i) (kind : OpKind)
    (known : first_of (undeclared unit c i) ≡ None) (target : target_of unit i.operator.what ≡ Operator kind) (count total : ℕ)
    (counted : count ≡ min (sum_by length (ports_of is.at.made.expansions o.number i)) (2 ^ 30)) (added_up : total ≡ min (w.connections + count) (2 ^ 32 - 1)) where
  abbrev op : Operation
  op = operation is.at.made.expansions is.at.f.opened is.at.f.next i kind

  own_count : connections_of op ≡ sum_by length (ports_of is.at.made.expansions o.number i)
  own_count = ap (λ n. sum_by length (ports_of is.at.made.expansions n i)) (sym is.at.of.number)

  all_count : sum_by connections_of (is.at.made.ops ++ op ∷ []) ≡ w.connections + sum_by length (ports_of is.at.made.expansions o.number i)
  all_count =
      let sum = sum_by-append connections_of is.at.made.ops (op ∷ []) in
      let own = own_count in
      let before = is.at.connections in
      omega (arith, sum, own, before)

  long : length (is.at.made.ops ++ op ∷ []) ≡ suc (length w.ops)
  long = let h = length-append is.at.made.ops (op ∷ []) in let same : length w.ops ≡ length is.at.made.ops = ap length is.at.ops in omega (arith, h, same)

  pub past_limit : (256 ≤ length w.ops) ⊎ (2 ^ 30 ≤ total) → expanded_main unit main ≡ Err (unnamed_refusal E.TooMany i.at)
  past_limit limit =
      too_many_refused unit main w o c i is kind known target (not_within (is.at.made.ops ++ op ∷ [])
      (elim limit [
        | inl more ↦ inl (let h = long in omega (arith, h, more))
        | inr more ↦ inr (let h = all_count in omega (arith, h, more, counted, added_up))
      ]))

  pub within_limit : (made : Operation) (v : Walk) (p : Opened) → made ≡ op → length w.ops < 256 → total < 2 ^ 30 → IsFurther o p → v.opened ≡ w.opened ++ p ∷ []
      → v.names.items ≡ w.names.items → v.idle ≡ w.idle → v.ops ≡ w.ops ++ made ∷ [] → v.bodies ≡ w.bodies → v.inputs ≡ w.inputs → v.connections ≡ total → GoesOn unit main w o v
  within_limit made v p same few less on pushed names idle ops bodies inputs connections =
      let h = all_count in
      let l = long in
      let own = own_count in
      operator_added unit main w o c i is v p kind known target
      (within_both (is.at.made.ops ++ op ∷ []) (omega (arith, l, few)) (omega (arith, h, less, counted, added_up))) on pushed names idle
      (ops ∙ ap (λ m. w.ops ++ m ∷ []) same) bodies inputs (omega (arith, connections, counted, added_up, less, own))

-- ---- from where a walk stands

module _ (unit : List Definition) (main : At Composite) (w : Walk) (o : Opened) (on : IsOn unit main w (o ∷ reverse w.opened)) where
  abbrev now : Front unit main w o (reverse w.opened)
  now = front unit main w o (reverse w.opened) on

  its_composite : (c : Composite) → slice_get (composites unit) o.composite ≡ Some c → now.f.opened.body.composite.what ≡ c
  its_composite c there = let both : Some now.f.opened.body.composite.what ≡ Some c = sym now.of.composite ∙ there in cc

  pub at_invocation : (c : Composite) (i : Invocation) → slice_get (composites unit) o.composite ≡ Some c → slice_get c.graph o.next ≡ Some i → IsAt unit main w o c i
  at_invocation c i there here = record { at = now; composite = its_composite c there; here = here }

  pub at_end : (c : Composite) → slice_get (composites unit) o.composite ≡ Some c → slice_get c.graph o.next ≡ None → IsOver unit main w o c
  at_end c there over = record { at = now; composite = its_composite c there; over = over }

  pub has_composite : slice_get (composites unit) o.composite ≡ None → ⊥
  has_composite none = let both : Some now.f.opened.body.composite.what ≡ None = sym now.of.composite ∙ none in absurd cc

  pub composite_within : o.composite < length w.idle
  composite_within =
      let h = slice_get_within (composites unit) o.composite now.f.opened.body.composite.what now.of.composite in
      let count = now.marks.count in
      omega (arith, h, count)

  pub number_within : o.number < length w.inputs
  number_within =
      let h = slice_get_within now.made.expansions now.f.opened.number now.f.opened.body now.there in
      let count = now.inputs.count in
      let same = now.of.number in
      omega (arith, h, count, same)

  pub prefix_within : o.prefix ≤ length w.names.items
  prefix_within = now.of.within

-- a composite that is marked makes no operator
pub marked : (unit : List Definition) (main : At Composite) (w : Walk) (o : Opened) (c : Composite) (i : Invocation) (is : IsAt unit main w o c i) (d : At Composite)
    → target_of unit i.operator.what ≡ Body d → slice_get w.idle d.place ≡ Some true → IsIdle unit d.what d.what.graph
marked unit main w o c i is d target mark = is.at.marks.each d.place d.what mark (found unit i.operator.what d target)
