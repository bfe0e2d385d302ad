-- Of which types the values are that codes which fit come to.
use Rattle.std.specs.Prelude.{◌≡◌, ◌+◌, ◌==◌, ℕ, zero, suc, IsTrue, cond, List, [], ◌∷◌, length, None, Some}
use Rattle.std.specs.List.{count_by}
use Rattle.std.specs.Option.{option_map, option_and_then}
use Rattle.std.specs.Cmp.{second_so}
use Rattle.std.specs.Cmp.Derive.{both_true}
use Rattle.std.specs.Cmp.Lexicographic.{pointwise}
use Rattle.std.proofs.Common.{refl, sym, ap, ◌∙◌, subst, arith}
use Rattle.std.proofs.lemmas.List.Recursion.{is_count_by}
use Rattle.spl_value.specs.declared.types.Named.{Named}
use Rattle.spl_value.specs.declared.types.SplType.{SplType}
use Rattle.spl_value.specs.declared.types.SplType.TheVariants as S
use Rattle.spl_value.specs.declared.value.Value.{Value}
use Rattle.spl_value.specs.declared.value.Value.TheVariants as V
use Rattle.spl_value.specs.declared.value.Value.TheViews.{out-Value}
use Rattle.spl_value.proofs.FitsLaws.{fits_tuple, tuple_from_fits}
use Rattle.spl_value.specs.Values.{fits, tuple_fits}
use Rattle.spl_tree.specs.declared.code.Code.{Code}
use Rattle.spl_tree.specs.declared.code.Code.TheVariants as C
use Rattle.spl_tree.specs.declared.code.BinaryCode.{BinaryCode}
use Rattle.spl_tree.specs.declared.code.BinaryCode.TheVariants as D
use Rattle.spl_tree.specs.declared.code.BuiltIn.{BuiltIn}
use Rattle.spl_tree.specs.declared.code.UnaryCode.{UnaryCode}
use Rattle.spl_tree.specs.declared.body.Function.{Function}
use Rattle.spl_tree.specs.declared.code.Slot.{Slot}
use Rattle.spl_tree.specs.declared.code.Selector.{Selector}
use Rattle.language_model.specs.declared.env.Env.{Env}
use Rattle.language_model.specs.declared.scope.Scope.{Scope}
use Rattle.language_model.specs.CodeFits as F
use Rattle.language_model.specs.CodeFits.{CodeFits, ArgumentsFit, StepsLead, OneEach}
use Rattle.language_model.specs.Evaluation.{Calls, World, code_value, world_of, taken, field_at, tuple_from, tuple_of}
use Rattle.language_model.specs.parts.Functions.{calls_of}
use Rattle.language_model.specs.EvaluationLaws.{values_of, field_values, taking_meaning, takings_value, literal_is, select_is, tuple_is}
use Rattle.language_model.specs.Statements.{level_tuple}
use Rattle.language_model.specs.Outcomes.{Done, followed, need}
use Rattle.language_model.specs.ValueLaws.{NeverStuckLaw}
use Rattle.language_model.specs.WorldFits.{EnvFits, FunctionsFit, Fits, ComesTo}
use Rattle.value_operations.specs.Fitting.{FitBinary, FitsUnaries, FitBuiltIn}
use Rattle.expr_eval.specs.Fitting.{IsFit, FitCall, FitTakings}
use Rattle.expr_eval.proofs.Placing.{HaveEachPlace, how_often}
use Rattle.expr_eval.proofs.CodeParts.{select_parts, unary_parts, binary_parts, tuple_parts, built_in_parts, call_parts}
use Rattle.language_model.proofs.Returning.{done_followed}

-- ---- the fields of a tuple

counts : {A : Type 0} (i : ℕ) (fs : List (ℕ × A)) → how_often i fs ≡ count_by (λ (f : ℕ × A). f.0 == i) fs
unfolding how_often
counts {A} i fs = is_count_by (λ (fs : List (ℕ × A)). how_often i fs) (λ (f : ℕ × A). f.0 == i) refl (λ f fs. refl) fs

tuple_length : (i n : ℕ) (fs : List (ℕ × Value)) (vs : List Value) → tuple_from i n fs ≡ Some vs → length vs ≡ n
tuple_length i zero fs vs e = let s : [] ≡ vs = cc in sym (ap length s)
tuple_length i (suc n) fs vs e =
    elim (field_at i fs) as (λ o. option_and_then (λ v. option_map (λ vs. v ∷ vs) (tuple_from (suc i) n fs)) o ≡ Some vs → length vs ≡ suc n) [
      | None ↦ λ e. absurd cc
      | Some v ↦ λ e. elim (tuple_from (suc i) n fs) as (λ o. tuple_from (suc i) n fs ≡ o → option_map (λ vs. v ∷ vs) o ≡ Some vs → length vs ≡ suc n) [
        | None ↦ λ is e. absurd cc
        | Some us ↦ λ is e. let s : v ∷ us ≡ vs = cc in sym (ap length s) ∙ ap suc (tuple_length (suc i) n fs us is)
      ] refl e
    ] e

fits_length : (schema : List (Named SplType)) (vs : List Value) → IsTrue (tuple_fits schema vs) → length vs ≡ length schema
fits_length [] [] h = refl
fits_length [] (v ∷ vs) h = absurd cc
fits_length (a ∷ schema) [] h = absurd cc
fits_length (a ∷ schema) (v ∷ vs) h = ap suc (fits_length schema vs (second_so (fits a.kind v) (tuple_fits schema vs) h))

-- a tuple that is made has as many attributes as there are fields
made_length : (schema : List (Named SplType)) (gs : List (ℕ × Value)) (left : ℕ) → ComesTo (S.Tuple schema) (need (tuple_of gs) (λ vs. Done (V.Tuple vs) left))
    → length gs ≡ length schema
made_length schema gs left h =
    elim (tuple_of gs) as (λ o. tuple_of gs ≡ o → ComesTo (S.Tuple schema) (need o (λ vs. Done (V.Tuple vs) left)) → length gs ≡ length schema) [
      | None ↦ λ is h. absurd h
      | Some vs ↦ λ is h. sym (tuple_length 0 (length gs) gs vs is) ∙ fits_length schema vs (sym (fits_tuple schema vs) ∙ h)
    ] refl h

module _ (law : NeverStuckLaw) (functions : List Function) (env : Env) (depth : ℕ) where
  abbrev calls : Calls
  calls = calls_of functions depth

  abbrev world : World Slot
  world = world_of env

  pub of_type : (x : Code Slot) (t : SplType) → Fits functions x env t → (turns left : ℕ) (v : Value) → code_value calls x world turns ≡ Done v left → IsTrue (fits t v)
  of_type x t f turns left v e = subst (ComesTo t) e (law functions x env t f depth turns)

  pub gives_tuple : (x : Code Slot) (schema : List (Named SplType)) → Fits functions x env (S.Tuple schema) → (turns left : ℕ) (v : Value) → code_value calls x world turns ≡ Done v left
      → level_tuple (out-Value v) ≡ None → ⊥
  gives_tuple x schema f turns left v d e =
      let vs = tuple_from_fits schema v (of_type x (S.Tuple schema) f turns left v d) in
      let is : level_tuple (out-Value v) ≡ Some vs.0 = ap level_tuple (ap out-Value vs.1 ∙ V.outs-Tuple vs.0) in cc

  -- in a scope that fits
  module _ (scope : Scope) (env_fits : EnvFits scope env) (functions_fit : FunctionsFit scope.functions functions) where
    fit : (x : Code Slot) (t : SplType) → CodeFits scope x t → Fits functions x env t
    fit x t f = record { scope = scope; code_fits = f; env_fits = env_fits; functions_fit = functions_fit }

    pub values_of_types : (xs : List (Code Slot)) (ts : List SplType) → ArgumentsFit scope xs ts → (turns left : ℕ) (vs : List Value) → values_of calls xs world turns ≡ Done vs left
        → IsTrue (pointwise fits ts vs)
    values_of_types _ _ F.no_arguments turns left vs e = let s : [] ≡ vs = cc in ap (pointwise fits []) (sym s)
    values_of_types _ _ (F.argument x xs t ts f h) turns left vs e =
        let first = done_followed (code_value calls x world turns) (λ v turns. followed (values_of calls xs world turns) (λ vs turns. Done (v ∷ vs) turns)) vs left e in
        let others = done_followed (values_of calls xs world first.1) (λ vs turns. Done (first.0 ∷ vs) turns) vs left first.3 in
        let s : first.0 ∷ others.0 ≡ vs = cc (others.3) in
        ap (pointwise fits (t ∷ ts)) (sym s)
        ∙ both_true (of_type x t (fit x t f) turns first.1 first.0 first.2) (values_of_types xs ts h first.1 others.1 others.0 others.2)

    -- what is taken in a step
    pub taken_of_type : (step : Selector (Code Slot)) (t u : SplType) → StepsLead scope (step ∷ []) t u → (v : Value) → IsTrue (fits t v) → (turns left : ℕ) (x : Value)
        → taken (taking_meaning calls step) v world turns ≡ Done x left → IsTrue (fits u x)
    taken_of_type step t u h v f turns left x e =
        of_type (C.Select (C.Literal v) (step ∷ [])) u (fit (C.Select (C.Literal v) (step ∷ [])) u (F.select (C.Literal v) (step ∷ []) t u (F.literal v t f) h)) turns left x
        (select_is calls (C.Literal v) (step ∷ []) world turns
        ∙ ap (λ o. followed o (λ v turns. takings_value calls (step ∷ []) v world turns)) (literal_is calls v world turns)
        ∙ ap (λ o. followed o (λ u turns. Done u turns)) e)

  same_places : (fs : List (ℕ × Code Slot)) (turns left : ℕ) (gs : List (ℕ × Value)) → field_values calls fs world turns ≡ Done gs left → (i : ℕ) → how_often i gs ≡ how_often i fs
  unfolding how_often
  same_places [] turns left gs e i = let s : [] ≡ gs = cc in ap (how_often i) (sym s)
  same_places (f ∷ fs) turns left gs e i =
      let first = done_followed (code_value calls f.1 world turns) (λ v turns. followed (field_values calls fs world turns) (λ gs turns. Done ((f.0, v) ∷ gs) turns)) gs left e in
      let others = done_followed (field_values calls fs world first.1) (λ gs turns. Done ((f.0, first.0) ∷ gs) turns) gs left first.3 in
      let s : (f.0, first.0) ∷ others.0 ≡ gs = cc (others.3) in
      ap (how_often i) (sym s) ∙ ap (λ n. cond (f.0 == i) (1 + n) n) (same_places fs first.1 others.1 others.0 others.2 i)

  pub as_long : (fs : List (ℕ × Code Slot)) (turns left : ℕ) (gs : List (ℕ × Value)) → field_values calls fs world turns ≡ Done gs left → length gs ≡ length fs
  as_long [] turns left gs e = let s : [] ≡ gs = cc in ap length (sym s)
  as_long (f ∷ fs) turns left gs e =
      let first = done_followed (code_value calls f.1 world turns) (λ v turns. followed (field_values calls fs world turns) (λ gs turns. Done ((f.0, v) ∷ gs) turns)) gs left e in
      let others = done_followed (field_values calls fs world first.1) (λ gs turns. Done ((f.0, first.0) ∷ gs) turns) gs left first.3 in
      let s : (f.0, first.0) ∷ others.0 ≡ gs = cc (others.3) in
      ap length (sym s) ∙ ap suc (as_long fs first.1 others.1 others.0 others.2)

  pub each_place : (fs : List (ℕ × Code Slot)) (schema : List (Named SplType)) → Fits functions (C.Tuple fs) env (S.Tuple schema) → OneEach (length schema) fs
      → (turns left : ℕ) (gs : List (ℕ × Value)) → field_values calls fs world turns ≡ Done gs left → HaveEachPlace gs
  each_place fs schema f once turns left gs e i lt =
      let comes : ComesTo (S.Tuple schema) (need (tuple_of gs) (λ vs. Done (V.Tuple vs) left)) =
      subst (ComesTo (S.Tuple schema)) (tuple_is calls fs world turns ∙ ap (λ o. followed o (λ gs turns. need (tuple_of gs) (λ vs. Done (V.Tuple vs) turns))) e) (law functions (C.Tuple fs) env (S.Tuple schema) f depth turns) in
      let long : length gs ≡ length schema = made_length schema gs left comes in
      sym (counts i gs) ∙ same_places fs turns left gs e i ∙ counts i fs ∙ once i (omega arith)

  -- ---- what is done with the values of a code's parts

  module _ (code : Code Slot) (h : IsFit functions code env) where
    pub takings_of_base : (x : Code Slot) (steps : List (Selector (Code Slot))) → code ≡ C.Select x steps → (turns left : ℕ) (v : Value) → code_value calls x world turns ≡ Done v left
        → FitTakings functions steps env v
    takings_of_base x steps is turns left v e = let p = select_parts functions env code h x steps is in p.2 v (of_type x p.0 p.1 turns left v e)

    pub unaries_of_operand : (ops : List UnaryCode) (x : Code Slot) → code ≡ C.Unary ops x → (turns left : ℕ) (v : Value) → code_value calls x world turns ≡ Done v left → FitsUnaries ops v
    unaries_of_operand ops x is turns left v e =
        let p = unary_parts functions env code h ops x is in (p.0, h.0, p.2, of_type x p.0 p.1 turns left v e)

    pub binary_of_operands : (op : BinaryCode) (x y : Code Slot) → code ≡ C.Binary op x y → (turns after left : ℕ) (v w : Value)
        → code_value calls x world turns ≡ Done v after → code_value calls y world after ≡ Done w left
        → (op ≡ D.And → ⊥) → (op ≡ D.Or → ⊥) → FitBinary op v w
    binary_of_operands op x y is turns after left v w d e no_and no_or =
        let p = binary_parts functions env code h op x y is in
        (p.0, p.1, h.0, p.4, of_type x p.0 p.2 turns after v d, of_type y p.1 p.3 after left w e, no_and, no_or)

    pub built_in_of_arguments : (call : BuiltIn) (xs : List (Code Slot)) → code ≡ C.BuiltIn call xs → (turns left : ℕ) (vs : List Value) → values_of calls xs world turns ≡ Done vs left
        → FitBuiltIn call vs
    built_in_of_arguments call xs is turns left vs e =
        let p = built_in_parts functions env code h call xs is in
        (p.0, h.0, p.2, values_of_types h.1.scope h.1.env_fits h.1.functions_fit xs p.0 p.1 turns left vs e)

    pub call_of_arguments : (place : ℕ) (xs : List (Code Slot)) → code ≡ C.Call place xs → (turns left : ℕ) (vs : List Value) → values_of calls xs world turns ≡ Done vs left
        → FitCall functions place vs
    call_of_arguments place xs is turns left vs e =
        let p = call_parts functions env code h place xs is in
        (h.1.scope.functions, p.0, h.0, h.1.functions_fit, p.1, p.2, values_of_types h.1.scope h.1.env_fits h.1.functions_fit xs p.0.parameters p.3 turns left vs e)

    pub places_of_fields : (fs : List (ℕ × Code Slot)) → code ≡ C.Tuple fs → (turns left : ℕ) (gs : List (ℕ × Value)) → field_values calls fs world turns ≡ Done gs left → HaveEachPlace gs
    places_of_fields fs is turns left gs e = let p = tuple_parts functions env code h fs is in each_place fs p.0 p.1 p.2 turns left gs e
