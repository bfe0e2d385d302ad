-- A call of a function: its body fits the environment of its arguments, and where the function has a result it returns one.
use Rattle.std.specs.Prelude.{◌≡◌, ◌-◌, ℕ, zero, suc, false, IsTrue, List, [], ◌∷◌, map, length, Option, None, Some, Result, Ok, Err, slice_get}
use Rattle.std.specs.Cmp.{first_so, second_so}
use Rattle.std.specs.Cmp.Lexicographic.{pointwise}
use Rattle.std.proofs.Common.{refl, sym, ap, ◌∙◌, subst, arith}
use Rattle.spl_value.specs.declared.types.SplType.{SplType}
use Rattle.spl_value.specs.declared.value.Value.{Value}
use Rattle.spl_value.specs.Values.{fits}
use Rattle.spl_tree.specs.declared.body.Function.{Function}
use Rattle.spl_tree.specs.declared.body.Statement.{Statement}
use Rattle.language_model.specs.declared.env.Env.{Env}
use Rattle.language_model.specs.declared.flow.Flow.{Flow}
use Rattle.language_model.specs.declared.outs.Output.{Output}
use Rattle.language_model.specs.declared.scope.Scope.{Scope}
use Rattle.language_model.specs.declared.scope.Signature.{Signature}
use Rattle.language_model.specs.declared.scope.Variable.{Variable}
use Rattle.language_model.specs.BodyFits.{OfFunction}
use Rattle.language_model.specs.Functions.{function_env, bodies_of}
use Rattle.language_model.specs.parts.Functions.{calls_of}
use Rattle.language_model.specs.Outcomes.{Outcome, Done, followed, need, enter}
use Rattle.language_model.specs.Statements.{State, Left, scoped, returned_by, body_leaves}
use Rattle.language_model.specs.parts.Statements.{row_acts}
use Rattle.language_model.proofs.parts.Statements.{left_by}
use Rattle.language_model.specs.ValueLaws.{BodyLeavesLaw}
use Rattle.language_model.specs.WorldFits.{VariablesFit, FunctionFits, ResultFits, Leaves, body_scope}
use Rattle.value_operations.specs.Answers.{StopsAs, Answers}
use Rattle.value_operations.specs.declared.stop.Stop.{Stop}
use Rattle.expr_eval.specs.Fitting.{FitCall}
use Rattle.expr_eval.specs.Running.{RowIsFit, FunctionIsFit, Leads, state}
use Rattle.expr_eval.specs.steps.Answered.{Returned}
use Rattle.value_operations.proofs.Following.{enter_followed, followed_stops, stops_by}
use Rattle.language_model.proofs.Returning.{done_followed}

abbrev kinds : List Variable → List SplType
kinds xs = map (λ (x : Variable). x.kind) xs

argument_there : (xs : List Variable) (vs : List Value) → IsTrue (pointwise fits (kinds xs) vs) → (i : ℕ) (x : Variable) → slice_get xs i ≡ Some x
    → (v : Value) × (slice_get vs i ≡ Some v) × IsTrue (fits x.kind v)
argument_there [] vs h i x e = absurd cc
argument_there (y ∷ xs) [] h i x e = absurd cc
argument_there (y ∷ xs) (v ∷ vs) h zero x e =
    let same : y ≡ x = cc in
    (v, refl, subst (λ (x : Variable). IsTrue (fits x.kind v)) same (first_so (fits y.kind v) (pointwise fits (kinds xs) vs) h))
argument_there (y ∷ xs) (v ∷ vs) h (suc i) x e = argument_there xs vs (second_so (fits y.kind v) (pointwise fits (kinds xs) vs) h) i x e

as_many : (xs : List Variable) (vs : List Value) → IsTrue (pointwise fits (kinds xs) vs) → length vs ≡ length xs
as_many [] [] h = refl
as_many [] (v ∷ vs) h = absurd cc
as_many (x ∷ xs) [] h = absurd cc
as_many (x ∷ xs) (v ∷ vs) h = ap suc (as_many xs vs (second_so (fits x.kind v) (pointwise fits (kinds xs) vs) h))

arguments_fit : (signatures : List Signature) (xs : List Variable) (vs : List Value) → IsTrue (pointwise fits (kinds xs) vs) → VariablesFit (body_scope signatures xs) (function_env vs)
arguments_fit signatures xs vs h = record {
  env_fits = record { variables = argument_there xs vs h; inputs = λ i p e. absurd cc; marker = λ e. absurd cc };
  count = as_many xs vs h;
}

-- the environment as it is made
abbrev pub made : List (List Value) → List Value → Env
made inputs vs = record { inputs = inputs; vars = vs; punct = None }

-- what is left of where a body ends
abbrev left_after : Flow × State → ℕ → Option Value → Outcome Left
left_after w after r = Done (record { vars = w.1.env.vars; submits = w.1.submits; returned = r }) after

-- where a body begins
abbrev begun : List Value → State
begun vs = state (function_env vs) []

module _ (functions : List Function) (i : ℕ) (vs : List Value) (h : FunctionIsFit functions i vs) where
  there : (f : Function) × (slice_get functions i ≡ Some f) × FunctionFits h.0 h.1 f
  there = h.2 i h.1 h.3

  module _ (f : Function) (is : slice_get functions i ≡ Some f) where
    it_fits : FunctionFits h.0 h.1 f
    it_fits = let g : Function = there.0 in let at : slice_get functions i ≡ Some g = there.1 in let same : g ≡ f = cc in subst (FunctionFits h.0 h.1) same there.2

    abbrev scope : Scope
    scope = body_scope h.0 it_fits.variables

    arguments : VariablesFit scope (function_env vs)
    arguments = arguments_fit h.0 it_fits.variables vs (ap (λ ts. pointwise fits ts vs) it_fits.kinds ∙ h.4)

    body_is_fit : (row : List Statement) → row ≡ f.body → (inputs : List (List Value)) → inputs ≡ [] → RowIsFit functions row (made inputs vs)
    body_is_fit row same inputs e =
        subst (λ row. RowIsFit functions row (made inputs vs)) (sym same)
        (subst (λ inputs. RowIsFit functions f.body (made inputs vs)) (sym e) (OfFunction h.1.result, false, scope, it_fits.body, (arguments, h.2)))

    module _ (law : BodyLeavesLaw) (depth turns : ℕ) where
      leaves : Leaves (OfFunction h.1.result) scope (function_env vs) (body_leaves (bodies_of functions depth) f.body (function_env vs) turns)
      leaves =
          law functions f.body (function_env vs) (OfFunction h.1.result) scope
          (record { row_fits = it_fits.body; returns = it_fits.returns; variables_fit = arguments; functions_fit = h.2 }) depth turns

      -- what the body returns fits
      result_fits : (left : Left) (after : ℕ) → body_leaves (bodies_of functions depth) f.body (function_env vs) turns ≡ Done left after → ResultFits h.1.result left.returned
      result_fits left after e = let k : Leaves (OfFunction h.1.result) scope (function_env vs) (Done left after) = subst (Leaves (OfFunction h.1.result) scope (function_env vs)) e leaves in k.returned

      module _ (row : List Statement) (same : row ≡ f.body) (inputs : List (List Value)) (e : inputs ≡ []) (submits : List Output) (d : submits ≡ []) where
        from_body : scoped (row_acts (bodies_of functions depth) f.body) (begun vs) turns ≡ scoped (row_acts (bodies_of functions depth) row) (state (made inputs vs) submits) turns
        from_body = λ j. scoped (row_acts (bodies_of functions depth) (sym same j)) (state (made (sym e j) vs) (sym d j)) turns

        returned_there : (w : Flow × State) (after : ℕ) → scoped (row_acts (bodies_of functions depth) row) (state (made inputs vs) submits) turns ≡ Done w after → returned_by w.0 ≡ None → ⊥
        returned_there w after r none =
            subst (Leaves (OfFunction h.1.result) scope (function_env vs)) (ap (λ o. followed o left_by) (from_body ∙ r) ∙ ap (λ o. need o (left_after w after)) none) leaves

  -- ---- what is called

  module _ (f : Function) (is : slice_get functions i ≡ Some f) (depth turns : ℕ) (deep : depth ≡ 0 → ⊥) where
    abbrev by_body : ℕ → Outcome Left
    by_body d = body_leaves (bodies_of functions d) f.body (function_env vs) turns

    call_is : bodies_of functions depth i vs turns ≡ followed (by_body (depth - 1)) (λ left turns. Done left.returned turns)
    call_is = by_depth depth deep
      where
        by_depth : (d : ℕ) → (d ≡ 0 → ⊥) → bodies_of functions d i vs turns ≡ followed (by_body (d - 1)) (λ left turns. Done left.returned turns)
        by_depth zero deep = absurd (deep refl)
        by_depth (suc d) deep =
            ap (λ o. need o (λ f. followed (body_leaves (bodies_of functions d) f.body (function_env vs) turns) (λ left turns. Done left.returned turns))) is
            ∙ (let one : d ≡ suc d - 1 = omega arith in ap (λ d. followed (by_body d) (λ left turns. Done left.returned turns)) one)

    module _ (row : List Statement) (same : row ≡ f.body) (inputs : List (List Value)) (e : inputs ≡ []) (submits : List Output) (d : submits ≡ []) where
      abbrev body_acts : Outcome (Flow × State)
      body_acts = scoped (row_acts (bodies_of functions (depth - 1)) row) (state (made inputs vs) submits) turns

      abbrev returns : Outcome (Flow × State) → Outcome (Option Value)
      returns o = followed (followed o left_by) (λ left turns. Done left.returned turns)

      call_acts : bodies_of functions depth i vs turns ≡ returns body_acts
      call_acts = call_is ∙ (λ j. returns (scoped (row_acts (bodies_of functions (depth - 1)) (sym same j)) (state (made (sym e j) vs) (sym d j)) turns))

      body_stops : (p : Stop) → StopsAs body_acts p → StopsAs (bodies_of functions depth i vs turns) p
      body_stops p q =
          stops_by (bodies_of functions depth i vs turns) _ p call_acts
          (followed_stops (followed body_acts left_by) (λ left turns. Done left.returned turns) p (followed_stops body_acts left_by p q))

      body_done : (w : Flow × State) (after : ℕ) (r : Option Value) → body_acts ≡ Done w after → returned_by w.0 ≡ Some r → bodies_of functions depth i vs turns ≡ Done r after
      body_done w after r q some =
          call_acts ∙ ap returns q ∙ ap (λ (o : Option (Option Value)). followed {A = Left} (need o (left_after w after)) (λ left turns. Done left.returned turns)) some

  -- how a call ends by how its body does, in the environment that is made for it
  module _ (f : Function) (is : slice_get functions i ≡ Some f) (row : List Statement) (same : row ≡ f.body) (submits : List Output) (d : submits ≡ []) where
    abbrev body_from : ℕ → ℕ → Env → Outcome (Flow × State)
    body_from depth turns env = scoped (row_acts (bodies_of functions depth) row) (state env submits) turns

    pub call_body_is_fit : (env : Env) → env ≡ function_env vs → RowIsFit functions row env
    call_body_is_fit env e = subst (RowIsFit functions row) (sym e) (body_is_fit f is row same [] refl)

    module _ (env : Env) (e : env ≡ function_env vs) (turns : ℕ) (answer : Result Flow Stop) (w : State) (left : ℕ) where
      pub answer_returns : BodyLeavesLaw → (depth : ℕ) → Leads (body_from depth turns env) answer w left → (flow : Flow) → answer ≡ Ok flow → returned_by flow ≡ None → ⊥
      answer_returns law depth h flow ok =
          returned_there f is law depth turns row same [] refl submits d (flow, w) left
          (subst (λ env. body_from depth turns env ≡ Done (flow, w) left) e (subst (λ answer. Leads (body_from depth turns env) answer w left) ok h))

      pub call_returns : (depth : ℕ) → (depth ≡ 0 → ⊥) → Leads (body_from (depth - 1) turns env) answer w left → (r : Result (Option Value) Stop) → Returned answer r
          → Answers (bodies_of functions depth i vs turns) r left
      call_returns depth deep h (Ok r) k =
          body_done f is depth turns deep row same [] refl submits d (k.0, w) left r
          (subst (λ env. body_from (depth - 1) turns env ≡ Done (k.0, w) left) e (subst (λ answer. Leads (body_from (depth - 1) turns env) answer w left) k.1 h)) k.2
      call_returns depth deep h (Err p) k =
          body_stops f is depth turns deep row same [] refl submits d p
          (subst (λ env. StopsAs (body_from (depth - 1) turns env) p) e (subst (λ answer. Leads (body_from (depth - 1) turns env) answer w left) k h))

-- ---- a function with a result

-- what is returned has to be there
abbrev wanted : Option Value → ℕ → Outcome Value
wanted returned turns = need returned (λ v. Done v turns)

module _ (functions : List Function) (i : ℕ) (vs : List Value) (depth turns : ℕ) where
  abbrev entered : Outcome (Option Value)
  entered = enter turns (λ turns. bodies_of functions depth i vs turns)

  pub value_called : enter turns (λ turns. calls_of functions depth i vs turns) ≡ followed entered wanted
  value_called = enter_followed turns (λ turns. bodies_of functions depth i vs turns) wanted

module _ (functions : List Function) (i : ℕ) (vs : List Value) (h : FitCall functions i vs) where
  abbrev pub called_is_fit : FunctionIsFit functions i vs
  called_is_fit = (h.0, h.1, h.3, h.4, h.6)

  module _ (law : BodyLeavesLaw) where
    returns_none : (depth turns left : ℕ) → bodies_of functions depth i vs turns ≡ Done None left → ⊥
    returns_none zero turns left e = absurd cc
    returns_none (suc depth) turns left e =
        let f = there functions i vs called_is_fit in
        let body = body_leaves (bodies_of functions depth) f.0.body (function_env vs) turns in
        let found : followed body (λ left turns. Done left.returned turns) ≡ Done None left =
        sym (ap (λ o. need o (λ f. followed (body_leaves (bodies_of functions depth) f.body (function_env vs) turns) (λ left turns. Done left.returned turns))) f.1) ∙ e in
        let at = done_followed body (λ left turns. Done left.returned turns) None left found in
        let none : at.0.returned ≡ None = cc (at.3) in
        let fits : ResultFits h.1.result at.0.returned = result_fits functions i vs called_is_fit f.0 f.1 law depth turns at.0 at.1 at.2 in
        let result : ResultFits (Some h.2) None = subst (λ r. ResultFits (Some h.2) r) none (subst (λ t. ResultFits t at.0.returned) h.5 fits) in
        absurd result

    pub result_there : (depth turns left : ℕ) (r : Option Value) → enter turns (λ turns. bodies_of functions depth i vs turns) ≡ Done r left → r ≡ None → ⊥
    result_there depth zero left r e none = absurd cc
    result_there depth (suc turns) left r e none = returns_none depth turns left (e ∙ ap (λ r. Done r left) none)
