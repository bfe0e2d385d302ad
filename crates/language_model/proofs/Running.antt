-- A statement that fits leads to what fits, or to a fault.
use Rattle.std.specs.Prelude.{◌≡◌, ℕ, zero, suc, Bool, true, IsTrue, List, [], ◌∷◌, ◌++◌, map, Option, None, Some, slice_get}
use Rattle.std.specs.List.{list_all}
use Rattle.std.specs.Cmp.{first_so, second_so}
use Rattle.std.specs.Cmp.Derive.{both_true}
use Rattle.std.proofs.Common.{refl, sym, ap, subst, ◌∙◌}
use Rattle.spl_value.specs.declared.item.FaultKind.TheVariants as X
use Rattle.spl_value.specs.declared.types.Named.{Named}
use Rattle.spl_value.specs.declared.types.SplType.{SplType}
use Rattle.spl_value.specs.declared.types.SplType.TheVariants as S
use Rattle.spl_value.specs.declared.value.Value.{Value}
use Rattle.spl_value.specs.declared.value.Value.TheVariants as V
use Rattle.spl_value.specs.declared.value.Value.TheViews.{out-Value}
use Rattle.spl_value.proofs.FitsLaws.{pair_fits, list_from_fits, map_from_fits, tuple_from_fits}
use Rattle.spl_value.specs.Values.{fits}
use Rattle.spl_tree.specs.declared.body.Change.{Change}
use Rattle.spl_tree.specs.declared.body.Change.TheVariants as H
use Rattle.spl_tree.specs.declared.body.Place.{Place}
use Rattle.spl_tree.specs.declared.body.Statement.{Statement}
use Rattle.spl_tree.specs.declared.body.Statement.TheVariants as T
use Rattle.spl_tree.specs.declared.code.Code.{Code}
use Rattle.spl_tree.specs.declared.code.Slot.{Slot}
use Rattle.spl_tree.specs.declared.code.Selector.{Selector}
use Rattle.language_model.specs.declared.env.Env.{Env}
use Rattle.language_model.specs.declared.flow.Flow.{Flow}
use Rattle.language_model.specs.declared.flow.Flow.TheVariants as F
use Rattle.language_model.specs.declared.outs.Output.{Output}
use Rattle.language_model.specs.declared.scope.Scope.{Scope}
use Rattle.language_model.specs.declared.scope.Signature.{Signature}
use Rattle.language_model.specs.declared.scope.Variable.{Variable}
use Rattle.language_model.specs.BodyFits as B
use Rattle.language_model.specs.BodyFits.{Purpose, result_of, outputs_of, with_variable, PlaceFits, ChangeFits, GoesOver, ReturnFits, StatementFits, RowFits, ArmsFit}
use Rattle.language_model.specs.CodeFits as C
use Rattle.language_model.specs.CodeFits.{CodeFits, ArgumentsFit, StepsLead}
use Rattle.language_model.specs.Changes.{step_of, changed, change_of}
use Rattle.language_model.specs.Evaluation.{code_value, world_of}
use Rattle.language_model.specs.EvaluationLaws.{values_of}
use Rattle.language_model.specs.Outcomes.{Done, Faulted, followed, need, settled}
use Rattle.language_model.specs.StatementLaws.{arms_act, block_is, declare_is, change_is, evaluate_is, call_is, if_is, while_is, for_is, break_is, continue_is, return_is, submit_is, submit_window_is}
use Rattle.language_model.specs.Statements.{State, Acts, Bodies, calls_by, value_in, truth_in, declared, scoped, step_value, steps_taken, change_value, change_values, then_rest, then_again, turn_while, turns_while, turns_over, level_elements, level_tuple}
use Rattle.language_model.specs.parts.Statements.{step_values, changed_at, return_acts, statement_acts, row_acts}
use Rattle.language_model.specs.WorldFits.{EnvFits, VariablesFit, SubmitFits, ResultFits}
use Rattle.language_model.proofs.Changing.{ChangeGives, StepGives, StepsGive, step_settles, changed_settles}
use Rattle.language_model.proofs.Changing as G
use Rattle.language_model.proofs.Evaluating.{truth_yields, AllOf, CallsFit, code_comes, arguments_come}
use Rattle.language_model.proofs.Operating.{OfTypes}
use Rattle.language_model.proofs.Variables.{declared_fit, ended_fit, set_fit, Grows, same, more, shrunk, same_functions}
use Rattle.language_model.proofs.Yielding.{Yields, yields_followed, yields_weaker, IsThere, yields_need, yields_enter, yields_either, AnyAnswer, OfType, yields_settled}

-- ---- what is led to

-- a way on is one that there is: a loop is left only inside one, and what is returned is of the result's type
abbrev pub FlowFits : Option SplType → Bool → Flow → Type 0
FlowFits result l F.Next = Unit {0}
FlowFits result l F.Broken = IsTrue l
FlowFits result l F.Continued = IsTrue l
FlowFits result l (F.Returned v) = ResultFits result v

-- bodies of functions return values of their types where their arguments are of theirs, or end with faults
abbrev pub BodiesFit : List Signature → Bodies → Type 0
BodiesFit signatures bodies = (i : ℕ) (f : Signature) → slice_get signatures i ≡ Some f → (vs : List Value) → OfTypes f.parameters vs → (turns : ℕ)
    → Yields (ResultFits f.result) (bodies i vs turns)

pub calls_fit : (signatures : List Signature) (bodies : Bodies) → BodiesFit signatures bodies → CallsFit signatures (calls_by bodies)
calls_fit signatures bodies h i f t at result vs are turns =
    yields_followed (ResultFits f.result) (OfType t) (bodies i vs turns) _ (h i f at vs are turns) (λ returned turns fit.
    yields_need (OfType t) (OfType t) returned _ (there returned (subst (λ r. ResultFits r returned) result fit)) (λ v g. g)) where
      there : (returned : Option Value) → ResultFits (Some t) returned → IsThere (OfType t) returned
      there None fit = absurd fit
      there (Some v) fit = (v, refl, fit)

-- each submit has what is asked of submits
abbrev pub Submitted : (Output → Type 0) → List Output → Type 0
Submitted Good os = (i : ℕ) (o : Output) → slice_get os i ≡ Some o → Good o

submit_added : (Good : Output → Type 0) (os : List Output) (o : Output) → Submitted Good os → Good o → Submitted Good (os ++ o ∷ [])
submit_added Good [] o h g zero p at = let same : o ≡ p = cc in subst Good same g
submit_added Good [] o h g (suc i) p at = absurd cc
submit_added Good (q ∷ os) o h g zero p at = h zero p at
submit_added Good (q ∷ os) o h g (suc i) p at = submit_added Good os o (λ i p at. h (suc i) p at) g i p at

-- a value that `for` goes over has elements of the type
elements_there : (t kind : SplType) → GoesOver t kind → (v : Value) → OfType t v → IsThere (AllOf kind) (level_elements (out-Value v))
elements_there _ _ (B.elements t) v h =
    let is = list_from_fits t v h in
    (is.0, ap (λ (v : Value). level_elements (out-Value v)) is.1 ∙ ap level_elements (V.outs-List is.0), is.2)
elements_there _ _ (B.keys k t) v h =
    let is = map_from_fits k t v h in
    (map (λ (p : Value × Value). p.0) is.0, ap (λ (v : Value). level_elements (out-Value v)) is.1 ∙ ap level_elements (V.outs-Map is.0), all_keys is.0 is.3) where
      all_keys : (ps : List (Value × Value)) → IsTrue (list_all (pair_fits k t) ps) → AllOf k (map (λ (p : Value × Value). p.0) ps)
      all_keys [] h = refl
      all_keys (p ∷ ps) h =
          both_true (first_so (fits k p.0) (fits t p.1) (first_so (pair_fits k t p) (list_all (pair_fits k t) ps) h))
          (all_keys ps (second_so (pair_fits k t p) (list_all (pair_fits k t) ps) h))

-- a value of a tuple type has members
members_there : (schema : List (Named SplType)) (v : Value) → OfType (S.Tuple schema) v
    → IsThere (λ vs. OfType (S.Tuple schema) (V.Tuple vs)) (level_tuple (out-Value v))
members_there schema v h =
    let is = tuple_from_fits schema v h in
    (is.0, ap (λ (v : Value). level_tuple (out-Value v)) is.1 ∙ ap level_tuple (V.outs-Tuple is.0), subst (λ (v : Value). OfType (S.Tuple schema) v) is.1 h)

module _ (purpose : Purpose) (Good : Output → Type 0) (can_submit : (o : Output) → SubmitFits purpose o → Good o) (bodies : Bodies) where
  abbrev pub Led : Bool → (Env → Type 0) → Flow × State → Type 0
  Led l Vars w = FlowFits (result_of purpose) l w.0 × Vars w.1.env × Submitted Good w.1.submits

  -- from what fits a scope, to what is said of the variables
  abbrev pub Leads : Bool → Scope → (Env → Type 0) → Acts → Type 0
  Leads l scope Vars acts = (s : State) → VariablesFit scope s.env → Submitted Good s.submits → (turns : ℕ) → Yields (Led l Vars) (acts s turns)

  leads_by : (l : Bool) (scope : Scope) (Vars : Env → Type 0) (acts other : Acts) → ((s : State) (turns : ℕ) → acts s turns ≡ other s turns)
      → Leads l scope Vars other → Leads l scope Vars acts
  leads_by l scope Vars acts other e h s v g turns = subst (Yields (Led l Vars)) (sym (e s turns)) (h s v g turns)

  pub scoped_leads : (l : Bool) (scope : Scope) (acts : Acts) → Leads l scope (EnvFits scope) acts → Leads l scope (VariablesFit scope) (scoped acts)
  scoped_leads l scope acts h s v g turns =
      yields_followed (Led l (EnvFits scope)) (Led l (VariablesFit scope)) (acts s turns) _ (h s v g turns) (λ w turns led.
      (led.0, ended_fit scope s.env w.1.env v led.1, led.2))

  -- ---- rows

  rest_leads : (l : Bool) (scope next : Scope) → Grows scope next → (rest : Acts) → Leads l next (EnvFits next) rest → (w : Flow × State) (turns : ℕ)
      → Led l (VariablesFit next) w → Yields (Led l (EnvFits scope)) (then_rest w turns rest)
  rest_leads l scope next grows rest h (F.Next, s) turns led =
      yields_weaker (Led l (EnvFits next)) (Led l (EnvFits scope)) (rest s turns) (λ w far. (far.0, shrunk scope next grows w.1.env far.1, far.2)) (h s led.1 led.2 turns)
  rest_leads l scope next grows rest h (F.Broken, s) turns led = (led.0, shrunk scope next grows s.env led.1.env_fits, led.2)
  rest_leads l scope next grows rest h (F.Continued, s) turns led = (led.0, shrunk scope next grows s.env led.1.env_fits, led.2)
  rest_leads l scope next grows rest h (F.Returned v, s) turns led = (led.0, shrunk scope next grows s.env led.1.env_fits, led.2)

  first_leads : (l : Bool) (scope next : Scope) (x : Statement) (row : List Statement) → Grows scope next → Leads l scope (VariablesFit next) (statement_acts bodies x)
      → Leads l next (EnvFits next) (row_acts bodies row) → Leads l scope (EnvFits scope) (row_acts bodies (x ∷ row))
  first_leads l scope next x row grows f h s v g turns =
      yields_followed (Led l (VariablesFit next)) (Led l (EnvFits scope)) (statement_acts bodies x s turns) _ (f s v g turns) (λ w turns led.
      rest_leads l scope next grows (row_acts bodies row) h w turns led)

  module _ (scope : Scope) (fit : BodiesFit scope.functions bodies) where
    -- to values of the scope's variables
    abbrev Stays : Bool → Acts → Type 0
    Stays l acts = Leads l scope (VariablesFit scope) acts

    abbrev After : Bool → Flow × State → Type 0
    After l w = Led l (VariablesFit scope) w

    -- ---- expressions

    value_comes : (s : State) → VariablesFit scope s.env → (x : Code Slot) (t : SplType) → CodeFits scope x t → (turns : ℕ) → Yields (OfType t) (value_in bodies x s turns)
    value_comes s v x t f turns = code_comes scope s.env (calls_by bodies) v.env_fits (calls_fit scope.functions bodies fit) x t f turns

    truth_comes : (s : State) → VariablesFit scope s.env → (x : Code Slot) → CodeFits scope x S.Bool → (turns : ℕ) → Yields AnyAnswer (truth_in bodies x s turns)
    truth_comes s v x f turns = truth_yields (world_of s.env) (code_value (calls_by bodies) x) (value_comes s v x S.Bool f) turns

    declare_leads : (l : Bool) (x : Code Slot) (y : Variable) → CodeFits scope x y.kind → Leads l scope (VariablesFit (with_variable scope y)) (statement_acts bodies (T.Declare x))
    declare_leads l x y f = leads_by l scope (VariablesFit (with_variable scope y)) (statement_acts bodies (T.Declare x)) _ (declare_is bodies x) (λ s v g turns.
        yields_followed (OfType y.kind) (Led l (VariablesFit (with_variable scope y))) (value_in bodies x s turns) _ (value_comes s v x y.kind f turns) (λ u turns h.
        (tt, declared_fit scope s.env y u v h, g)))

    evaluate_leads : (l : Bool) (x : Code Slot) (t : SplType) → CodeFits scope x t → Stays l (statement_acts bodies (T.Evaluate x))
    evaluate_leads l x t f = leads_by l scope (VariablesFit scope) (statement_acts bodies (T.Evaluate x)) _ (evaluate_is bodies x) (λ s v g turns.
        yields_followed (OfType t) (After l) (value_in bodies x s turns) _ (value_comes s v x t f turns) (λ u turns h. (tt, v, g)))

    call_leads : (l : Bool) (i : ℕ) (xs : List (Code Slot)) (f : Signature) → slice_get scope.functions i ≡ Some f → ArgumentsFit scope xs f.parameters
        → Stays l (statement_acts bodies (T.Call i xs))
    call_leads l i xs f at args = leads_by l scope (VariablesFit scope) (statement_acts bodies (T.Call i xs)) _ (call_is bodies i xs) (λ s v g turns.
        yields_followed (OfTypes f.parameters) (After l) (values_of (calls_by bodies) xs (world_of s.env) turns) _
        (arguments_come scope s.env (calls_by bodies) v.env_fits (calls_fit scope.functions bodies fit) xs f.parameters args turns) (λ vs turns h.
        yields_enter (After l) turns _ (λ turns.
        yields_followed (ResultFits f.result) (After l) (bodies i vs turns) _ (fit i f at vs h turns) (λ returned turns k. (tt, v, g)))))

    return_leads : (l : Bool) (x : Option (Code Slot)) → ReturnFits scope x (result_of purpose) → Stays l (statement_acts bodies (T.Return x))
    return_leads l x f = leads_by l scope (VariablesFit scope) (statement_acts bodies (T.Return x)) _ (return_is bodies x) (by_result x (result_of purpose) f) where
      by_result : (x : Option (Code Slot)) (r : Option SplType) → ReturnFits scope x r → (s : State) → VariablesFit scope s.env → Submitted Good s.submits → (turns : ℕ)
          → Yields (λ w. FlowFits r l w.0 × VariablesFit scope w.1.env × Submitted Good w.1.submits) (return_acts bodies x s turns)
      by_result _ _ B.nothing s v g turns = (tt, v, g)
      by_result _ _ (B.result x t f) s v g turns =
          yields_followed (OfType t) (λ w. FlowFits (Some t) l w.0 × VariablesFit scope w.1.env × Submitted Good w.1.submits) (value_in bodies x s turns) _
          (value_comes s v x t f turns) (λ u turns h. (h, v, g))

    submit_leads : (l : Bool) (port : ℕ) (x : Code Slot) (schema : List (Named SplType)) → slice_get (outputs_of purpose) port ≡ Some schema → CodeFits scope x (S.Tuple schema)
        → Stays l (statement_acts bodies (T.Submit port x))
    submit_leads l port x schema at f = leads_by l scope (VariablesFit scope) (statement_acts bodies (T.Submit port x)) _ (submit_is bodies port x) (λ s v g turns.
        yields_followed (OfType (S.Tuple schema)) (After l) (value_in bodies x s turns) _ (value_comes s v x (S.Tuple schema) f turns) (λ u turns h.
        yields_need (λ vs. OfType (S.Tuple schema) (V.Tuple vs)) (After l) (level_tuple (out-Value u)) _ (members_there schema u h) (λ vs k.
        (tt, v, submit_added Good s.submits _ g (can_submit _ (schema, at, k))))))

    submit_window_leads : (l : Bool) (port : ℕ) (schema : List (Named SplType)) → slice_get (outputs_of purpose) port ≡ Some schema
        → Stays l (statement_acts bodies (T.SubmitWindow port))
    submit_window_leads l port schema at =
        leads_by l scope (VariablesFit scope) (statement_acts bodies (T.SubmitWindow port)) _ (submit_window_is bodies port) (λ s v g turns.
        (tt, v, submit_added Good s.submits _ g (can_submit _ (schema, at, tt))))

    -- ---- places

    step_comes : (s : State) → VariablesFit scope s.env → (step : Selector (Code Slot)) (steps : List (Selector (Code Slot))) (t r : SplType) → StepsLead scope (step ∷ steps) t r
        → (turns : ℕ) → (u : SplType) × StepsLead scope steps u r × Yields (λ one. StepGives one t u) (step_value bodies step s turns)
    step_comes s v _ _ _ _ (C.member i steps schema a u at h) turns = (a.kind, h, G.member i schema a at)
    step_comes s v _ _ _ _ (C.index x steps k t u f h) turns = (
      t,
      h,
      yields_followed (OfType (S.Int k)) (λ one. StepGives one (S.List t) t) (value_in bodies x s turns) _ (value_comes s v x (S.Int k) f turns) (λ n turns g.
          G.element n k t g),
    )
    step_comes s v _ _ _ _ (C.at_key x steps k t u f h) turns = (
      t,
      h,
      yields_followed (OfType k) (λ one. StepGives one (S.Map k t) t) (value_in bodies x s turns) _ (value_comes s v x k f turns) (λ key turns g.
          G.at_key key k t g),
    )

    abbrev Giving : SplType → SplType → List (Selector Value) → Type 0
    Giving t r steps = StepsGive steps t r

    steps_come : (s : State) → VariablesFit scope s.env → (steps : List (Selector (Code Slot))) (t r : SplType) → StepsLead scope steps t r → (turns : ℕ)
        → Yields (Giving t r) (step_values bodies steps s turns)
    steps_come s v [] _ _ (C.here t) turns = G.here t
    steps_come s v (step ∷ steps) t r lead turns =
        let is = step_comes s v step steps t r lead turns in
        yields_followed (λ one. StepGives one t is.0) (Giving t r) (step_value bodies step s turns) _ is.2 (λ one turns f.
        yields_followed (Giving is.0 r) (Giving t r) (step_values bodies steps s turns) _ (steps_come s v steps is.0 r is.1 turns) (λ rest turns g.
        G.further one rest t is.0 r f g))

    taken_come : (s : State) → VariablesFit scope s.env → (steps : List (Selector (Code Slot))) (t r : SplType) → StepsLead scope steps t r
        → (old : Value) → OfType t old → (turns : ℕ) → Yields (Giving t r) (steps_taken bodies steps old s turns)
    taken_come s v [] _ _ (C.here t) old h turns = G.here t
    taken_come s v (step ∷ steps) t r lead old h turns =
        let is = step_comes s v step steps t r lead turns in
        yields_followed (λ one. StepGives one t is.0) (Giving t r) (step_value bodies step s turns) _ is.2 (λ one turns f.
        yields_followed (OfType is.0) (Giving t r) (settled (step_of one old) turns) _ (yields_settled is.0 (step_of one old) turns (step_settles one t is.0 f old h)) (λ u turns k.
        yields_followed (Giving is.0 r) (Giving t r) (steps_taken bodies steps u s turns) _ (taken_come s v steps is.0 r is.1 u k turns) (λ rest turns g.
        G.further one rest t is.0 r f g)))

    -- ---- changes

    abbrev Changing : SplType → Change Value → Type 0
    Changing t change = ChangeGives change t

    change_comes : (s : State) → VariablesFit scope s.env → (change : Change (Code Slot)) (t : SplType) → ChangeFits scope change t → (turns : ℕ)
        → Yields (Changing t) (change_value bodies change s turns)
    change_comes s v _ _ (B.puts x t f) turns =
        yields_followed (OfType t) (Changing t) (value_in bodies x s turns) _ (value_comes s v x t f turns) (λ u turns g. G.puts u t g)
    change_comes s v _ _ (B.appends x t f) turns =
        yields_followed (OfType t) (Changing (S.List t)) (value_in bodies x s turns) _ (value_comes s v x t f turns) (λ u turns g. G.appends u t g)
    change_comes s v _ _ (B.removes x k t f) turns =
        yields_followed (OfType k) (Changing (S.Map k t)) (value_in bodies x s turns) _ (value_comes s v x k f turns) (λ u turns g. G.removes u k t g)
    change_comes s v _ _ (B.clears_list t) turns = G.clears_list t
    change_comes s v _ _ (B.clears_map k t) turns = G.clears_map k t

    abbrev Both : SplType → SplType → List (Selector Value) × Change Value → Type 0
    Both t r w = StepsGive w.0 t r × ChangeGives w.1 r

    module _ (place : Place) (x : Variable) (r : SplType) (at : slice_get scope.vars place.variable ≡ Some x) (lead : StepsLead scope place.takings x.kind r) where
      -- of a change that isn't an assignment
      called_comes : (s : State) → VariablesFit scope s.env → (change : Change (Code Slot)) → ChangeFits scope change r → (turns : ℕ)
          → Yields (Both x.kind r)
          (need (slice_get s.env.vars place.variable) (λ old.
          followed (steps_taken bodies place.takings old s turns) (λ steps turns.
          followed (change_value bodies change s turns) (λ change turns. Done (steps, change) turns))))
      called_comes s v change f turns =
          yields_need (OfType x.kind) (Both x.kind r) (slice_get s.env.vars place.variable) _ (v.env_fits.variables place.variable x at) (λ old h.
          yields_followed (Giving x.kind r) (Both x.kind r) (steps_taken bodies place.takings old s turns) _
          (taken_come s v place.takings x.kind r lead old h turns) (λ steps turns g.
          yields_followed (Changing r) (Both x.kind r) (change_value bodies change s turns) _ (change_comes s v change r f turns) (λ change turns k. (g, k))))

      assigned_comes : (s : State) → VariablesFit scope s.env → (y : Code Slot) → ChangeFits scope (H.Put y) r → (turns : ℕ)
          → Yields (Both x.kind r) (change_values bodies place (H.Put y) s turns)
      assigned_comes s v y f turns =
          yields_followed (Changing r) (Both x.kind r) (change_value bodies (H.Put y) s turns) _ (change_comes s v (H.Put y) r f turns) (λ change turns k.
          yields_followed (Giving x.kind r) (Both x.kind r) (step_values bodies place.takings s turns) _ (steps_come s v place.takings x.kind r lead turns) (λ steps turns g.
          (g, k)))

      both_come : (s : State) → VariablesFit scope s.env → (change : Change (Code Slot)) → ChangeFits scope change r → (turns : ℕ)
          → Yields (Both x.kind r) (change_values bodies place change s turns)
      both_come s v (H.Put y) f turns = assigned_comes s v y f turns
      both_come s v (H.Append y) f turns = called_comes s v (H.Append y) f turns
      both_come s v (H.Remove y) f turns = called_comes s v (H.Remove y) f turns
      both_come s v H.Clear f turns = called_comes s v H.Clear f turns

      changed_leads : (l : Bool) (s : State) → VariablesFit scope s.env → Submitted Good s.submits → (steps : List (Selector Value)) (change : Change Value)
          → StepsGive steps x.kind r → ChangeGives change r → (turns : ℕ) → Yields (After l) (changed_at place.variable steps change s turns)
      changed_leads l s v g steps change gives change_gives turns =
          yields_need (OfType x.kind) (After l) (slice_get s.env.vars place.variable) _ (v.env_fits.variables place.variable x at) (λ old h.
          yields_followed (OfType x.kind) (After l) (settled (changed steps (change_of change) (Some old)) turns) _
          (yields_settled x.kind (changed steps (change_of change) (Some old)) turns (changed_settles steps change x.kind r gives change_gives old h)) (λ new turns k.
          (tt, set_fit scope s.env place.variable x new v at k, g)))

      change_leads : (l : Bool) (change : Change (Code Slot)) → ChangeFits scope change r → Stays l (statement_acts bodies (T.Change place change))
      change_leads l change f = leads_by l scope (VariablesFit scope) (statement_acts bodies (T.Change place change)) _ (change_is bodies place change) (λ s v g turns.
          yields_followed (Both x.kind r) (After l) (change_values bodies place change s turns) _ (both_come s v change f turns) (λ w turns h.
          changed_leads l s v g w.0 w.1 h.0 h.1 turns))

    place_leads : (l : Bool) (place : Place) (change : Change (Code Slot)) (t : SplType) → PlaceFits scope place t → ChangeFits scope change t
        → Stays l (statement_acts bodies (T.Change place change))
    place_leads l _ change _ (B.in_variable place x t at named mutable lead) f = change_leads place x t at lead l change f

    -- ---- loops

    again_leads : (l : Bool) (again : Acts) → Stays l again → (w : Flow × State) (turns : ℕ) → After true w → Yields (After l) (then_again w turns again)
    again_leads l again h (F.Next, s) turns led = h s led.1 led.2 turns
    again_leads l again h (F.Continued, s) turns led = h s led.1 led.2 turns
    again_leads l again h (F.Broken, s) turns led = (tt, led.1, led.2)
    again_leads l again h (F.Returned v, s) turns led = led

    module _ (l : Bool) (x : Code Slot) (f : CodeFits scope x S.Bool) (body : Acts) (h : Stays true body) where
      turn_leads : (again : Acts) → Stays l again → Stays l (turn_while bodies x body again)
      turn_leads again k s v g turns =
          yields_followed AnyAnswer (After l) (truth_in bodies x s turns) _ (truth_comes s v x f turns) (λ b turns e.
          yields_either (After l) b _ (Done (F.Next, s) turns)
          (yields_enter (After l) turns _ (λ turns. yields_followed (After true) (After l) (body s turns) _ (h s v g turns) (again_leads l again k)))
          (tt, v, g))

      turns_lead : (n : ℕ) → Stays l (turns_while n bodies x body)
      turns_lead zero = turn_leads (λ s turns. Faulted X.Turns) (λ s v g turns. tt)
      turns_lead (suc n) = turn_leads (turns_while n bodies x body) (turns_lead n)

    while_leads : (l : Bool) (x : Code Slot) (row : List Statement) → CodeFits scope x S.Bool → Leads true scope (EnvFits scope) (row_acts bodies row)
        → Stays l (statement_acts bodies (T.While x row))
    while_leads l x row f h = leads_by l scope (VariablesFit scope) (statement_acts bodies (T.While x row)) _ (while_is bodies x row) (λ s v g turns.
        turns_lead l x f (scoped (row_acts bodies row)) (scoped_leads true scope (row_acts bodies row) h) turns s v g turns)

    module _ (l : Bool) (x : Variable) (body : Acts) (h : Leads true (with_variable scope x) (EnvFits (with_variable scope x)) body) where
      declared_leads : (u : Value) → OfType x.kind u → Leads true scope (EnvFits scope) (λ s turns. body (declared s u) turns)
      declared_leads u f s v g turns =
          yields_weaker (Led true (EnvFits (with_variable scope x))) (Led true (EnvFits scope)) (body (declared s u) turns)
          (λ w led. (led.0, shrunk scope (with_variable scope x) (more x) w.1.env led.1, led.2))
          (h (declared s u) (declared_fit scope s.env x u v f) g turns)

      over_leads : (vs : List Value) → AllOf x.kind vs → Stays l (turns_over vs body)
      over_leads [] f s v g turns = (tt, v, g)
      over_leads (u ∷ vs) f s v g turns =
          yields_enter (After l) turns _ (λ turns.
          yields_followed (After true) (After l) (scoped (λ s turns. body (declared s u) turns) s turns) _
          (scoped_leads true scope (λ s turns. body (declared s u) turns) (declared_leads u (first_so (fits x.kind u) (list_all (fits x.kind) vs) f)) s v g turns)
          (again_leads l (turns_over vs body) (over_leads vs (second_so (fits x.kind u) (list_all (fits x.kind) vs) f))))

    for_leads : (l : Bool) (y : Code Slot) (row : List Statement) (t : SplType) (x : Variable) → CodeFits scope y t → GoesOver t x.kind
        → Leads true (with_variable scope x) (EnvFits (with_variable scope x)) (row_acts bodies row) → Stays l (statement_acts bodies (T.For y row))
    for_leads l y row t x f over h = leads_by l scope (VariablesFit scope) (statement_acts bodies (T.For y row)) _ (for_is bodies y row) (λ s v g turns.
        yields_followed (OfType t) (After l) (value_in bodies y s turns) _ (value_comes s v y t f turns) (λ u turns k.
        yields_need (AllOf x.kind) (After l) (level_elements (out-Value u)) _ (elements_there t x.kind over u k) (λ vs all. over_leads l x (row_acts bodies row) h vs all s v g turns)))

    -- ---- rows in statements

    block_leads : (l : Bool) (row : List Statement) → Leads l scope (EnvFits scope) (row_acts bodies row) → Stays l (statement_acts bodies (T.Block row))
    block_leads l row h = leads_by l scope (VariablesFit scope) (statement_acts bodies (T.Block row)) _ (block_is bodies row) (scoped_leads l scope (row_acts bodies row) h)

    arm_leads : (l : Bool) (x : Code Slot) (row : List Statement) (arms : List (Code Slot × List Statement)) (other : List Statement) → CodeFits scope x S.Bool
        → Leads l scope (EnvFits scope) (row_acts bodies row) → Stays l (arms_act bodies arms other) → Stays l (arms_act bodies ((x, row) ∷ arms) other)
    arm_leads l x row arms other f h k s v g turns =
        yields_followed AnyAnswer (After l) (truth_in bodies x s turns) _ (truth_comes s v x f turns) (λ b turns e.
        yields_either (After l) b (scoped (row_acts bodies row) s turns) (arms_act bodies arms other s turns) (scoped_leads l scope (row_acts bodies row) h s v g turns) (k s v g turns))

    if_leads : (l : Bool) (arms : List (Code Slot × List Statement)) (other : List Statement) → Stays l (arms_act bodies arms other) → Stays l (statement_acts bodies (T.If arms other))
    if_leads l arms other h = leads_by l scope (VariablesFit scope) (statement_acts bodies (T.If arms other)) _ (if_is bodies arms other) h

  -- ---- statements that fit

  grows : (l : Bool) (scope next : Scope) (x : Statement) → StatementFits purpose l scope x next → Grows scope next
  grows _ _ _ _ (B.block l scope row h) = same
  grows _ _ _ _ (B.declare l scope x v f) = more v
  grows _ _ _ _ (B.change l scope place change t p f) = same
  grows _ _ _ _ (B.evaluate l scope call xs t f) = same
  grows _ _ _ _ (B.call l scope i xs f at args) = same
  grows _ _ _ _ (B.if_else l scope arms other h k) = same
  grows _ _ _ _ (B.while l scope x row f h) = same
  grows _ _ _ _ (B.for_each l scope x row t v f over fixed h) = same
  grows _ _ _ _ (B.break scope) = same
  grows _ _ _ _ (B.continue scope) = same
  grows _ _ _ _ (B.return l scope x f) = same
  grows _ _ _ _ (B.submit l scope port x schema at f) = same
  grows _ _ _ _ (B.submit_window l scope port schema at) = same

  mutual
    pub statement_leads : (l : Bool) (scope next : Scope) (x : Statement) → StatementFits purpose l scope x next → BodiesFit scope.functions bodies
        → Leads l scope (VariablesFit next) (statement_acts bodies x)
    statement_leads _ _ _ _ (B.block l scope row h) fit = block_leads scope fit l row (row_leads l scope row h fit)
    statement_leads _ _ _ _ (B.declare l scope x v f) fit = declare_leads scope fit l x v f
    statement_leads _ _ _ _ (B.change l scope place change t p f) fit = place_leads scope fit l place change t p f
    statement_leads _ _ _ _ (B.evaluate l scope call xs t f) fit = evaluate_leads scope fit l _ t f
    statement_leads _ _ _ _ (B.call l scope i xs f at args) fit = call_leads scope fit l i xs f at args
    statement_leads _ _ _ _ (B.if_else l scope arms other h k) fit =
        if_leads scope fit l arms other (arms_lead l scope arms other h (row_leads l scope other k fit) fit)
    statement_leads _ _ _ _ (B.while l scope x row f h) fit = while_leads scope fit l x row f (row_leads true scope row h fit)
    statement_leads _ _ _ _ (B.for_each l scope x row t v f over fixed h) fit = for_leads scope fit l x row t v f over (row_leads true (with_variable scope v) row h fit)
    statement_leads _ _ _ _ (B.break scope) fit = leads_by true scope (VariablesFit scope) (statement_acts bodies T.Break) _ (break_is bodies) (λ s v g turns. (refl, v, g))
    statement_leads _ _ _ _ (B.continue scope) fit = leads_by true scope (VariablesFit scope) (statement_acts bodies T.Continue) _ (continue_is bodies) (λ s v g turns. (refl, v, g))
    statement_leads _ _ _ _ (B.return l scope x f) fit = return_leads scope fit l x f
    statement_leads _ _ _ _ (B.submit l scope port x schema at f) fit = submit_leads scope fit l port x schema at f
    statement_leads _ _ _ _ (B.submit_window l scope port schema at) fit = submit_window_leads scope fit l port schema at

    pub row_leads : (l : Bool) (scope : Scope) (row : List Statement) → RowFits purpose l scope row → BodiesFit scope.functions bodies
        → Leads l scope (EnvFits scope) (row_acts bodies row)
    row_leads _ _ _ (B.no_statements l scope) fit = λ s v g turns. (tt, v.env_fits, g)
    row_leads _ _ _ (B.statement l scope next x row h k) fit =
        let further = grows l scope next x h in
        first_leads l scope next x row further (statement_leads l scope next x h fit)
        (row_leads l next row k (same_functions scope next further (λ signatures. BodiesFit signatures bodies) fit))

    arms_lead : (l : Bool) (scope : Scope) (arms : List (Code Slot × List Statement)) (other : List Statement) → ArmsFit purpose l scope arms
        → Leads l scope (EnvFits scope) (row_acts bodies other) → BodiesFit scope.functions bodies → Leads l scope (VariablesFit scope) (arms_act bodies arms other)
    arms_lead _ _ _ other (B.no_arms l scope) k fit = scoped_leads l scope (row_acts bodies other) k
    arms_lead _ _ _ other (B.arm l scope x row arms f h i) k fit =
        arm_leads scope fit l x row arms other f (row_leads l scope row h fit) (arms_lead l scope arms other i k fit)
