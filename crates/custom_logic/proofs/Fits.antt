-- The bodies of a Custom fit what they run in, and leave a state that fits.
use Rattle.std.proofs.Common.{◌≡◌, ◌<◌, ℕ, zero, suc, true≢false, Bool, true, false, if◌then◌else◌, IsTrue, List, [], ◌∷◌, map, length, slice_get, Option, Some, None, option_map, refl, sym, ap, subst, ◌∙◌, arith}
use Rattle.std.specs.Option.{option_and_then, unwrap_or}
use Rattle.std.proofs.lemmas.Option.{slice_get-map}
use Rattle.std.proofs.lemmas.List.{length-map}
use Rattle.spl_value.specs.Values.{fits}
use Rattle.spl_value.specs.declared.item.Item.{Item}
use Rattle.spl_value.specs.declared.item.Item.TheVariants as I
use Rattle.spl_value.specs.declared.types.SplType.TheVariants as S
use Rattle.spl_value.specs.declared.value.Value.{Value}
use Rattle.spl_value.specs.declared.value.Value.TheVariants as V
use Rattle.spl_tree.specs.declared.body.Function.{Function}
use Rattle.spl_tree.specs.declared.body.Statement.{Statement}
use Rattle.spl_tree.specs.declared.code.Marker.{Marker}
use Rattle.spl_tree.specs.declared.code.Marker.TheVariants as M
use Rattle.language_model.specs.declared.checked.Handlers.{Handlers}
use Rattle.language_model.specs.declared.checked.CheckedClauses.TheVariants as A
use Rattle.language_model.specs.declared.checked.StateVariable.{StateVariable}
use Rattle.language_model.specs.declared.env.Env.{Env}
use Rattle.language_model.specs.declared.scope.Port.{Port}
use Rattle.language_model.specs.declared.scope.Scope.{Scope}
use Rattle.language_model.specs.declared.scope.Variable.{Variable}
use Rattle.language_model.specs.BodyFits.{OfHandler}
use Rattle.language_model.specs.Keeping.{marker_scope, tuple_scope}
use Rattle.language_model.specs.Outcomes.{Outcome, Done}
use Rattle.language_model.specs.Statements.{Left}
use Rattle.language_model.specs.StreamTypes.{Attributes}
use Rattle.language_model.specs.ValueLaws.{BodyLeavesLaw}
use Rattle.language_model.specs.WorldFits.{BodyFits, Leaves, VariablesFit}
use Rattle.evaluation_laws.specs.HandlerLaws.{StateFits}
use Rattle.evaluation_laws.specs.ImmutableLaws.{ImmutableLaw}
use Rattle.stream_model.specs.Bodies.{most_turns}
use Rattle.stream_model.specs.Customs.{changed, handler, item_leaves, left_by, marker_env}
use Rattle.stream_model.specs.parts.Customs.{tuple_env}
use Rattle.stream_model.specs.Operators.{Operator}
use Rattle.stream_model.specs.Fitting.{HasPort}
use Rattle.custom_logic.specs.steps.Running.{MayRun, MayRunOn}
use Rattle.port_reacts.proofs.CustomFits.{port_there, handlers_fit, Fitted}
use Rattle.spl_value.proofs.Results.{some_same}

-- ---- the environment

record Mapped {A B : Type 0} (v : A → B) (o : Option A) (y : B) : Type 0 where
  from : A
  is : o ≡ Some from
  gives : v from ≡ y

mapped : {A B : Type 0} (v : A → B) (o : Option A) (y : B) → option_map v o ≡ Some y → Mapped v o y
mapped v None y e = absurd cc
mapped v (Some a) y e = record { from = a; is = refl; gives = some_same (v a) y e }

abbrev variable_of : StateVariable → Variable
variable_of x = x.variable

vars_at : (handlers : Handlers) (vars : List Value) → StateFits handlers.state vars → (i : ℕ) (x : Variable) → slice_get (map variable_of handlers.state) i ≡ Some x
    → (v : Value) × (slice_get vars i ≡ Some v) × IsTrue (fits x.kind v)
vars_at handlers vars f i x at =
    let m = mapped variable_of (slice_get handlers.state i) x (sym (slice_get-map variable_of handlers.state i) ∙ at) in
    let w = f.each i m.from m.is in
    (w.0, w.1, subst (λ y. IsTrue (fits y.kind w.0)) m.gives w.2)

input_at : (p : Port) (vs : List Value) → IsTrue (fits (S.Tuple p.schema) (V.Tuple vs)) → (i : ℕ) (q : Port) → slice_get (p ∷ []) i ≡ Some q
    → (us : List Value) × (slice_get (vs ∷ []) i ≡ Some us) × IsTrue (fits (S.Tuple q.schema) (V.Tuple us))
input_at p vs t zero q at = (vs, refl, subst (λ r. IsTrue (fits (S.Tuple r.schema) (V.Tuple vs))) (some_same p q at) t)
input_at p vs t (suc i) q at = absurd cc

tuple_vars : (scope : Scope) (handlers : Handlers) (p : Port) (vars vs : List Value) → StateFits handlers.state vars → IsTrue (fits (S.Tuple p.schema) (V.Tuple vs))
    → VariablesFit (tuple_scope scope handlers.state p) (tuple_env vars vs)
tuple_vars scope handlers p vars vs f t = record {
  env_fits = record { variables = λ i x at. vars_at handlers vars f i x at; inputs = λ i q at. input_at p vs t i q at; marker = λ none. absurd (true≢false (sym none)) };
  count = f.count ∙ sym (length-map handlers.state variable_of);
}

no_input : (i : ℕ) (q : Port) → slice_get [] i ≡ Some q → (us : List Value) × (slice_get [] i ≡ Some us) × IsTrue (fits (S.Tuple q.schema) (V.Tuple us))
no_input i q at = absurd cc

marker_vars : (scope : Scope) (handlers : Handlers) (vars : List Value) (m : Marker) → StateFits handlers.state vars → VariablesFit (marker_scope scope handlers.state) (marker_env vars m)
marker_vars scope handlers vars m f = record {
  env_fits = record { variables = λ i x at. vars_at handlers vars f i x at; inputs = λ i q at. no_input i q at; marker = λ is. (m, refl) };
  count = f.count ∙ sym (length-map handlers.state variable_of);
}

-- the variables that a body leaves are those of the state
vars_back : (handlers : Handlers) (scope : Scope) (env : Env) → scope.vars ≡ map variable_of handlers.state → VariablesFit scope env → StateFits handlers.state env.vars
vars_back handlers scope env e f = record {
  count = f.count ∙ ap length e ∙ length-map handlers.state variable_of;
  each = λ i x at. f.env_fits.variables i x.variable (ap (λ vs. slice_get vs i) e ∙ slice_get-map variable_of handlers.state i ∙ ap (option_map variable_of) at);
}

-- ---- bodies

-- a body of the operator, where there is one, fits in a scope with the state's variables
abbrev Ready : List Function → Handlers → List Attributes → Option (List Statement) → Env → Type 0
Ready functions handlers outs None env = Unit {0}
Ready functions handlers outs (Some body) env = (scope : Scope) × BodyFits functions body env (OfHandler outs) scope × (scope.vars ≡ map variable_of handlers.state)

may_run : (functions : List Function) (handlers : Handlers) (outs : List Attributes) (body : Option (List Statement)) (env : Env)
    → Ready functions handlers outs body env → MayRun functions body env
may_run functions handlers outs None env r = tt
may_run functions handlers outs (Some body) env r = (OfHandler outs, r.0, r.1)

tuple_ready : (op : Operator) (handlers : Handlers) → Fitted op handlers → (vars : List Value) → StateFits handlers.state vars → (port : ℕ) (vs : List Value)
    → HasPort op port (I.Tuple vs) → Ready op.functions handlers op.types.outs (handler handlers.on_tuple port) (tuple_env vars vs)
tuple_ready op handlers fit vars f port vs has = by_case (slice_get handlers.on_tuple port) refl where
  there : (p : Port) × (slice_get fit.scope.ports port ≡ Some p) × (unwrap_or (slice_get op.types.ins port) [] ≡ p.schema)
  there = subst (λ ins. (port < length ins) → (p : Port) × (slice_get fit.scope.ports port ≡ Some p) × (unwrap_or (slice_get ins port) [] ≡ p.schema)) fit.ports
      (port_there fit.scope.ports port) has.0

  by_case : (o : Option (Option (List Statement))) → slice_get handlers.on_tuple port ≡ o
      → Ready op.functions handlers op.types.outs (option_and_then (λ b. b) o) (tuple_env vars vs)
  by_case None at = tt
  by_case (Some None) at = tt
  by_case (Some (Some body)) at = (
    tuple_scope fit.scope handlers.state there.0,
    record {
      row_fits = fit.handlers_fit.on_tuple port there.0 body there.1 at;
      returns = λ t e. absurd cc;
      variables_fit = tuple_vars fit.scope handlers there.0 vars vs f (subst (λ schema. IsTrue (fits (S.Tuple schema) (V.Tuple vs))) there.2 has.1);
      functions_fit = fit.functions;
    },
    refl,
  )

marker_ready : (op : Operator) (handlers : Handlers) → Fitted op handlers → (vars : List Value) → StateFits handlers.state vars → (port : ℕ) (m : Marker)
    → Ready op.functions handlers op.types.outs (handler handlers.on_punct port) (marker_env vars m)
marker_ready op handlers fit vars f port m = by_case (slice_get handlers.on_punct port) refl where
  by_case : (o : Option (Option (List Statement))) → slice_get handlers.on_punct port ≡ o
      → Ready op.functions handlers op.types.outs (option_and_then (λ b. b) o) (marker_env vars m)
  by_case None at = tt
  by_case (Some None) at = tt
  by_case (Some (Some body)) at = (
    marker_scope fit.scope handlers.state,
    record {
      row_fits = fit.handlers_fit.on_punct port body at;
      returns = λ t e. absurd cc;
      variables_fit = marker_vars fit.scope handlers vars m f;
      functions_fit = fit.functions;
    },
    refl,
  )

-- the body for an item that fits may run
pub runs_on : (op : Operator) (handlers : Handlers) → Fitted op handlers → (vars : List Value) → StateFits handlers.state vars → (port : ℕ) (x : Item)
    → HasPort op port x → MayRunOn op.functions handlers vars port x
runs_on op handlers fit vars f port (I.Tuple vs) has = may_run op.functions handlers op.types.outs _ _ (tuple_ready op handlers fit vars f port vs has)
runs_on op handlers fit vars f port I.Window has = may_run op.functions handlers op.types.outs _ _ (marker_ready op handlers fit vars f port M.Window)
runs_on op handlers fit vars f port I.Final has = may_run op.functions handlers op.types.outs _ _ (marker_ready op handlers fit vars f port M.Final)
runs_on op handlers fit vars f port (I.Bad g) has = tt

-- ---- what is left

-- where the variables that aren't mutable are as they were, what is left is what the state becomes
all_changed : (variables : List StateVariable) (olds news : List Value) → length news ≡ length variables → length olds ≡ length variables
    → ((i : ℕ) (x : StateVariable) → slice_get variables i ≡ Some x → x.variable.mutable ≡ false → slice_get news i ≡ slice_get olds i)
    → changed variables olds news ≡ news
all_changed [] [] [] n o kept = refl
all_changed [] (old ∷ olds) news n o kept = absurd (omega (arith, o))
all_changed [] [] (new ∷ news) n o kept = absurd (omega (arith, n))
all_changed (x ∷ variables) [] news n o kept = absurd (omega (arith, o))
all_changed (x ∷ variables) (old ∷ olds) [] n o kept = absurd (omega (arith, n))
all_changed (x ∷ variables) (old ∷ olds) (new ∷ news) n o kept =
    let rest = all_changed variables olds news (omega (arith, n)) (omega (arith, o)) (λ i y. kept (suc i) y) in
    λ i. first x.variable.mutable (kept zero x refl) i ∷ rest i
  where
    first : (b : Bool) → (b ≡ false → Some new ≡ Some old) → (if b then new else old) ≡ new
    first true same = refl
    first false same = sym (some_same new old (same refl))

-- a state that fits, and is what is left
pub record LeftState (variables : List StateVariable) (olds news : List Value) : Type 0 where
  pub fit : StateFits variables news
  pub is : changed variables olds news ≡ news

abbrev vars_of : List Value → Outcome Left → List Value
vars_of other (Done left turns) = left.vars
vars_of other _ = other

left_state : (functions : List Function) (handlers : Handlers) (outs : List Attributes) (body : Option (List Statement)) (env : Env) (l : Left) (turns : ℕ) → BodyLeavesLaw → ImmutableLaw
    → Ready functions handlers outs body env → StateFits handlers.state env.vars → left_by functions body env ≡ Done l turns → LeftState handlers.state env.vars l.vars
left_state functions handlers outs None env l turns law immutable r f is =
    let same : env.vars ≡ l.vars = ap (vars_of env.vars) is in
    subst (LeftState handlers.state env.vars) same (record { fit = f; is = all_changed handlers.state env.vars env.vars f.count f.count (λ i x at m. refl) })
left_state functions handlers outs (Some body) env l turns law immutable r f is =
    let whole : Leaves (OfHandler outs) r.0 env (Done l turns) = subst (Leaves (OfHandler outs) r.0 env) is (law functions body env (OfHandler outs) r.0 r.1 most_turns most_turns) in
    let back = vars_back handlers r.0 (record { inputs = env.inputs; vars = l.vars; punct = env.punct }) r.2 whole.variables_fit in
    let same = r.1.variables_fit.count in
    record {
      fit = back;
      is = all_changed handlers.state env.vars l.vars back.count f.count
          (λ i x at m. immutable functions (OfHandler outs) false r.0 body env most_turns turns l r.1.row_fits (omega (arith, same)) is i x.variable
          (ap (λ vs. slice_get vs i) r.2 ∙ slice_get-map variable_of handlers.state i ∙ ap (option_map variable_of) at) m);
    }

-- an item that fits leaves a state that fits
pub item_state : (op : Operator) (handlers : Handlers) → BodyLeavesLaw → ImmutableLaw → Fitted op handlers → (vars : List Value) → StateFits handlers.state vars → (port : ℕ) (x : Item)
    → HasPort op port x → (l : Left) (turns : ℕ) → item_leaves op.functions handlers vars port x ≡ Done l turns → LeftState handlers.state vars l.vars
item_state op handlers law immutable fit vars f port (I.Tuple vs) has l turns is =
    left_state op.functions handlers op.types.outs (handler handlers.on_tuple port) (tuple_env vars vs) l turns law immutable (tuple_ready op handlers fit vars f port vs has) f is
item_state op handlers law immutable fit vars f port I.Window has l turns is =
    left_state op.functions handlers op.types.outs (handler handlers.on_punct port) (marker_env vars M.Window) l turns law immutable (marker_ready op handlers fit vars f port M.Window) f is
item_state op handlers law immutable fit vars f port I.Final has l turns is =
    left_state op.functions handlers op.types.outs (handler handlers.on_punct port) (marker_env vars M.Final) l turns law immutable (marker_ready op handlers fit vars f port M.Final) f is
item_state op handlers law immutable fit vars f port (I.Bad g) has l turns is =
    left_state op.functions handlers op.types.outs None (record { inputs = []; vars = vars; punct = None }) l turns law immutable tt f is
