-- Handlers that fit leave a state that fits, and submit what is of their ports.
use Rattle.std.specs.Prelude.{◌≡◌, ℕ, zero, suc, false, IsTrue, List, [], ◌∷◌, map, length, slice_get, Option, Some, None}
use Rattle.std.specs.Option.{option_map}
use Rattle.std.proofs.Common.{refl, sym, ap, subst, ◌∙◌}
use Rattle.std.proofs.lemmas.List.{length-map}
use Rattle.std.proofs.lemmas.Option.{slice_get-map}
use Rattle.spl_value.specs.declared.types.SplType.TheVariants as S
use Rattle.spl_value.specs.declared.value.Value.{Value}
use Rattle.spl_value.specs.declared.value.Value.TheVariants as V
use Rattle.spl_value.specs.Values.{fits}
use Rattle.spl_tree.specs.declared.body.Function.{Function}
use Rattle.spl_tree.specs.declared.body.Statement.{Statement}
use Rattle.spl_tree.specs.declared.code.Marker.{Marker}
use Rattle.language_model.specs.declared.checked.StateVariable.{StateVariable}
use Rattle.language_model.specs.declared.env.Env.{Env}
use Rattle.language_model.specs.declared.scope.Port.{Port}
use Rattle.language_model.specs.declared.scope.Scope.{Scope}
use Rattle.language_model.specs.declared.scope.Variable.{Variable}
use Rattle.language_model.specs.BodyFits.{OfHandler, RowFits}
use Rattle.language_model.specs.Functions.{runs}
use Rattle.language_model.specs.Keeping.{tuple_scope, marker_scope}
use Rattle.language_model.specs.Outcomes.{Outcome, Done, Faulted, Stuck}
use Rattle.language_model.specs.Statements.{Left}
use Rattle.language_model.specs.StreamTypes.{Attributes}
use Rattle.language_model.specs.WorldFits.{BodyFits, FunctionsFit, Leaves, LeftFits, VariablesFit}
use Rattle.language_model.proofs.Calling.{body_leaves_law}
use Rattle.evaluation_laws.specs.HandlerLaws.{StateFits, HandlerSubmitsLaw, HandlerLeft, TupleHandlerLaw, MarkerHandlerLaw}
use Rattle.evaluation_laws.specs.OutcomeLaws.{EndsWithin}
use Rattle.evaluation_laws.proofs.FittingOutcomes.{runs_not_stuck}

-- ---- a handler where it runs

-- no handler has a result
handler_fits : (functions : List Function) (row : List Statement) (env : Env) (outs : List Attributes) (scope : Scope) → RowFits (OfHandler outs) false scope row
    → VariablesFit scope env → FunctionsFit scope.functions functions → BodyFits functions row env (OfHandler outs) scope
handler_fits functions row env outs scope h v f = record { row_fits = h; returns = λ t none. absurd cc; variables_fit = v; functions_fit = f }

pub handler_submits : HandlerSubmitsLaw
handler_submits functions row env outs scope h v f turns rest left e =
    let fit : LeftFits (OfHandler outs) scope env left =
    subst (Leaves (OfHandler outs) scope env) e (body_leaves_law functions row env (OfHandler outs) scope (handler_fits functions row env outs scope h v f) turns turns) in
    fit.submits

-- ---- the variables of a state

abbrev variables_of : List StateVariable → List Variable
variables_of state = map (λ x. x.variable) state

-- a variable is that of its place in the state
variable_there : (state : List StateVariable) (values : List Value) → StateFits state values → (i : ℕ) (x : Variable) → slice_get (variables_of state) i ≡ Some x
    → (v : Value) × (slice_get values i ≡ Some v) × IsTrue (fits x.kind v)
variable_there state values h i x e = by_case (slice_get state i) refl where
  by_case : (o : Option StateVariable) → slice_get state i ≡ o → (v : Value) × (slice_get values i ≡ Some v) × IsTrue (fits x.kind v)
  by_case None at = absurd (let none : None ≡ Some x = ap (option_map (λ (x : StateVariable). x.variable)) (sym at) ∙ sym (slice_get-map (λ (x : StateVariable). x.variable) state i) ∙ e in cc)
  by_case (Some y) at =
      let both : Some y.variable ≡ Some x = ap (option_map (λ (x : StateVariable). x.variable)) (sym at) ∙ sym (slice_get-map (λ (x : StateVariable). x.variable) state i) ∙ e in
      let same : y.variable ≡ x = cc in
      let there = h.each i y at in
      (there.0, there.1, subst (λ (x : Variable). IsTrue (fits x.kind there.0)) same there.2)

state_again : (state : List StateVariable) (scope : Scope) (env : Env) → scope.vars ≡ variables_of state → VariablesFit scope env → StateFits state env.vars
state_again state scope env e h = record {
  count = h.count ∙ ap length e ∙ length-map state (λ (x : StateVariable). x.variable);
  each = λ i x at. h.env_fits.variables i x.variable (ap (λ vars. slice_get vars i) e ∙ slice_get-map (λ (x : StateVariable). x.variable) state i ∙ ap (option_map (λ (x : StateVariable). x.variable)) at);
}

-- ---- environments

tuple_there : (port : Port) (inputs : List (List Value)) (tuple : List Value) → slice_get inputs 0 ≡ Some tuple → IsTrue (fits (S.Tuple port.schema) (V.Tuple tuple))
    → (i : ℕ) (p : Port) → slice_get (port ∷ []) i ≡ Some p → (vs : List Value) × (slice_get inputs i ≡ Some vs) × IsTrue (fits (S.Tuple p.schema) (V.Tuple vs))
tuple_there port inputs tuple at h zero p e = let same : port ≡ p = cc in (tuple, at, subst (λ (p : Port). IsTrue (fits (S.Tuple p.schema) (V.Tuple tuple))) same h)
tuple_there port inputs tuple at h (suc i) p e = absurd cc

tuple_fits : (scope : Scope) (state : List StateVariable) (port : Port) (env : Env) (tuple : List Value) → StateFits state env.vars → slice_get env.inputs 0 ≡ Some tuple
    → IsTrue (fits (S.Tuple port.schema) (V.Tuple tuple)) → VariablesFit (tuple_scope scope state port) env
tuple_fits scope state port env tuple h at t = record {
  env_fits = record { variables = variable_there state env.vars h; inputs = tuple_there port env.inputs tuple at t; marker = λ none. absurd cc };
  count = h.count ∙ sym (length-map state (λ (x : StateVariable). x.variable));
}

marker_fits : (scope : Scope) (state : List StateVariable) (env : Env) (marker : Marker) → StateFits state env.vars → env.punct ≡ Some marker
    → VariablesFit (marker_scope scope state) env
marker_fits scope state env marker h at = record {
  env_fits = record { variables = variable_there state env.vars h; inputs = λ i p e. absurd cc; marker = λ is. (marker, at) };
  count = h.count ∙ sym (length-map state (λ (x : StateVariable). x.variable));
}

-- ---- the laws

handler_ends : (outs : List Attributes) (state : List StateVariable) (scope : Scope) (env : Env) → scope.vars ≡ variables_of state → (turns : ℕ) (o : Outcome Left)
    → EndsWithin (LeftFits (OfHandler outs) scope env) turns o → EndsWithin (HandlerLeft outs state) turns o
handler_ends outs state scope env e turns (Done left rest) h = (
  record {
    state_fits = state_again state scope (record { inputs = env.inputs; vars = left.vars; punct = env.punct }) e h.0.variables_fit;
    submits = h.0.submits;
  },
  h.1,
)
handler_ends outs state scope env e turns (Faulted kind) h = tt
handler_ends outs state scope env e turns Stuck h = h

pub tuple_handler : TupleHandlerLaw
tuple_handler functions scope outs handlers h f k port body there at env tuple is came t turns =
    let inside = tuple_scope scope handlers.state port in
    handler_ends outs handlers.state inside env refl turns (runs functions body env turns)
    (runs_not_stuck functions body env (OfHandler outs) inside
    (handler_fits functions body env outs inside (h.on_tuple k port body there at) (tuple_fits scope handlers.state port env tuple is came t) f) turns)

pub marker_handler : MarkerHandlerLaw
marker_handler functions scope outs handlers h f k body at env marker is came turns =
    let inside = marker_scope scope handlers.state in
    handler_ends outs handlers.state inside env refl turns (runs functions body env turns)
    (runs_not_stuck functions body env (OfHandler outs) inside
    (handler_fits functions body env outs inside (h.on_punct k body at) (marker_fits scope handlers.state env marker is came) f) turns)
