-- Customs whose clauses fit: their state fits after each history that fits, and what they submit has the attributes of its streams.
use Rattle.std.proofs.Common.{◌≡◌, ◌<◌, ℕ, zero, suc, Bool, true, false, IsTrue, List, [], ◌∷◌, map, length, slice_get, Option, Some, None, if◌then◌else◌, refl, sym, ap, subst, ◌∙◌, arith}
use Rattle.std.specs.Option.{option_and_then, unwrap_or}
use Rattle.spl_value.specs.declared.item.Item.{Item}
use Rattle.spl_value.specs.declared.item.Item.TheVariants as I
use Rattle.spl_value.specs.declared.types.SplType.TheVariants as S
use Rattle.spl_value.specs.declared.value.Value.{Value}
use Rattle.spl_value.specs.declared.value.Value.TheVariants as V
use Rattle.spl_value.specs.Values.{fits}
use Rattle.spl_tree.specs.declared.body.Statement.{Statement}
use Rattle.spl_tree.specs.declared.code.Marker.{Marker}
use Rattle.spl_tree.specs.declared.code.Marker.TheVariants as M
use Rattle.spl_tree.specs.declared.graph.OpKind.{OpKind}
use Rattle.language_model.specs.declared.checked.Handlers.{Handlers}
use Rattle.language_model.specs.declared.checked.CheckedClauses.{CheckedClauses}
use Rattle.language_model.specs.declared.checked.CheckedClauses.TheVariants as A
use Rattle.language_model.specs.declared.checked.StateVariable.{StateVariable}
use Rattle.language_model.specs.declared.outs.Output.{Output}
use Rattle.language_model.specs.declared.scope.Port.{Port}
use Rattle.language_model.specs.declared.scope.Scope.{Scope}
use Rattle.language_model.specs.Evaluation.{world_of}
use Rattle.language_model.specs.Functions.{function_env}
use Rattle.language_model.specs.Keeping.{HandlersFit, PartFits}
use Rattle.language_model.specs.Keeping.PartFits.{custom}
use Rattle.language_model.specs.Outcomes.{Outcome, Done, Faulted, Stuck}
use Rattle.language_model.specs.Statements.{Left}
use Rattle.language_model.specs.StreamTypes.{Attributes}
use Rattle.language_model.specs.WorldFits.{FunctionsFit, ItemFits}
use Rattle.language_model.proofs.Yielding.{Yields, yields_followed}
use Rattle.evaluation_laws.specs.HandlerLaws.{AreOfPorts, HandlerLeft, IsOfPort, StateFits}
use Rattle.evaluation_laws.specs.OutcomeLaws.{EndsWithin}
use Rattle.evaluation_laws.proofs.Handling.{marker_handler, tuple_handler}
use Rattle.evaluation_laws.proofs.PlainCodes.{literal_law}
use Rattle.stream_model.specs.Stream.{Event}
use Rattle.stream_model.specs.Operators.{Operator}
use Rattle.stream_model.specs.Customs.{changed, custom_body, first_value, item_leaves, left_by, marker_env, state, vars_after}
use Rattle.stream_model.specs.parts.Customs.{tuple_env}
use Rattle.stream_model.proofs.parts.Customs.{value_or}
use Rattle.stream_model.specs.React.{makes_by}
use Rattle.stream_model.specs.Replies.{AllFit, ItemHas, given_attributes}
use Rattle.stream_model.specs.Fitting.{FitsAt, HasPort, HistoryFits, IsFitting, MakesFit}
use Rattle.stream_model.specs.Laws.{is_custom}
use Rattle.stream_model.proofs.SimpleFits.{as_makes}

-- ---- the handlers

-- where the clauses are handlers, these fit
pub handlers_fit : (scope : Scope) (kind : OpKind) (ins outs : List Attributes) (part : CheckedClauses) (handlers : Handlers) → PartFits scope kind ins outs part
    → part ≡ A.Custom handlers → HandlersFit scope outs handlers
handlers_fit scope kind ins outs part handlers (custom own _ _ fit) is = let same : own ≡ handlers = cc in subst (HandlersFit scope outs) same fit
handlers_fit scope kind ins outs part handlers _ is = absurd cc

-- ---- the state

-- one variable more
pub one_more : (x : StateVariable) (v : Value) (variables : List StateVariable) (values : List Value) → IsTrue (fits x.variable.kind v) → StateFits variables values
    → StateFits (x ∷ variables) (v ∷ values)
one_more x v variables values here rest = record { count = ap suc rest.count; each = each } where
  each : (k : ℕ) (y : StateVariable) → slice_get (x ∷ variables) k ≡ Some y → (u : Value) × (slice_get (v ∷ values) k ≡ Some u) × IsTrue (fits y.variable.kind u)
  each zero y at = let same : x ≡ y = cc in (v, refl, subst (λ (y : StateVariable). IsTrue (fits y.variable.kind v)) same here)
  each (suc k) y at = rest.each k y at

-- a variable less
first_there : (x : StateVariable) (v : Value) (variables : List StateVariable) (values : List Value) → StateFits (x ∷ variables) (v ∷ values) → IsTrue (fits x.variable.kind v)
first_there x v variables values h =
    let there = h.each zero x refl in
    let same : there.0 ≡ v = let e : Some v ≡ Some there.0 = there.1 in cc in
    subst (λ u. IsTrue (fits x.variable.kind u)) same there.2

rest_there : (x : StateVariable) (v : Value) (variables : List StateVariable) (values : List Value) → StateFits (x ∷ variables) (v ∷ values) → StateFits variables values
rest_there x v variables values h = record {
  count = let e : suc (length values) ≡ suc (length variables) = h.count in omega arith;
  each = λ k y at. h.each (suc k) y at;
}

-- each first value is of its variable's type
pub first_values_fit : (variables : List StateVariable) → ((k : ℕ) (x : StateVariable) → slice_get variables k ≡ Some x → IsTrue (fits x.variable.kind (first_value x)))
    → StateFits variables (map first_value variables)
first_values_fit [] each = record { count = refl; each = λ k x at. absurd cc }
first_values_fit (x ∷ variables) each =
    one_more x (first_value x) variables (map first_value variables) (each zero x refl) (first_values_fit variables (λ k y at. each (suc k) y at))

pub first_fits : (scope : Scope) (outs : List Attributes) (handlers : Handlers) → HandlersFit scope outs handlers → StateFits handlers.state (map first_value handlers.state)
first_fits scope outs handlers h = first_values_fit handlers.state (λ k x at.
    let v = literal_law x.first x.variable.kind (h.state k x at) (h.plain k x at) in
    subst (λ u. IsTrue (fits x.variable.kind u)) (sym (ap (value_or (V.Bool false)) (v.2 [] (world_of (function_env [])) 0))) v.1)

-- the variables that are mutable change, and the others keep their values: both are of their types
changed_fits : (variables : List StateVariable) (olds news : List Value) → StateFits variables olds → StateFits variables news → StateFits variables (changed variables olds news)
changed_fits [] olds news h k = h
changed_fits (x ∷ variables) [] news h k = h
changed_fits (x ∷ variables) (old ∷ olds) [] h k = h
changed_fits (x ∷ variables) (old ∷ olds) (new ∷ news) h k =
    one_more x (if x.variable.mutable then new else old) variables (changed variables olds news)
    (either x.variable.mutable (first_there x new variables news k) (first_there x old variables olds h))
    (changed_fits variables olds news (rest_there x old variables olds h) (rest_there x new variables news k)) where
      either : (b : Bool) → IsTrue (fits x.variable.kind new) → IsTrue (fits x.variable.kind old) → IsTrue (fits x.variable.kind (if b then new else old))
      either true h k = h
      either false h k = k

after_fits : (outs : List Attributes) (variables : List StateVariable) (vars : List Value) (o : Outcome Left) → StateFits variables vars → Yields (HandlerLeft outs variables) o
    → StateFits variables (vars_after variables vars o)
after_fits outs variables vars (Done left turns) h k = changed_fits variables vars left.vars h k.state_fits
after_fits outs variables vars (Faulted kind) h k = h
after_fits outs variables vars Stuck h k = h

-- ---- one event

as_yields : {A : Type 0} (P : A → Type 0) (turns : ℕ) (o : Outcome A) → EndsWithin P turns o → Yields P o
as_yields P turns (Done x left) h = h.0
as_yields P turns (Faulted kind) h = tt
as_yields P turns Stuck h = h

-- nothing done leaves the state, and submits nothing
nothing_left : (outs : List Attributes) (variables : List StateVariable) (vars : List Value) → StateFits variables vars
    → HandlerLeft outs variables (record { vars = vars; submits = []; returned = None })
nothing_left outs variables vars h = record { state_fits = h; submits = λ i o at. absurd cc }

-- a port that an operator has is one of the scope, with its attributes
pub port_there : (ports : List Port) (i : ℕ) → i < length (map (λ (p : Port). p.schema) ports)
    → (p : Port) × (slice_get ports i ≡ Some p) × (unwrap_or (slice_get (map (λ (p : Port). p.schema) ports) i) [] ≡ p.schema)
port_there [] i lt = absurd (let no : i < 0 = lt in omega arith)
port_there (p ∷ ports) zero lt = (p, refl, refl)
port_there (p ∷ ports) (suc i) lt = port_there ports i (let le : suc i < suc (length (map (λ (p : Port). p.schema) ports)) = lt in omega arith)

-- what an operator has: its handlers and what fits of them
pub record Fitted (op : Operator) (handlers : Handlers) : Type 0 where
  pub scope : Scope
  pub functions : FunctionsFit scope.functions op.functions
  pub ports : map (λ (p : Port). p.schema) scope.ports ≡ op.types.ins
  pub handlers_fit : HandlersFit scope op.types.outs handlers

pub fitted : (op : Operator) (handlers : Handlers) → IsFitting op → op.clauses ≡ A.Custom handlers → Fitted op handlers
fitted op handlers fit is = record {
  scope = fit.scope;
  functions = subst (λ s. FunctionsFit s op.functions) (sym fit.names.functions) fit.functions;
  ports = fit.names.ports;
  handlers_fit = handlers_fit fit.scope fit.kind op.types.ins op.types.outs op.clauses handlers fit.clauses is;
}

-- what an item leaves
abbrev Leaving : Operator → Handlers → Outcome Left → Type 0
Leaving op handlers o = Yields (HandlerLeft op.types.outs handlers.state) o

tuple_leaves : (op : Operator) (handlers : Handlers) → Fitted op handlers → (vars : List Value) → StateFits handlers.state vars → (port : ℕ) (vs : List Value)
    → HasPort op port (I.Tuple vs) → Leaving op handlers (item_leaves op.functions handlers vars port (I.Tuple vs))
tuple_leaves op handlers fit vars h port vs has = by_case (slice_get handlers.on_tuple port) refl where
  there : (p : Port) × (slice_get fit.scope.ports port ≡ Some p) × (unwrap_or (slice_get op.types.ins port) [] ≡ p.schema)
  there = subst (λ ins. (port < length ins) → (p : Port) × (slice_get fit.scope.ports port ≡ Some p) × (unwrap_or (slice_get ins port) [] ≡ p.schema)) fit.ports
      (port_there fit.scope.ports port) has.0

  by_case : (o : Option (Option (List Statement))) → slice_get handlers.on_tuple port ≡ o
      → Leaving op handlers (left_by op.functions (option_and_then (λ b. b) o) (tuple_env vars vs))
  by_case None at = nothing_left op.types.outs handlers.state vars h
  by_case (Some None) at = nothing_left op.types.outs handlers.state vars h
  by_case (Some (Some body)) at =
      as_yields _ _ _
      (tuple_handler op.functions fit.scope op.types.outs handlers fit.handlers_fit fit.functions port there.0 body there.1 at (tuple_env vars vs) vs h refl
      (subst (λ schema. IsTrue (fits (S.Tuple schema) (V.Tuple vs))) there.2 has.1) _)

marker_leaves : (op : Operator) (handlers : Handlers) → Fitted op handlers → (vars : List Value) → StateFits handlers.state vars → (port : ℕ) (m : Marker)
    → Leaving op handlers (left_by op.functions (option_and_then (λ b. b) (slice_get handlers.on_punct port)) (marker_env vars m))
marker_leaves op handlers fit vars h port m = by_case (slice_get handlers.on_punct port) refl where
  by_case : (o : Option (Option (List Statement))) → slice_get handlers.on_punct port ≡ o
      → Leaving op handlers (left_by op.functions (option_and_then (λ b. b) o) (marker_env vars m))
  by_case None at = nothing_left op.types.outs handlers.state vars h
  by_case (Some None) at = nothing_left op.types.outs handlers.state vars h
  by_case (Some (Some body)) at =
      as_yields _ _ _
      (marker_handler op.functions fit.scope op.types.outs handlers fit.handlers_fit fit.functions port body at (marker_env vars m) m h refl _)

-- where the state fits, an item that fits leaves a state that fits and submits what is of its ports, or gives a fault
item_fits : (op : Operator) (handlers : Handlers) → Fitted op handlers → (vars : List Value) → StateFits handlers.state vars → (port : ℕ) (x : Item)
    → HasPort op port x → Leaving op handlers (item_leaves op.functions handlers vars port x)
item_fits op handlers fit vars h port (I.Tuple vs) has = tuple_leaves op handlers fit vars h port vs has
item_fits op handlers fit vars h port I.Window has = marker_leaves op handlers fit vars h port M.Window
item_fits op handlers fit vars h port I.Final has = marker_leaves op handlers fit vars h port M.Final
item_fits op handlers fit vars h port (I.Bad f) has = nothing_left op.types.outs handlers.state vars h

-- ---- a history

-- the state fits after each history that fits
state_fits : (op : Operator) (handlers : Handlers) → Fitted op handlers → (h : List Event) → HistoryFits op h → StateFits handlers.state (state op.functions handlers h)
state_fits op handlers fit [] history = first_fits fit.scope op.types.outs handlers fit.handlers_fit
state_fits op handlers fit (e ∷ h) history =
    let before = state_fits op handlers fit h history.1 in
    after_fits op.types.outs handlers.state (state op.functions handlers h) _ before
    (item_fits op handlers fit (state op.functions handlers h) before e.input e.item history.0)

-- ---- what is submitted

-- an item of an output port has its attributes
item_has : (schema : Attributes) (x : Item) → ItemFits schema x → ItemHas schema x
item_has schema (I.Tuple vs) h = h
item_has schema I.Window h = refl
item_has schema I.Final h = refl
item_has schema (I.Bad f) h = refl

given_by : (op : Operator) (part : CheckedClauses) → is_custom part ≡ true → (p : ℕ) → given_attributes part op p ≡ unwrap_or (slice_get op.types.outs p) []
given_by op (A.Custom handlers) is p = refl
given_by op _ is p = absurd cc

submits_fit : (op : Operator) → is_custom op.clauses ≡ true → (submits : List Output) → AreOfPorts op.types.outs submits → AllFit op submits
submits_fit op kind submits h i o at =
    let there : IsOfPort op.types.outs o = h i o at in
    let same : given_attributes op.clauses op o.port ≡ there.0 = given_by op op.clauses kind o.port ∙ ap (λ found. unwrap_or found []) there.1 in
    subst (λ schema. ItemHas schema o.item) (sym same) (item_has there.0 o.item there.2)

custom_makes : (op : Operator) (handlers : Handlers) (h : List Event) (port : ℕ) (x : Item) → is_custom op.clauses ≡ true → Fitted op handlers → HistoryFits op h
    → HasPort op port x → MakesFit op (custom_body op.functions handlers h port x)
custom_makes op handlers h port x kind fit history has =
    as_makes op (custom_body op.functions handlers h port x)
    (yields_followed (HandlerLeft op.types.outs handlers.state) (AllFit op) (item_leaves op.functions handlers (state op.functions handlers h) port x) _
    (item_fits op handlers fit (state op.functions handlers h) (state_fits op handlers fit h history) port x has)
    (λ left turns is. submits_fit op kind left.submits is.submits))

-- a Custom whose clauses fit makes what fits, or gives a fault
pub custom_fits : FitsAt is_custom
custom_fits op h port x kind fit history calm has = by_case op.clauses refl kind where
  by_case : (part : CheckedClauses) → op.clauses ≡ part → is_custom part ≡ true → MakesFit op (makes_by part op h port x)
  by_case (A.Custom handlers) is holds = custom_makes op handlers h port x kind (fitted op handlers fit is) history has
  by_case _ is holds = absurd cc
