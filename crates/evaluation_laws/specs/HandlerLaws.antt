-- What the handlers of a Custom find in its state, what they leave of it and what they submit.
use Rattle.std.specs.Prelude.{◌≡◌, ℕ, false, IsTrue, List, length, slice_get, Some}
use Rattle.spl_value.specs.declared.types.SplType.TheVariants as S
use Rattle.spl_value.specs.declared.value.Value.{Value}
use Rattle.spl_value.specs.declared.value.Value.TheVariants as V
use Rattle.spl_value.specs.Values.{fits}
use Rattle.spl_tree.specs.declared.body.Function.{Function}
use Rattle.spl_tree.specs.declared.body.Statement.{Statement}
use Rattle.spl_tree.specs.declared.code.Marker.{Marker}
use Rattle.language_model.specs.declared.checked.Handlers.{Handlers}
use Rattle.language_model.specs.declared.checked.StateVariable.{StateVariable}
use Rattle.language_model.specs.declared.env.Env.{Env}
use Rattle.language_model.specs.declared.outs.Output.{Output}
use Rattle.language_model.specs.declared.scope.Port.{Port}
use Rattle.language_model.specs.declared.scope.Scope.{Scope}
use Rattle.language_model.specs.BodyFits.{OfHandler, RowFits}
use Rattle.language_model.specs.Functions.{runs}
use Rattle.language_model.specs.Keeping.{HandlersFit}
use Rattle.language_model.specs.Outcomes.{Done}
use Rattle.language_model.specs.Statements.{Left}
use Rattle.language_model.specs.StreamTypes.{Attributes}
use Rattle.language_model.specs.WorldFits.{FunctionsFit, ItemFits, VariablesFit}
use Rattle.evaluation_laws.specs.LiteralLaws.{IsAlways}
use Rattle.evaluation_laws.specs.OutcomeLaws.{EndsWithin}

-- ---- the state

-- each variable of the state has a value of its type, and there is no other
pub record StateFits (state : List StateVariable) (values : List Value) : Type 0 where
  pub count : length values ≡ length state
  pub each : (k : ℕ) (x : StateVariable) → slice_get state k ≡ Some x → (v : Value) × (slice_get values k ≡ Some v) × IsTrue (fits x.variable.kind v)

-- these are what the variables hold first: each has the value of its code, wherever that is evaluated
pub record AreFirst (state : List StateVariable) (values : List Value) : Type 0 where
  pub fit : StateFits state values
  pub first : (k : ℕ) (x : StateVariable) → slice_get state k ≡ Some x → (v : Value) × (slice_get values k ≡ Some v) × IsAlways x.first v

abbrev pub FirstValuesLaw : Type 0
FirstValuesLaw = (scope : Scope) (outs : List Attributes) (handlers : Handlers) → HandlersFit scope outs handlers
    → (values : List Value) × AreFirst handlers.state values

-- ---- submits

-- the port is there, and the item is a tuple of its attributes or a window marker
abbrev pub IsOfPort : List Attributes → Output → Type 0
IsOfPort outs o = (schema : Attributes) × (slice_get outs o.port ≡ Some schema) × ItemFits schema o.item

abbrev pub AreOfPorts : List Attributes → List Output → Type 0
AreOfPorts outs submits = (i : ℕ) (o : Output) → slice_get submits i ≡ Some o → IsOfPort outs o

-- what a handler that fits submits is of its ports
abbrev pub HandlerSubmitsLaw : Type 0
HandlerSubmitsLaw = (functions : List Function) (row : List Statement) (env : Env) (outs : List Attributes) (scope : Scope)
    → RowFits (OfHandler outs) false scope row → VariablesFit scope env → FunctionsFit scope.functions functions
    → (turns rest : ℕ) (left : Left) → runs functions row env turns ≡ Done left rest → AreOfPorts outs left.submits

-- ---- from one event to the next

-- the state fits again, and the submits are of the ports
pub record HandlerLeft (outs : List Attributes) (state : List StateVariable) (left : Left) : Type 0 where
  pub state_fits : StateFits state left.vars
  pub submits : AreOfPorts outs left.submits

-- where the state fits, and the tuple of its port came, a handler of tuples ends with this or with a fault, and no more
-- turns are left than there were
abbrev pub TupleHandlerLaw : Type 0
TupleHandlerLaw = (functions : List Function) (scope : Scope) (outs : List Attributes) (handlers : Handlers)
    → HandlersFit scope outs handlers → FunctionsFit scope.functions functions
    → (k : ℕ) (port : Port) (body : List Statement) → slice_get scope.ports k ≡ Some port → slice_get handlers.on_tuple k ≡ Some (Some body)
    → (env : Env) (tuple : List Value) → StateFits handlers.state env.vars → slice_get env.inputs 0 ≡ Some tuple → IsTrue (fits (S.Tuple port.schema) (V.Tuple tuple))
    → (turns : ℕ) → EndsWithin (HandlerLeft outs handlers.state) turns (runs functions body env turns)

-- and a handler of markers does where the state fits, and a marker came
abbrev pub MarkerHandlerLaw : Type 0
MarkerHandlerLaw = (functions : List Function) (scope : Scope) (outs : List Attributes) (handlers : Handlers)
    → HandlersFit scope outs handlers → FunctionsFit scope.functions functions
    → (k : ℕ) (body : List Statement) → slice_get handlers.on_punct k ≡ Some (Some body)
    → (env : Env) (marker : Marker) → StateFits handlers.state env.vars → env.punct ≡ Some marker
    → (turns : ℕ) → EndsWithin (HandlerLeft outs handlers.state) turns (runs functions body env turns)
