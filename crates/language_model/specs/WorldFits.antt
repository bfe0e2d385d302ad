-- When an environment and functions fit a scope, so that a code that fits the scope gives a value or a fault in them, and a body
-- leaves what fits.
use Rattle.std.specs.Prelude.{◌≡◌, ℕ, IsTrue, false, not, List, [], map, length, Option, None, Some, slice_get}
use Rattle.std.specs.List.{list_all}
use Rattle.spl_value.specs.declared.item.Item.{Item}
use Rattle.spl_value.specs.declared.item.Item.TheVariants as I
use Rattle.spl_value.specs.declared.types.Named.{Named}
use Rattle.spl_value.specs.declared.types.SplType.{SplType}
use Rattle.spl_value.specs.declared.types.SplType.TheVariants as S
use Rattle.spl_value.specs.declared.value.Value.{Value}
use Rattle.spl_value.specs.declared.value.Value.TheVariants as V
use Rattle.spl_value.specs.Values.{fits}
use Rattle.spl_tree.specs.declared.code.Code.{Code}
use Rattle.spl_tree.specs.declared.body.Function.{Function}
use Rattle.spl_tree.specs.declared.body.Statement.{Statement}
use Rattle.spl_tree.specs.declared.code.Marker.{Marker}
use Rattle.spl_tree.specs.declared.code.Slot.{Slot}
use Rattle.language_model.specs.declared.env.Env.{Env}
use Rattle.language_model.specs.declared.scope.Port.{Port}
use Rattle.language_model.specs.declared.scope.Scope.{Scope}
use Rattle.language_model.specs.declared.scope.Signature.{Signature}
use Rattle.language_model.specs.declared.scope.Variable.{Variable}
use Rattle.language_model.specs.declared.flow.Flow.{Flow}
use Rattle.language_model.specs.declared.outs.Output.{Output}
use Rattle.language_model.specs.BodyFits.{Purpose, OfFunction, result_of, outputs_of, RowFits, RowReturns}
use Rattle.language_model.specs.CodeFits.{CodeFits}
use Rattle.language_model.specs.Outcomes.{Outcome, Done, Faulted, Stuck}
use Rattle.language_model.specs.Statements.{State, Left}

-- each variable of the scope has a value of its type, each port a tuple of its attributes, and where the scope asks for the
-- marker that came, one did. The environment may have more
pub record EnvFits (scope : Scope) (env : Env) : Type 0 where
  pub variables : (i : ℕ) (x : Variable) → slice_get scope.vars i ≡ Some x → (v : Value) × (slice_get env.vars i ≡ Some v) × IsTrue (fits x.kind v)
  pub inputs : (i : ℕ) (p : Port) → slice_get scope.ports i ≡ Some p
      → (vs : List Value) × (slice_get env.inputs i ≡ Some vs) × IsTrue (fits (S.Tuple p.schema) (V.Tuple vs))
  pub marker : IsTrue scope.punct → (m : Marker) × (env.punct ≡ Some m)

-- the scope of a body, whose variables are the function's parameters
abbrev pub body_scope : List Signature → List Variable → Scope
body_scope signatures parameters = record { vars = parameters; ports = []; functions = signatures; unresolved = []; dollars = []; punct = false }

-- a function has the types of its signature, and its body fits them: it doesn't change its parameters, it submits nothing, and where
-- the function has a result it ends with one
pub record FunctionFits (signatures : List Signature) (s : Signature) (f : Function) : Type 0 where
  pub parameters : f.parameters ≡ s.parameters
  pub result : f.result ≡ s.result
  pub variables : List Variable
  pub kinds : map (λ x. x.kind) variables ≡ s.parameters
  pub immutable : IsTrue (list_all (λ x. not x.mutable) variables)
  pub body : RowFits (OfFunction s.result) false (body_scope signatures variables) f.body
  pub returns : (t : SplType) → s.result ≡ Some t → RowReturns f.body

-- each function is there, and fits
abbrev pub FunctionsFit : List Signature → List Function → Type 0
FunctionsFit signatures functions =
    (i : ℕ) (s : Signature) → slice_get signatures i ≡ Some s → (f : Function) × (slice_get functions i ≡ Some f) × FunctionFits signatures s f

-- a code fits what it is evaluated in, at a type
pub record Fits (functions : List Function) (code : Code Slot) (env : Env) (t : SplType) : Type 0 where
  pub scope : Scope
  pub code_fits : CodeFits scope code t
  pub env_fits : EnvFits scope env
  pub functions_fit : FunctionsFit scope.functions functions

-- an evaluation gives a value of the type, or a fault
abbrev pub ComesTo : SplType → Outcome Value → Type 0
ComesTo t (Done v turns) = IsTrue (fits t v)
ComesTo t (Faulted kind) = Unit {0}
ComesTo t Stuck = ⊥

-- ---- bodies

-- what variables a scope has, and their values
pub record VariablesFit (scope : Scope) (env : Env) : Type 0 where
  pub env_fits : EnvFits scope env
  pub count : length env.vars ≡ length scope.vars

-- a body fits what it runs in, and where it has a result it ends with one
pub record BodyFits (functions : List Function) (row : List Statement) (env : Env) (purpose : Purpose) (scope : Scope) : Type 0 where
  pub row_fits : RowFits purpose false scope row
  pub returns : (t : SplType) → result_of purpose ≡ Some t → RowReturns row
  pub variables_fit : VariablesFit scope env
  pub functions_fit : FunctionsFit scope.functions functions

-- a statement leads to variables of a scope
abbrev pub LeadsTo : Scope → Outcome (Flow × State) → Type 0
LeadsTo next (Done w turns) = VariablesFit next w.1.env
LeadsTo next (Faulted kind) = Unit {0}
LeadsTo next Stuck = ⊥

-- an item is one of an output port: a tuple of its attributes, or a window marker
abbrev pub ItemFits : List (Named SplType) → Item → Type 0
ItemFits schema (I.Tuple values) = IsTrue (fits (S.Tuple schema) (V.Tuple values))
ItemFits schema I.Window = Unit {0}
ItemFits schema _ = ⊥

abbrev pub SubmitFits : Purpose → Output → Type 0
SubmitFits purpose o = (schema : List (Named SplType)) × (slice_get (outputs_of purpose) o.port ≡ Some schema) × ItemFits schema o.item

-- a value of the type where there is one, and no other
abbrev pub ResultFits : Option SplType → Option Value → Type 0
ResultFits (Some t) (Some v) = IsTrue (fits t v)
ResultFits None None = Unit {0}
ResultFits _ _ = ⊥

-- a body leaves variables of the types that they had, and submits that fit its output ports, and it returns what it has to
pub record LeftFits (purpose : Purpose) (scope : Scope) (env : Env) (left : Left) : Type 0 where
  pub variables_fit : VariablesFit scope (record { inputs = env.inputs; vars = left.vars; punct = env.punct })
  pub submits : (i : ℕ) (o : Output) → slice_get left.submits i ≡ Some o → SubmitFits purpose o
  pub returned : ResultFits (result_of purpose) left.returned

abbrev pub Leaves : Purpose → Scope → Env → Outcome Left → Type 0
Leaves purpose scope env (Done left turns) = LeftFits purpose scope env left
Leaves purpose scope env (Faulted kind) = Unit {0}
Leaves purpose scope env Stuck = ⊥
