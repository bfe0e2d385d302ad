-- What the running of statements asks and answers.
use Rattle.std.specs.Prelude.{◌≡◌, ℕ, Bool, true, IsTrue, List, ◌++◌, Option, None, Some, Result, Ok, Err, slice_get}
use Rattle.std.specs.Cmp.Lexicographic.{pointwise}
use Rattle.std.specs.List.{list_all}
use Rattle.spl_value.specs.declared.types.SplType.{SplType}
use Rattle.spl_value.specs.declared.types.SplType.TheVariants as T
use Rattle.spl_value.specs.declared.value.Value.{Value}
use Rattle.spl_value.specs.Values.{fits}
use Rattle.spl_tree.specs.declared.body.Change.{Change}
use Rattle.spl_tree.specs.declared.body.Function.{Function}
use Rattle.spl_tree.specs.declared.body.Place.{Place}
use Rattle.spl_tree.specs.declared.body.Statement.{Statement}
use Rattle.spl_tree.specs.declared.code.Code.{Code}
use Rattle.spl_tree.specs.declared.code.Slot.{Slot}
use Rattle.spl_tree.specs.declared.code.Selector.{Selector}
use Rattle.language_model.specs.declared.env.Env.{Env}
use Rattle.language_model.specs.declared.flow.Flow.{Flow}
use Rattle.language_model.specs.declared.flow.Flow.TheVariants as F
use Rattle.language_model.specs.declared.outs.Output.{Output}
use Rattle.language_model.specs.declared.scope.Scope.{Scope}
use Rattle.language_model.specs.declared.scope.Signature.{Signature}
use Rattle.language_model.specs.declared.scope.Variable.{Variable}
use Rattle.language_model.specs.BodyFits.{Purpose, StatementFits, RowFits, ArmsFit, PlaceFits, ChangeFits, with_variable}
use Rattle.language_model.specs.CodeFits.{CodeFits, StepsLead}
use Rattle.language_model.specs.Outcomes.{Outcome, Done, Faulted}
use Rattle.language_model.specs.Statements.{State, Left, Acts, then_rest, then_again}
use Rattle.language_model.specs.WorldFits.{VariablesFit, FunctionsFit, BodyFits}
use Rattle.value_operations.specs.Answers.{StopsAs}
use Rattle.expr_eval.specs.declared.run.Ran.{Ran}
use Rattle.expr_eval.specs.declared.run.Ran.TheVariants as R
use Rattle.value_operations.specs.declared.stop.Stop.{Stop}
use Rattle.value_operations.specs.declared.stop.Stop.TheVariants as S

-- ---- what fits

-- the variables have the scope's types, and each function that can be called fits
abbrev pub IsIn : List Function → Env → Scope → Type 0
IsIn functions env scope = VariablesFit scope env × FunctionsFit scope.functions functions

abbrev pub StatementIsFit : List Function → Statement → Env → Type 0
StatementIsFit functions x env = (purpose : Purpose) × (l : Bool) × (scope : Scope) × (next : Scope) × StatementFits purpose l scope x next × IsIn functions env scope

abbrev pub RowIsFit : List Function → List Statement → Env → Type 0
RowIsFit functions row env = (purpose : Purpose) × (l : Bool) × (scope : Scope) × RowFits purpose l scope row × IsIn functions env scope

abbrev pub ArmsAreFit : List Function → List (Code Slot × List Statement) → List Statement → Env → Type 0
ArmsAreFit functions arms other env =
    (purpose : Purpose) × (l : Bool) × (scope : Scope) × ArmsFit purpose l scope arms × RowFits purpose l scope other × IsIn functions env scope

-- a loop with a condition
abbrev pub LoopIsFit : List Function → Code Slot → List Statement → Env → Type 0
LoopIsFit functions code row env =
    (purpose : Purpose) × (scope : Scope) × CodeFits scope code T.Bool × RowFits purpose true scope row × IsIn functions env scope

-- a loop over values
abbrev pub OverIsFit : List Function → List Value → List Statement → Env → Type 0
OverIsFit functions values row env =
    (purpose : Purpose) × (scope : Scope) × (v : Variable) × IsTrue (list_all (fits v.kind) values) × RowFits purpose true (with_variable scope v) row
    × IsIn functions env scope

abbrev pub PlaceIsFit : List Function → Place → Env → Type 0
PlaceIsFit functions place env = (scope : Scope) × (t : SplType) × PlaceFits scope place t × IsIn functions env scope

abbrev pub ChangeIsFit : List Function → Place → Change (Code Slot) → Env → Type 0
ChangeIsFit functions place change env = (scope : Scope) × (t : SplType) × PlaceFits scope place t × ChangeFits scope change t × IsIn functions env scope

-- indexes and keys of steps from a value of some type
abbrev pub StepsAreFit : List Function → List (Selector (Code Slot)) → Env → Type 0
StepsAreFit functions takings env = (scope : Scope) × (t : SplType) × (u : SplType) × StepsLead scope takings t u × IsIn functions env scope

-- the function at the place takes these arguments
abbrev pub FunctionIsFit : List Function → ℕ → List Value → Type 0
FunctionIsFit functions i vs =
    (signatures : List Signature) × (s : Signature) × FunctionsFit signatures functions × (slice_get signatures i ≡ Some s) × IsTrue (pointwise fits s.parameters vs)

-- ---- what is answered

abbrev pub state : Env → List Output → State
state env submits = record { env = env; submits = submits }

-- it leads where the outcome says, with the turns that it leaves, or stops with its fault
abbrev pub Leads : Outcome (Flow × State) → Result Flow Stop → State → ℕ → Type 0
Leads outcome (Ok flow) s turns = outcome ≡ Done (flow, s) turns
Leads outcome (Err stop) s turns = StopsAs outcome stop

-- it changes the state so, and the next statement follows
abbrev pub LeadsNext : Outcome (Flow × State) → Result (Unit {0}) Stop → State → ℕ → Type 0
LeadsNext outcome (Ok u) s turns = outcome ≡ Done (F.Next, s) turns
LeadsNext outcome (Err stop) s turns = StopsAs outcome stop

-- a row ends with a statement, or goes on
abbrev pub EndsRow : Flow → Option Flow → Type 0
EndsRow flow None = (s : State) (turns : ℕ) (rest : Acts) → then_rest (flow, s) turns rest ≡ rest s turns
EndsRow flow (Some end) = (s : State) (turns : ℕ) (rest : Acts) → then_rest (flow, s) turns rest ≡ Done (end, s) turns

-- a loop ends with a turn, or goes on
abbrev pub EndsLoop : Flow → Option Flow → Type 0
EndsLoop flow None = (s : State) (turns : ℕ) (again : Acts) → then_again (flow, s) turns again ≡ again s turns
EndsLoop flow (Some end) = (s : State) (turns : ℕ) (again : Acts) → then_again (flow, s) turns again ≡ Done (end, s) turns

-- ---- bodies

abbrev pub BodyIsFit : List Function → List Statement → Env → Type 0
BodyIsFit functions row env = (purpose : Purpose) × (scope : Scope) × BodyFits functions row env purpose scope

-- the body leaves these variables, with nothing else of the environment changed, and its submits after those that there were
abbrev pub LeavesBehind : Outcome Left → Env → Env → List Output → List Output → ℕ → Type 0
LeavesBehind outcome old new before after turns =
    (left : Left) × (outcome ≡ Done left turns) × (new ≡ record { inputs = old.inputs; vars = left.vars; punct = old.punct }) × (after ≡ before ++ left.submits)

-- it leaves what the outcome has, or its fault comes
abbrev pub RanAs : Outcome Left → Ran → Env → Env → List Output → List Output → ℕ → Type 0
RanAs outcome R.Done old new before after turns = LeavesBehind outcome old new before after turns
RanAs outcome (R.Bad kind) old new before after turns = outcome ≡ Faulted kind
RanAs outcome R.Memory old new before after turns = Unit {0}

abbrev pub ran_as : Result Flow Stop → Ran
ran_as (Ok flow) = R.Done
ran_as (Err (S.Fault kind)) = R.Bad kind
ran_as (Err S.Memory) = R.Memory
