-- An evaluation has faults of evaluation alone, whatever its code is and wherever it is evaluated.
use Rattle.std.specs.Prelude.{◌≡◌, ℕ, true, List}
use Rattle.spl_value.specs.declared.item.FaultKind.{FaultKind}
use Rattle.spl_value.specs.declared.value.Value.{Value}
use Rattle.spl_tree.specs.declared.body.Function.{Function}
use Rattle.spl_tree.specs.declared.body.Statement.{Statement}
use Rattle.spl_tree.specs.declared.code.Code.{Code}
use Rattle.language_model.specs.declared.env.Env.{Env}
use Rattle.language_model.specs.Evaluation.{World}
use Rattle.language_model.specs.Functions.{bodies_of, value, runs}
use Rattle.language_model.specs.Outcomes.{Outcome, Faulted}
use Rattle.language_model.specs.Statements.{State}
use Rattle.language_model.specs.parts.Statements.{statement_acts}
use Rattle.fault_kinds.specs.Kinds.{is_evaluation_kind}

-- where it is a fault, that is one of evaluation
abbrev pub FaultsByEvaluation : {A : Type 0} → Outcome A → Type 0
FaultsByEvaluation o = (kind : FaultKind) → o ≡ Faulted kind → is_evaluation_kind kind ≡ true

-- the value of a code
abbrev pub ValueKindsLaw : Type 0 → Type 0
ValueKindsLaw N = (functions : List Function) (code : Code N) (w : World N) (turns : ℕ) → FaultsByEvaluation (value functions code w turns)

-- what a statement does
abbrev pub StatementKindsLaw : Type 0
StatementKindsLaw = (functions : List Function) (depth : ℕ) (x : Statement) (s : State) (turns : ℕ)
    → FaultsByEvaluation (statement_acts (bodies_of functions depth) x s turns)

-- what a function returns
abbrev pub FunctionKindsLaw : Type 0
FunctionKindsLaw = (functions : List Function) (depth i : ℕ) (values : List Value) (turns : ℕ) → FaultsByEvaluation (bodies_of functions depth i values turns)

-- what a body leaves
abbrev pub RunsKindsLaw : Type 0
RunsKindsLaw = (functions : List Function) (row : List Statement) (env : Env) (turns : ℕ) → FaultsByEvaluation (runs functions row env turns)
