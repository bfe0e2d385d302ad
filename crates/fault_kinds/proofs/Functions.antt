-- The results of programs.
use Rattle.std.specs.Prelude.{ℕ, zero, suc, List, slice_get}
use Rattle.std.proofs.Common.{refl}
use Rattle.spl_value.specs.declared.value.Value.{Value}
use Rattle.spl_tree.specs.declared.body.Function.{Function}
use Rattle.spl_tree.specs.declared.body.Statement.{Statement}
use Rattle.spl_tree.specs.declared.code.Code.{Code}
use Rattle.language_model.specs.declared.env.Env.{Env}
use Rattle.language_model.specs.Evaluation.{World}
use Rattle.language_model.specs.Functions.{bodies_of, function_env, runs, value}
use Rattle.language_model.specs.parts.Functions.{calls_of}
use Rattle.language_model.specs.Statements.{body_leaves}
use Rattle.language_model.specs.parts.Statements.{statement_acts}
use Rattle.fault_kinds.specs.EvaluationKinds.{ValueKindsLaw, StatementKindsLaw, FunctionKindsLaw, RunsKindsLaw}
use Rattle.fault_kinds.proofs.Outcomes.{Own, own_followed, own_need, own_law}
use Rattle.fault_kinds.proofs.Codes.{own_code}
use Rattle.fault_kinds.proofs.Statements.{own_calls, own_statement, own_body}

module _ (functions : List Function) where
  own_bodies : (depth i : ℕ) (values : List Value) (turns : ℕ) → Own (bodies_of functions depth i values turns)
  own_bodies zero i values turns = refl
  own_bodies (suc depth) i values turns =
      own_need (slice_get functions i) _ (λ f.
      own_followed (body_leaves (bodies_of functions depth) f.body (function_env values) turns) _ (own_body (bodies_of functions depth) (own_bodies depth) f.body (function_env values) turns)
      (λ left turns. tt))

  pub own_value : {N : Type 0} (code : Code N) (w : World N) (turns : ℕ) → Own (value functions code w turns)
  own_value code w turns = own_code (calls_of functions turns) (own_calls (bodies_of functions turns) (own_bodies turns)) w code turns

  pub own_runs : (row : List Statement) (env : Env) (turns : ℕ) → Own (runs functions row env turns)
  own_runs row env turns = own_body (bodies_of functions turns) (own_bodies turns) row env turns

pub value_kinds : {N : Type 0} → ValueKindsLaw N
value_kinds functions code w turns = own_law (value functions code w turns) (own_value functions code w turns)

pub statement_kinds : StatementKindsLaw
statement_kinds functions depth x s turns =
    own_law (statement_acts (bodies_of functions depth) x s turns) (own_statement (bodies_of functions depth) (own_bodies functions depth) x s turns)

pub function_kinds : FunctionKindsLaw
function_kinds functions depth i values turns = own_law (bodies_of functions depth i values turns) (own_bodies functions depth i values turns)

pub runs_kinds : RunsKindsLaw
runs_kinds functions row env turns = own_law (runs functions row env turns) (own_runs functions row env turns)
