-- Bodies whose code fits their scope, and that can be run.
use Rattle.std.specs.Prelude.{◌≡◌, false, List, [], Ok}
use Rattle.std.proofs.Common.{sym, subst}
use Rattle.spl_value.specs.declared.types.Named.{Named}
use Rattle.spl_value.specs.declared.types.SplType.{SplType}
use Rattle.spl_tree.specs.declared.body.Function.{Function}
use Rattle.spl_tree.specs.declared.body.Statement.{Statement}
use Rattle.spl_tree.specs.Trees.{Stmt}
use Rattle.language_model.specs.declared.env.Env.{Env}
use Rattle.language_model.specs.declared.scope.Scope.{Scope}
use Rattle.language_model.specs.BodyFits.{Purpose, OfHandler, RowFits}
use Rattle.language_model.specs.BodyLaws.{BodyFitLaw}
use Rattle.language_model.specs.BodyTyping.{Setting, body_typing}
use Rattle.language_model.specs.FitLaws.{DollarsFit}
use Rattle.expr_eval.specs.Running.{BodyIsFit}
use Rattle.language_texts.specs.Contexts.{Holds}

-- the code of a body fits where no `$` parameters are
pub body_fits : BodyFitLaw → DollarsFit [] → (purpose : Purpose) (setting : Setting) (scope : Scope) (ss : List Stmt) (row : List Statement) → setting.purpose ≡ purpose
    → scope.dollars ≡ [] → body_typing setting scope ss ≡ Ok row → RowFits purpose false scope row
body_fits law none purpose setting scope ss row is empty e =
    subst (λ p. RowFits p false scope row) is (law setting scope ss row (subst DollarsFit (sym empty) none) e)

-- a handler's body that fits the scope can be run
pub handler_is_fit : (scope : Scope) (env : Env) (functions : List Function) (outputs : List (List (Named SplType))) (row : List Statement)
    → Holds scope env functions → RowFits (OfHandler outputs) false scope row → BodyIsFit functions row env
handler_is_fit scope env functions outputs row h fit = (
  OfHandler outputs,
  scope,
  record {
    row_fits = fit;
    returns = λ t e. absurd cc;
    variables_fit = record { env_fits = h.env_fits; count = h.variables };
    functions_fit = h.functions_fit;
  },
)
