-- What expressions are evaluated in: when a scope, an environment and functions belong together.
use Rattle.std.specs.Prelude.{◌≡◌, List, length}
use Rattle.spl_tree.specs.declared.body.Function.{Function}
use Rattle.language_model.specs.declared.env.Env.{Env}
use Rattle.language_model.specs.declared.scope.Scope.{Scope}
use Rattle.language_model.specs.WorldFits.{EnvFits, FunctionsFit}

-- each variable and each port of the scope has its value in the environment, which has no others, and each function that can be
-- called is there
pub record Holds (scope : Scope) (env : Env) (functions : List Function) : Type 0 where
  pub variables : length env.vars ≡ length scope.vars
  pub ports : length env.inputs ≡ length scope.ports
  pub env_fits : EnvFits scope env
  pub functions_fit : FunctionsFit scope.functions functions
