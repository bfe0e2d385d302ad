-- What the running of statements keeps, step by step.
use Rattle.std.specs.Prelude.{◌≡◌, ◌+◌, List, [], ◌∷◌, ◌++◌, length, take}
use Rattle.std.proofs.Common.{refl, ap, ◌∙◌, arith, length-append}
use Rattle.std.proofs.lemmas.List.{length-take-le}
use Rattle.spl_value.specs.declared.value.Value.{Value}
use Rattle.language_model.specs.declared.env.Env.{Env}
use Rattle.expr_eval.specs.steps.Keeping.{Keeps}

-- the environment with other variables
abbrev pub with_variables : Env → List Value → Env
with_variables env vars = record { inputs = env.inputs; vars = vars; punct = env.punct }

pub keeps_all : (env : Env) → Keeps env env
keeps_all env = record { inputs = refl; punct = refl; vars = omega arith }

pub keeps_then : (a b c : Env) → Keeps a b → Keeps b c → Keeps a c
keeps_then a b c h k = record {
  inputs = k.inputs ∙ h.inputs;
  punct = k.punct ∙ h.punct;
  vars = omega (arith, h.vars, k.vars);
}

-- with as many variables
pub keeps_changed : (env : Env) (vars : List Value) → length vars ≡ length env.vars → Keeps env (with_variables env vars)
keeps_changed env vars n = record { inputs = refl; punct = refl; vars = omega (arith, n) }

-- with one more
pub keeps_declared : (env : Env) (v : Value) (vars : List Value) → vars ≡ env.vars ++ v ∷ [] → Keeps env (with_variables env vars)
keeps_declared env v vars is =
    let n : length vars ≡ length env.vars + 1 = ap length is ∙ length-append env.vars (v ∷ []) in
    record { inputs = refl; punct = refl; vars = omega (arith, n) }

-- what was declared since ends
pub vars_ended : (a b : Env) (vars : List Value) → Keeps a b → vars ≡ take (length a.vars) b.vars → length vars ≡ length a.vars
vars_ended a b vars h is = ap length is ∙ length-take-le (length a.vars) b.vars h.vars

pub keeps_ended : (a b : Env) (vars : List Value) → Keeps a b → vars ≡ take (length a.vars) b.vars → Keeps a (with_variables b vars)
keeps_ended a b vars h is = record { inputs = h.inputs; punct = h.punct; vars = omega (arith, vars_ended a b vars h is) }
