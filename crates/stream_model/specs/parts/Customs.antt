-- Words for parts of the rules of a Custom: where the body for a tuple runs.
use Rattle.std.specs.Prelude.{List, [], ◌∷◌, None}
use Rattle.spl_value.specs.declared.value.Value.{Value}
use Rattle.language_model.specs.declared.env.Env.{Env}

-- where the body for a tuple runs: the variables of the state come first
abbrev pub tuple_env : List Value → List Value → Env
tuple_env vars vs = record { inputs = vs ∷ []; vars = vars; punct = None }
