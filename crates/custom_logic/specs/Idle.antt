-- The environment that a Custom runs its bodies in, between events.
use Rattle.std.specs.Prelude.{List, [], None}
use Rattle.spl_value.specs.declared.value.Value.{Value}
use Rattle.language_model.specs.declared.env.Env.{Env}

-- the variables of the state stand in it alone
abbrev pub idle_env : List Value → Env
idle_env vars = record { inputs = []; vars = vars; punct = None }
