-- The histories that a Custom stands for.
use Rattle.std.specs.Prelude.{◌≡◌, true, List}
use Rattle.spl_tree.specs.declared.body.Function.{Function}
use Rattle.language_model.specs.declared.checked.Handlers.{Handlers}
use Rattle.language_model.specs.declared.env.Env.{Env}
use Rattle.evaluation_laws.specs.HandlerLaws.{StateFits}
use Rattle.stream_model.specs.Customs.{state}
use Rattle.stream_model.specs.Operators.{Operator}
use Rattle.stream_model.specs.Stream.{Event}
use Rattle.port_reacts.specs.PortReplies.{goes_on}
use Rattle.custom_logic.specs.Idle.{idle_env}

-- the variables of the state are those after the history, and fit
pub record Holds (functions : List Function) (handlers : Handlers) (h : List Event) (env : Env) : Type 0 where
  pub env_is : env ≡ idle_env (state functions handlers h)
  pub fit : StateFits handlers.state (state functions handlers h)

-- they do while no event had a fault: after a fault nobody asks for them
abbrev pub StandsFor : Operator → Handlers → List Event → Env → Type 0
StandsFor op handlers h env = goes_on op h ≡ true → Holds op.functions handlers h env
