-- What an operator evaluates its clauses in, and what a condition asks of that.
use Rattle.std.specs.Prelude.{⊤, List, [], Option, None, Some}
use Rattle.spl_value.specs.declared.types.SplType.TheVariants as S
use Rattle.spl_tree.specs.declared.body.Function.{Function}
use Rattle.spl_tree.specs.declared.code.Code.{Code}
use Rattle.spl_tree.specs.declared.code.Slot.{Slot}
use Rattle.language_model.specs.declared.env.Env.{Env}
use Rattle.language_model.specs.WorldFits.{Fits}

-- the environment between events, of an operator whose state isn't its variables: no tuple is in it
abbrev pub idle : Env
idle = record { inputs = []; vars = []; punct = None }

-- a condition, where there is one, fits an environment
abbrev pub PassesFit : List Function → Option (Code Slot) → Env → Type 0
PassesFit functions None env = ⊤
PassesFit functions (Some condition) env = Fits functions condition env S.Bool
