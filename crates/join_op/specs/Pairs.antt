-- The environment of a pair of tuples: the tuple of the first port stands before that of the second.
use Rattle.std.specs.Prelude.{◌≡◌, ℕ, List, [], length, slice_set, None}
use Rattle.spl_value.specs.declared.value.Value.{Value}
use Rattle.language_model.specs.declared.env.Env.{Env}
use Rattle.stream_model.specs.Joins.{at_pair}
use Rattle.join_op.specs.declared.side.Side.{Side}
use Rattle.join_op.specs.declared.side.Side.TheVariants.{Left, Right}

-- the place of a side's tuple, and that of the other side's
abbrev pub own_place : Side → ℕ
own_place Left = 0
own_place Right = 1

abbrev pub other_place : Side → ℕ
other_place Left = 1
other_place Right = 0

-- with this tuple of the side
abbrev pub with_own : Side → Env → List Value → Env
with_own side env t = record { inputs = slice_set env.inputs (own_place side) t; vars = env.vars; punct = env.punct }

-- with this tuple of the other side
abbrev pub with_other : Side → Env → List Value → Env
with_other side env u = record { inputs = slice_set env.inputs (other_place side) u; vars = env.vars; punct = env.punct }

-- a tuple of the side with one of the other
abbrev pub pair_env : Side → List Value → List Value → Env
pair_env Left t u = at_pair t u
pair_env Right t u = at_pair u t

-- there is room for two tuples, and nothing else
pub record IsReady (env : Env) : Type 0 where
  pub two : length env.inputs ≡ 2
  pub no_vars : env.vars ≡ []
  pub no_marker : env.punct ≡ None
