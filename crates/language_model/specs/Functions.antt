-- The results of programs, where their functions can be called: the values of expressions, and what bodies do.
use Rattle.std.specs.Prelude.{ℕ, zero, suc, List, [], None, slice_get}
use Rattle.spl_value.specs.declared.item.FaultKind.TheVariants as F
use Rattle.spl_value.specs.declared.value.Value.{Value}
use Rattle.spl_tree.specs.declared.body.Function.{Function}
use Rattle.spl_tree.specs.declared.body.Statement.{Statement}
use Rattle.spl_tree.specs.declared.code.Code.{Code}
use Rattle.language_model.specs.declared.env.Env.{Env}
use Rattle.language_model.specs.Evaluation.{World, code_value}
use Rattle.language_model.specs.Outcomes.{Outcome, Done, Faulted, followed, need}
use Rattle.language_model.specs.Statements.{Bodies, Left, calls_by, body_leaves}

-- a function sees its parameters alone
abbrev pub function_env : List Value → Env
function_env values = record { inputs = []; vars = values; punct = None }

-- what functions return, where calls of them nest at most this deep; where they would nest deeper, they run out of
-- turns
abbrev pub bodies_of : List Function → ℕ → Bodies
bodies_of functions zero i values turns = Faulted F.Turns
bodies_of functions (suc depth) i values turns = need (slice_get functions i) (λ f.
    followed (body_leaves (bodies_of functions depth) f.body (function_env values) turns) (λ left turns.
    Done left.returned turns))

-- the value of a code in a world, with the turns that it leaves, or its first fault. Since each call takes a turn,
-- calls nest no deeper than there are turns
abbrev pub value : {N : Type 0} → List Function → Code N → World N → ℕ → Outcome Value
value functions code w turns = code_value (calls_by (bodies_of functions turns)) code w turns

-- what a body leaves in an environment, with the turns, or its first fault
abbrev pub runs : List Function → List Statement → Env → ℕ → Outcome Left
runs functions row env turns = body_leaves (bodies_of functions turns) row env turns
