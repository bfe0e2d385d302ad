-- What a Custom does at an item of a port, by the items that came before it. A history has its newest event first, and
-- the number of an event is that of its port: a final marker stands for the end of the port.
--
-- A first value that isn't one of literals, which no checked graph has, counts as false.
use Rattle.std.specs.Prelude.{ℕ, false, List, [], ◌∷◌, map, Option, None, Some, slice_get, if◌then◌else◌}
use Rattle.std.specs.Option.{option_and_then, option_map_or}
use Rattle.spl_value.specs.declared.item.Item.{Item}
use Rattle.spl_value.specs.declared.item.Item.TheVariants as I
use Rattle.spl_value.specs.declared.value.Value.{Value}
use Rattle.spl_value.specs.declared.value.Value.TheVariants as V
use Rattle.spl_tree.specs.declared.body.Function.{Function}
use Rattle.spl_tree.specs.declared.body.Statement.{Statement}
use Rattle.spl_tree.specs.declared.code.Marker.{Marker}
use Rattle.spl_tree.specs.declared.code.Marker.TheVariants as M
use Rattle.language_model.specs.declared.checked.Handlers.{Handlers}
use Rattle.language_model.specs.declared.checked.StateVariable.{StateVariable}
use Rattle.language_model.specs.declared.env.Env.{Env}
use Rattle.language_model.specs.Evaluation.{world_of}
use Rattle.language_model.specs.Functions.{function_env, runs, value}
use Rattle.language_model.specs.Outcomes.{Outcome, Done, followed}
use Rattle.language_model.specs.Statements.{Left}
use Rattle.stream_model.specs.Stream.{Event}
use Rattle.stream_model.specs.Bodies.{Makes, most_turns, done_or}

-- ---- one event

-- the body of a port, where it has one
abbrev pub handler : List (Option (List Statement)) → ℕ → Option (List Statement)
handler bodies port = option_and_then (λ b. b) (slice_get bodies port)

-- where the body for a marker runs: the variables of the state come first
abbrev pub marker_env : List Value → Marker → Env
marker_env vars m = record { inputs = []; vars = vars; punct = Some m }

-- nothing is done, and the variables stay
abbrev pub nothing : List Value → Outcome Left
nothing vars = Done (record { vars = vars; submits = []; returned = None }) most_turns

-- what a body leaves, where there is one
abbrev pub left_by : List Function → Option (List Statement) → Env → Outcome Left
left_by functions body env = option_map_or (λ row. runs functions row env most_turns) body (nothing env.vars)

-- what an item on a port leaves, from these variables of the state
abbrev pub item_leaves : List Function → Handlers → List Value → ℕ → Item → Outcome Left
item_leaves functions handlers vars port (I.Tuple vs) =
    left_by functions (handler handlers.on_tuple port) (record { inputs = vs ∷ []; vars = vars; punct = None })
item_leaves functions handlers vars port I.Window =
    left_by functions (handler handlers.on_punct port) (marker_env vars M.Window)
item_leaves functions handlers vars port I.Final =
    left_by functions (handler handlers.on_punct port) (marker_env vars M.Final)
item_leaves functions handlers vars port (I.Bad f) = nothing vars

-- ---- the state

-- the first value of a variable
abbrev pub first_value : StateVariable → Value
first_value x = done_or (λ v. v) (value [] x.first (world_of (function_env [])) 0) (V.Bool false)

-- the variables that are mutable have the new values, and the others keep theirs
abbrev pub changed : List StateVariable → (olds news : List Value) → List Value
changed (x ∷ xs) (old ∷ olds) (new ∷ news) = (if x.variable.mutable then new else old) ∷ changed xs olds news
changed _ olds news = olds

-- the variables as an event leaves them: a fault ends the operator, and they stay
abbrev pub vars_after : List StateVariable → List Value → Outcome Left → List Value
vars_after variables vars outcome = done_or (λ (left : Left). changed variables vars left.vars) outcome vars

-- the variables of the state after a history, from their first values on
abbrev pub state : List Function → Handlers → List Event → List Value
state functions handlers [] = map first_value handlers.state
state functions handlers (e ∷ h) =
    vars_after handlers.state (state functions handlers h)
    (item_leaves functions handlers (state functions handlers h) e.input e.item)

-- ---- the body

-- a Custom gives what the body of the port submits, in the order of the calls
abbrev pub custom_body : List Function → Handlers → List Event → ℕ → Item → Makes
custom_body functions handlers earlier port x =
    followed (item_leaves functions handlers (state functions handlers earlier) port x) (λ left turns.
    Done left.submits turns)
