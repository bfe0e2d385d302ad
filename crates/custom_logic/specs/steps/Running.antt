-- What the run of a body for an event asks and answers.
use Rattle.std.specs.Prelude.{◌≡◌, ⊤, ℕ, List, Option, None, Some}
use Rattle.spl_value.specs.declared.item.Item.{Item}
use Rattle.spl_value.specs.declared.item.Item.TheVariants as I
use Rattle.spl_value.specs.declared.value.Value.{Value}
use Rattle.spl_tree.specs.declared.body.Function.{Function}
use Rattle.spl_tree.specs.declared.body.Statement.{Statement}
use Rattle.spl_tree.specs.declared.code.Marker.TheVariants as M
use Rattle.language_model.specs.declared.checked.Handlers.{Handlers}
use Rattle.language_model.specs.declared.env.Env.{Env}
use Rattle.language_model.specs.Outcomes.{Outcome, Done, Faulted}
use Rattle.language_model.specs.Statements.{Left}
use Rattle.stream_model.specs.declared.reply.Reply.{Reply}
use Rattle.stream_model.specs.declared.reply.Reply.TheVariants as R
use Rattle.stream_model.specs.Customs.{handler, marker_env}
use Rattle.stream_model.specs.parts.Customs.{tuple_env}
use Rattle.stream_model.specs.PathLaws.{fault_by}
use Rattle.expr_eval.specs.Running.{BodyIsFit}
use Rattle.port_reacts.specs.Bodies.{EndsBy}
use Rattle.custom_logic.specs.Idle.{idle_env}
use Rattle.custom_logic.specs.declared.custom.running.Handled.{Handled}
use Rattle.custom_logic.specs.declared.custom.running.Handled.TheVariants as H

-- a body, where there is one, fits what it runs in
abbrev pub MayRun : List Function → Option (List Statement) → Env → Type 0
MayRun functions None env = ⊤
MayRun functions (Some body) env = BodyIsFit functions body env

-- the body for an item of a port does
abbrev pub MayRunOn : List Function → Handlers → List Value → ℕ → Item → Type 0
MayRunOn functions handlers vars port (I.Tuple vs) = MayRun functions (handler handlers.on_tuple port) (tuple_env vars vs)
MayRunOn functions handlers vars port I.Window = MayRun functions (handler handlers.on_punct port) (marker_env vars M.Window)
MayRunOn functions handlers vars port I.Final = MayRun functions (handler handlers.on_punct port) (marker_env vars M.Final)
MayRunOn functions handlers vars port (I.Bad f) = ⊤

-- it left these variables in an environment that is otherwise as it was, and submitted this, or it had a fault
abbrev pub HandledAs : Outcome Left → Handled → Env → Env → Type 0
HandledAs outcome (H.Done submits) old new =
    (left : Left) × (turns : ℕ) × (outcome ≡ Done left turns) × (submits ≡ left.submits) × (new ≡ record { inputs = old.inputs; vars = left.vars; punct = old.punct })
HandledAs outcome (H.Faulted kind) old new = outcome ≡ Faulted kind
HandledAs outcome H.Memory old new = ⊤

-- where the operator goes on, the environment has the variables that were left
abbrev pub LeavesIdle : Outcome Left → Reply → Env → Type 0
LeavesIdle outcome (R.Out outs) env = (left : Left) × (turns : ℕ) × (outcome ≡ Done left turns) × (env ≡ idle_env left.vars)
LeavesIdle outcome (R.Ended outs fault) env = ⊤
LeavesIdle outcome R.Memory env = ⊤

-- what was submitted is given, or the fault ends the operator
abbrev pub RepliesAs : ℕ → ℕ → Handled → Reply → Type 0
RepliesAs number ports (H.Done submits) reply = reply ≡ R.Out submits
RepliesAs number ports (H.Faulted kind) reply = EndsBy ports (fault_by number kind) reply
RepliesAs number ports H.Memory reply = reply ≡ R.Memory
