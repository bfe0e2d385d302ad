-- The run of a body for an event, with the turns of one.
use Rattle.std.proofs.Common.{◌≡◌, ℕ, List, [], Option, None, Some, refl, ap, ◌∙◌}
use Rattle.spl_value.specs.declared.item.FaultKind.{FaultKind}
use Rattle.spl_tree.specs.declared.body.Function.{Function}
use Rattle.spl_tree.specs.declared.body.Statement.{Statement}
use Rattle.language_model.specs.declared.env.Env.{Env}
use Rattle.language_model.specs.declared.outs.Output.{Output}
use Rattle.language_model.specs.Functions.{runs}
use Rattle.language_model.specs.Outcomes.{Done, Faulted}
use Rattle.language_model.specs.Statements.{Left}
use Rattle.stream_model.specs.Bodies.{most_turns}
use Rattle.stream_model.specs.Customs.{left_by}
use Rattle.custom_logic.specs.declared.custom.running.Handled.TheVariants as H
use Rattle.custom_logic.specs.steps.Running.{HandledAs}

with_turns : (functions : List Function) (found : Option (List Statement)) (body : List Statement) (env : Env) → found ≡ Some body → left_by functions found env ≡ runs functions body env 1000000
unfolding most_turns
with_turns functions found body env is = ap (λ b. left_by functions b env) is

pub ran_done : (functions : List Function) (found : Option (List Statement)) (body : List Statement) (env : Env) (left : Left) (turns : ℕ) (submits : List Output) (new : Env) → found ≡ Some body
    → runs functions body env 1000000 ≡ Done left turns → submits ≡ left.submits → new ≡ record { inputs = env.inputs; vars = left.vars; punct = env.punct }
    → HandledAs (left_by functions found env) (H.Done submits) env new
ran_done functions found body env left turns submits new is runs given vars = (left, turns, with_turns functions found body env is ∙ runs, given, vars)

pub ran_bad : (functions : List Function) (found : Option (List Statement)) (body : List Statement) (env : Env) (kind : FaultKind) → found ≡ Some body
    → runs functions body env 1000000 ≡ Faulted kind → left_by functions found env ≡ Faulted kind
ran_bad functions found body env kind is runs = with_turns functions found body env is ∙ runs

pub ran_none : (functions : List Function) (found : Option (List Statement)) (env : Env) (submits : List Output) → found ≡ None → submits ≡ []
    → HandledAs (left_by functions found env) (H.Done submits) env env
ran_none functions found env submits is given =
    (record { vars = env.vars; submits = []; returned = None }, most_turns, ap (λ b. left_by functions b env) is, given, refl)
