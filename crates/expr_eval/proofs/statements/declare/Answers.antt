use Rattle.std.proofs.Common.{ap, sym, ◌∙◌}
use Rattle.language_model.specs.declared.flow.Flow.TheVariants as F
use Rattle.language_model.specs.Outcomes.{Done}
use Rattle.language_model.specs.Statements.{declared}
use Rattle.expr_eval.specs.Running.{state}
use Rattle.value_operations.proofs.Following.{answer_stops, answer_then}
use Rattle.expr_eval.proofs.Keeping.{keeps_all, keeps_declared}
use Rattle.expr_eval.proofs.statements.declare.Goals as goal

pub returns-in_ok-push-in-Ok-clause-leads : goal.returns-in_ok-push-in-Ok-clause-leads
returns-in_ok-push-in-Ok-clause-leads c = λ outcome submits turns h.
    answer_then outcome (λ v left. Done (F.Next, declared (state c.args.env.now submits) v) left) turns c.args.value c.in-Ok.value c.in-Ok.is h
    ∙ ap (λ vars. Done (F.Next, state (record { inputs = c.args.env.now.inputs; vars = vars; punct = c.args.env.now.punct }) submits) turns) (sym c.in_ok-push-in-Ok.ensures.ok)

pub returns-in-Err-clause-leads : goal.returns-in-Err-clause-leads
returns-in-Err-clause-leads c = λ outcome submits turns h.
    answer_stops outcome (λ v left. Done (F.Next, declared (state c.args.env.now submits) v) left) turns c.args.value c.in-Err.stop c.in-Err.is h

pub returns-in_ok-push-in-Ok-clause-kept : goal.returns-in_ok-push-in-Ok-clause-kept
returns-in_ok-push-in-Ok-clause-kept c = keeps_declared c.args.env.now c.in-Ok.value _ c.in_ok-push-in-Ok.ensures.ok

pub returns-in-Err-clause-kept : goal.returns-in-Err-clause-kept
returns-in-Err-clause-kept c = keeps_all c.args.env.now
