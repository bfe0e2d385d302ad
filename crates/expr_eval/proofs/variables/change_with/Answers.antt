use Rattle.std.proofs.Common.{subst, sym, ap, ◌∙◌}
use Rattle.language_model.specs.parts.Statements.{changed_at}
use Rattle.value_operations.specs.steps.Places.{CanChangeAt}
use Rattle.value_operations.proofs.Following.{answer_stops, answer_then}
use Rattle.expr_eval.specs.Running.{state}
use Rattle.expr_eval.proofs.Keeping.{keeps_all}
use Rattle.expr_eval.proofs.PlaceChanges.{leads_next_by}
use Rattle.expr_eval.proofs.variables.change_with.Goals as goal

pub change_variable-requires : goal.change_variable-requires
change_variable-requires c =
    subst (λ steps. CanChangeAt c.args.variable steps c.in-Ok.change c.args.env.now) (sym c.as_slice.ensures) (c.requires (c.in-Ok.steps, c.in-Ok.change) c.in-Ok.is)

pub returns-in-Ok-clause-leads : goal.returns-in-Ok-clause-leads
returns-in-Ok-clause-leads c = λ outcome submits turns h.
    leads_next_by _ _ _ _ _
    (answer_then outcome (λ w left. changed_at c.args.variable w.0 w.1 (state c.args.env.now submits) left) turns c.args.values (c.in-Ok.steps, c.in-Ok.change) c.in-Ok.is h
    ∙ ap (λ steps. changed_at c.args.variable steps c.in-Ok.change (state c.args.env.now submits) turns) (sym c.as_slice.ensures))
    (c.change_variable.ensures.leads submits turns)

pub returns-in-Err-clause-leads : goal.returns-in-Err-clause-leads
returns-in-Err-clause-leads c = λ outcome submits turns h.
    answer_stops outcome (λ w left. changed_at c.args.variable w.0 w.1 (state c.args.env.now submits) left) turns c.args.values c.in-Err.stop c.in-Err.is h

pub returns-in-Ok-clause-kept : goal.returns-in-Ok-clause-kept
returns-in-Ok-clause-kept c = c.change_variable.ensures.kept

pub returns-in-Err-clause-kept : goal.returns-in-Err-clause-kept
returns-in-Err-clause-kept c = keeps_all c.args.env.now
