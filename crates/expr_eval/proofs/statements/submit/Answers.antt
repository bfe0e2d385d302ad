use Rattle.std.proofs.Common.{ap, sym, ◌∙◌}
use Rattle.spl_value.specs.declared.item.Item.TheVariants as I
use Rattle.spl_value.specs.declared.value.Value.TheViews.{out-Value}
use Rattle.language_model.specs.declared.flow.Flow.TheVariants as F
use Rattle.language_model.specs.Outcomes.{Done, need}
use Rattle.language_model.specs.Statements.{level_tuple, submitted}
use Rattle.expr_eval.specs.Running.{state}
use Rattle.value_operations.proofs.Following.{answer_stops, answer_then}
use Rattle.expr_eval.proofs.statements.submit.Goals as goal

pub tuple_values-requires : goal.tuple_values-requires
tuple_values-requires c = c.requires c.in-Ok.value c.in-Ok.is

pub returns-in_ok-push-in-Ok : goal.returns-in_ok-push-in-Ok
returns-in_ok-push-in-Ok c = λ outcome env turns h.
    answer_then outcome (λ v left. need (level_tuple (out-Value v)) (λ values. Done (F.Next, submitted (state env c.args.submits.now) c.args.port (I.Tuple values)) left)) turns c.args.tuple c.in-Ok.value c.in-Ok.is h
    ∙ ap (λ o. need o (λ values. Done (F.Next, submitted (state env c.args.submits.now) c.args.port (I.Tuple values)) turns)) c.tuple_values.ensures
    ∙ ap (λ submits. Done (F.Next, state env submits) turns) (sym c.in_ok-push-in-Ok.ensures.ok)

pub returns-in-Err : goal.returns-in-Err
returns-in-Err c = λ outcome env turns h. answer_stops outcome (λ v left. need (level_tuple (out-Value v)) (λ values. Done (F.Next, submitted (state env c.args.submits.now) c.args.port (I.Tuple values)) left)) turns c.args.tuple c.in-Err.stop c.in-Err.is h
