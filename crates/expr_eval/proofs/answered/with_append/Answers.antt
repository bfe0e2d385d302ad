use Rattle.spl_tree.specs.declared.body.Change.TheVariants as H
use Rattle.language_model.specs.Outcomes.{Done}
use Rattle.value_operations.proofs.Following.{answer_stops, answer_then}
use Rattle.expr_eval.proofs.answered.with_append.Goals as goal

pub returns-in-Ok : goal.returns-in-Ok
returns-in-Ok c = λ outcome turns h. answer_then outcome (λ v left. Done (c.args.steps, H.Append v) left) turns c.args.value c.in-Ok.value c.in-Ok.is h

pub returns-in-Err : goal.returns-in-Err
returns-in-Err c = λ outcome turns h. answer_stops outcome (λ v left. Done (c.args.steps, H.Append v) left) turns c.args.value c.in-Err.stop c.in-Err.is h
