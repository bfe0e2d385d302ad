use Rattle.std.specs.Prelude.{Some}
use Rattle.language_model.specs.declared.flow.Flow.TheVariants as F
use Rattle.language_model.specs.Outcomes.{Done}
use Rattle.value_operations.proofs.Following.{answer_stops, answer_then}
use Rattle.expr_eval.proofs.statements.return_value.Goals as goal

pub returns-in-Ok : goal.returns-in-Ok
returns-in-Ok c = λ outcome s turns h. answer_then outcome (λ v left. Done (F.Returned (Some v), s) left) turns c.args.value c.in-Ok.value c.in-Ok.is h

pub returns-in-Err : goal.returns-in-Err
returns-in-Err c = λ outcome s turns h. answer_stops outcome (λ v left. Done (F.Returned (Some v), s) left) turns c.args.value c.in-Err.stop c.in-Err.is h
