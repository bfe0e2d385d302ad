use Rattle.spl_tree.specs.declared.body.Change.TheVariants as H
use Rattle.language_model.specs.Outcomes.{Done}
use Rattle.value_operations.proofs.Following.{answer_stops, answer_then}
use Rattle.expr_eval.proofs.answered.with_clear.Goals as goal

pub returns-in-Ok : goal.returns-in-Ok
returns-in-Ok c = λ outcome turns h. answer_then outcome (λ steps left. Done (steps, H.Clear) left) turns c.args.steps c.in-Ok.steps c.in-Ok.is h

pub returns-in-Err : goal.returns-in-Err
returns-in-Err c = λ outcome turns h. answer_stops outcome (λ steps left. Done (steps, H.Clear) left) turns c.args.steps c.in-Err.stop c.in-Err.is h
