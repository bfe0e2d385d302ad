use Rattle.spl_tree.specs.declared.code.Selector.TheVariants as K
use Rattle.language_model.specs.Outcomes.{Done}
use Rattle.value_operations.proofs.Following.{answer_stops, answer_then}
use Rattle.expr_eval.proofs.answered.element_step.Goals as goal

pub returns-in-Ok : goal.returns-in-Ok
returns-in-Ok c = λ outcome turns h. answer_then outcome (λ v left. Done (K.Element v) left) turns c.args.index c.in-Ok.index c.in-Ok.is h

pub returns-in-Err : goal.returns-in-Err
returns-in-Err c = λ outcome turns h. answer_stops outcome (λ v left. Done (K.Element v) left) turns c.args.index c.in-Err.stop c.in-Err.is h
