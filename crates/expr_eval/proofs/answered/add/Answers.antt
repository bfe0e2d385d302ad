use Rattle.std.proofs.Common.{subst}
use Rattle.value_operations.specs.Answers.{Answers}
use Rattle.expr_eval.proofs.answered.add.Goals as goal

pub returns-in_ok-push-in-Ok : goal.returns-in_ok-push-in-Ok
returns-in_ok-push-in-Ok t c = λ outcome turns h. (c.in-Ok.item, subst (λ r. Answers outcome r turns) c.in-Ok.is h, c.in_ok-push-in-Ok.ensures.ok)

pub returns-in-Err : goal.returns-in-Err
returns-in-Err t c = λ outcome turns h. subst (λ r. Answers outcome r turns) c.in-Err.is h
