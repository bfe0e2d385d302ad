use Rattle.std.proofs.Common.{subst}
use Rattle.value_operations.specs.Answers.{Answers}
use Rattle.expr_eval.proofs.answered.put_at_key.Goals as goal

pub returns-in_ok-put-in-Ok : goal.returns-in_ok-put-in-Ok
returns-in_ok-put-in-Ok c = λ outcome turns h.
    (c.in-Ok.value, subst (λ r. Answers outcome r turns) c.in-Ok.is h, c.in_ok-put-in-Ok.ensures.ok, c.in_ok-put-in-Ok.ensures.sorted)

pub returns-in-Err : goal.returns-in-Err
returns-in-Err c = λ outcome turns h. subst (λ r. Answers outcome r turns) c.in-Err.is h
