use Rattle.std.proofs.Common.{subst}
use Rattle.expr_eval.specs.Running.{LeadsNext}
use Rattle.expr_eval.proofs.statements.next_follows.Goals as goal

pub returns-in-Ok : goal.returns-in-Ok
returns-in-Ok c = λ outcome s turns h. subst (λ done. LeadsNext outcome done s turns) c.in-Ok.is h

pub returns-in-Err : goal.returns-in-Err
returns-in-Err c = λ outcome s turns h. subst (λ done. LeadsNext outcome done s turns) c.in-Err.is h
