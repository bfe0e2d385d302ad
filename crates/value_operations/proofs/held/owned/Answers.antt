use Rattle.std.proofs.Common.{subst}
use Rattle.value_operations.specs.Answers.{Answers, Settles}
use Rattle.value_operations.proofs.Following.{stopped_held}
use Rattle.value_operations.proofs.held.owned.Goals as goal

pub returns-in-Ok : goal.returns-in-Ok
returns-in-Ok c = record {
  settled = λ outcome h. subst (Settles outcome) c.in-Ok.is h;
  answered = λ outcome turns h. subst (λ r. Answers outcome r turns) c.in-Ok.is h;
}

pub returns-in-Err : goal.returns-in-Err
returns-in-Err c = record {
  settled = λ outcome h. stopped_held outcome c.in-Err.stop (subst (Settles outcome) c.in-Err.is h);
  answered = λ outcome turns h. subst (λ r. Answers outcome r turns) c.in-Err.is h;
}
