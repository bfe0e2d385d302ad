use Rattle.std.proofs.Common.{subst, sym}
use Rattle.language_model.specs.Operators.{binary_of}
use Rattle.language_model.specs.Outcomes.{followed, settled}
use Rattle.value_operations.specs.Answers.{Answers, held}
use Rattle.value_operations.proofs.Following.{answers_held_by, held_stops, held_then, settled_held}
use Rattle.value_operations.proofs.operators.operator_with.Goals as goal

pub right_operand-requires : goal.right_operand-requires
right_operand-requires c = c.requires c.in-Ok.right c.in-Ok.is

pub returns-in-Ok : goal.returns-in-Ok
returns-in-Ok c = λ outcome turns h.
    answers_held_by _ _ _ turns (held_then outcome (λ v after. settled (binary_of c.args.operator (held c.args.left) v) after) turns c.args.right c.in-Ok.right c.in-Ok.is h)
    (settled_held _ _ turns (c.owned.ensures.settled _ c.right_operand.ensures))

pub returns-in-Err : goal.returns-in-Err
returns-in-Err c = λ outcome turns h.
    c.owned-in-Err.ensures.answered _ turns
    (subst (λ r. Answers (followed outcome (λ v after. settled (binary_of c.args.operator (held c.args.left) v) after)) r turns) (sym c.stopped.ensures)
    (held_stops outcome (λ v after. settled (binary_of c.args.operator (held c.args.left) v) after) turns c.args.right c.in-Err.stop c.in-Err.is h))
