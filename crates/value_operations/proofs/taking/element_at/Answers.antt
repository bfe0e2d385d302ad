use Rattle.std.proofs.Common.{subst, sym}
use Rattle.spl_value.specs.declared.value.Value.TheViews.{out-Value}
use Rattle.language_model.specs.Operators.{level_element}
use Rattle.language_model.specs.Outcomes.{followed, settled}
use Rattle.value_operations.specs.Answers.{Answers, SettlesHeld, held}
use Rattle.value_operations.specs.Taking.{HasElements}
use Rattle.value_operations.proofs.Following.{answers_held_by, held_stops, held_then, settled_held}
use Rattle.value_operations.proofs.taking.element_at.Goals as goal

pub element-requires : goal.element-requires
element-requires c = subst (HasElements (held c.args.list)) (sym c.value.ensures) (c.requires c.in-Ok.index c.in-Ok.is)

pub returns-in-Ok : goal.returns-in-Ok
returns-in-Ok c = λ outcome turns h.
    answers_held_by _ _ _ turns (held_then outcome (λ v left. settled (level_element (out-Value (held c.args.list)) (out-Value v)) left) turns c.args.index c.in-Ok.index c.in-Ok.is h)
    (settled_held _ _ turns (subst (λ v. SettlesHeld (level_element (out-Value (held c.args.list)) (out-Value v)) c.element.result) c.value.ensures c.element.ensures))

pub returns-in-Err : goal.returns-in-Err
returns-in-Err c = λ outcome turns h.
    c.owned.ensures.answered _ turns
    (subst (λ r. Answers (followed outcome (λ v left. settled (level_element (out-Value (held c.args.list)) (out-Value v)) left)) r turns) (sym c.stopped.ensures)
    (held_stops outcome (λ v left. settled (level_element (out-Value (held c.args.list)) (out-Value v)) left) turns c.args.index c.in-Err.stop c.in-Err.is h))
