use Rattle.std.proofs.Common.{subst, sym}
use Rattle.spl_value.specs.declared.value.Value.TheViews.{out-Value}
use Rattle.language_model.specs.Operators.{level_at_key}
use Rattle.language_model.specs.Outcomes.{followed, settled}
use Rattle.value_operations.specs.Answers.{Answers, SettlesHeld, held}
use Rattle.value_operations.specs.Taking.{HasKeys}
use Rattle.value_operations.proofs.Following.{answers_held_by, held_stops, held_then, settled_held}
use Rattle.value_operations.proofs.taking.value_at.Goals as goal

pub at_key-requires : goal.at_key-requires
at_key-requires c = subst (HasKeys (held c.args.map)) (sym c.value.ensures) (c.requires c.in-Ok.key c.in-Ok.is)

pub returns-in-Ok : goal.returns-in-Ok
returns-in-Ok c = λ outcome turns h.
    answers_held_by _ _ _ turns (held_then outcome (λ v left. settled (level_at_key (out-Value (held c.args.map)) v) left) turns c.args.key c.in-Ok.key c.in-Ok.is h)
    (settled_held _ _ turns (subst (λ v. SettlesHeld (level_at_key (out-Value (held c.args.map)) v) c.at_key.result) c.value.ensures c.at_key.ensures))

pub returns-in-Err : goal.returns-in-Err
returns-in-Err c = λ outcome turns h.
    c.owned.ensures.answered _ turns
    (subst (λ r. Answers (followed outcome (λ v left. settled (level_at_key (out-Value (held c.args.map)) v) left)) r turns) (sym c.stopped.ensures)
    (held_stops outcome (λ v left. settled (level_at_key (out-Value (held c.args.map)) v) left) turns c.args.key c.in-Err.stop c.in-Err.is h))
