use Rattle.std.proofs.Common.{ap, sym, ◌∙◌}
use Rattle.language_model.specs.declared.flow.Flow.TheVariants as F
use Rattle.language_model.specs.Outcomes.{Done}
use Rattle.value_operations.proofs.Following.{held_stops, held_then}
use Rattle.expr_eval.proofs.statements.next_follows_value.Goals as goal

pub returns-in-Ok : goal.returns-in-Ok
returns-in-Ok c = λ outcome s turns h. held_then outcome (λ v left. Done (F.Next, s) left) turns c.args.value _ c.in-Ok.is h ∙ ap (λ flow. Done (flow, s) turns) (sym c.next_behind.ensures)

pub returns-in-Err : goal.returns-in-Err
returns-in-Err c = λ outcome s turns h. held_stops outcome (λ v left. Done (F.Next, s) left) turns c.args.value c.in-Err.stop c.in-Err.is h
