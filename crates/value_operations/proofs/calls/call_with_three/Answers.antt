use Rattle.std.proofs.Common.{[], subst, sym, ◌∷◌}
use Rattle.language_model.specs.parts.BuiltInCalls.{built_in_of}
use Rattle.language_model.specs.Outcomes.{followed, settled}
use Rattle.value_operations.specs.Answers.{Answers, held}
use Rattle.value_operations.proofs.Following.{answers_by, held_stops, held_then, settled_answers}
use Rattle.value_operations.proofs.calls.call_with_three.Goals as goal

pub third_argument-requires : goal.third_argument-requires
third_argument-requires c = c.requires c.in-Ok.third c.in-Ok.is

pub returns-in-Ok : goal.returns-in-Ok
returns-in-Ok c = λ outcome turns h.
    answers_by _ _ _ turns (held_then outcome (λ v left. settled (built_in_of c.args.call (held c.args.first ∷ held c.args.second ∷ v ∷ [])) left) turns c.args.third c.in-Ok.third c.in-Ok.is h)
    (settled_answers _ _ turns c.third_argument.ensures)

pub returns-in-Err : goal.returns-in-Err
returns-in-Err c = λ outcome turns h.
    subst (λ r. Answers (followed outcome (λ v left. settled (built_in_of c.args.call (held c.args.first ∷ held c.args.second ∷ v ∷ [])) left)) r turns) (sym c.stopped.ensures)
    (held_stops outcome (λ v left. settled (built_in_of c.args.call (held c.args.first ∷ held c.args.second ∷ v ∷ [])) left) turns c.args.third c.in-Err.stop c.in-Err.is h)
