use Rattle.std.proofs.Common.{[], subst, sym, ◌∷◌}
use Rattle.language_model.specs.parts.BuiltInCalls.{built_in_of}
use Rattle.language_model.specs.Outcomes.{settled}
use Rattle.value_operations.specs.Answers.{Settles}
use Rattle.value_operations.specs.Fitting.{FitBuiltIn}
use Rattle.value_operations.proofs.Following.{answers_by, held_stops, held_then, settled_answers}
use Rattle.value_operations.proofs.calls.call_with_one.Goals as goal

pub one_argument-requires : goal.one_argument-requires
one_argument-requires c =
    subst (λ v. FitBuiltIn c.args.call (v ∷ [])) (sym c.value.ensures) (c.requires c.in-Ok.first c.in-Ok.is)

pub returns-in-Ok : goal.returns-in-Ok
returns-in-Ok c = λ outcome turns h.
    answers_by _ _ _ turns (held_then outcome (λ v left. settled (built_in_of c.args.call (v ∷ [])) left) turns c.args.first c.in-Ok.first c.in-Ok.is h)
    (settled_answers _ _ turns (subst (λ v. Settles (built_in_of c.args.call (v ∷ [])) c.one_argument.result) c.value.ensures c.one_argument.ensures))

pub returns-in-Err : goal.returns-in-Err
returns-in-Err c = λ outcome turns h. held_stops outcome (λ v left. settled (built_in_of c.args.call (v ∷ [])) left) turns c.args.first c.in-Err.stop c.in-Err.is h
