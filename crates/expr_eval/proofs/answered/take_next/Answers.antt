use Rattle.std.proofs.Common.{subst}
use Rattle.language_model.specs.Changes.{step_of}
use Rattle.language_model.specs.Outcomes.{settled}
use Rattle.value_operations.specs.Answers.{Answers, held}
use Rattle.value_operations.proofs.Following.{answer_stops}
use Rattle.expr_eval.proofs.Answering.{step_taken}
use Rattle.expr_eval.proofs.answered.take_next.Goals as goal

pub take_step-requires : goal.take_step-requires
take_step-requires c = c.requires c.in-Ok.step c.in-Ok.is

pub returns-in-Ok : goal.returns-in-Ok
returns-in-Ok c = λ outcome turns h. step_taken outcome _ _ _ _ turns c.in-Ok.step (subst (λ r. Answers outcome r turns) c.in-Ok.is h) c.take_step.ensures

pub returns : goal.returns
returns c = λ outcome turns h. answer_stops outcome (λ step left. settled (step_of step (held c.args.value)) left) turns c.args.answer c.in-Err.stop c.in-Err.is h
