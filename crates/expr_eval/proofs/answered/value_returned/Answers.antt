use Rattle.std.specs.Prelude.{Ok}
use Rattle.std.proofs.Common.{ap, ◌∙◌}
use Rattle.language_model.specs.Outcomes.{Done, need}
use Rattle.value_operations.proofs.Following.{answer_stops, answer_then}
use Rattle.expr_eval.proofs.answered.value_returned.Goals as goal

pub there-requires : goal.there-requires
there-requires c = λ none. c.requires (c.in-Ok.is ∙ ap Ok none)

pub returns-in-Ok : goal.returns-in-Ok
returns-in-Ok c = λ outcome turns h.
    answer_then outcome (λ returned left. need returned (λ v. Done v left)) turns c.args.answer c.in-Ok.returned c.in-Ok.is h
    ∙ ap (λ returned. need returned (λ v. Done v turns)) c.there.ensures

pub returns-in-Err : goal.returns-in-Err
returns-in-Err c = λ outcome turns h. answer_stops outcome (λ returned left. need returned (λ v. Done v left)) turns c.args.answer c.in-Err.stop c.in-Err.is h
