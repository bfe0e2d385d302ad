use Rattle.std.proofs.Common.{subst}
use Rattle.language_model.specs.Finds.{Finds}
use Rattle.language_model.proofs.FoundAnswers.{goes, stops}
use Rattle.call_rules.proofs.operators.prefixed.Goals as goal

pub returns-in-Ok : goal.returns-in-Ok
returns-in-Ok c = λ o h. goes o _ c.in-Ok.typed c.with_prefixes.result (subst (Finds o) c.in-Ok.is h) c.with_prefixes.ensures

pub returns-in-Err : goal.returns-in-Err
returns-in-Err c = λ o h. stops o _ c.in-Err.answer (subst (Finds o) c.in-Err.is h)
