use Rattle.spl_value.specs.declared.value.Value.TheVariants as V
use Rattle.language_model.specs.Outcomes.{Done}
use Rattle.value_operations.proofs.Following.{answer_stops, answer_then}
use Rattle.value_operations.proofs.held.tuple_value.Goals as goal

pub returns-in-Ok : goal.returns-in-Ok
returns-in-Ok c = λ outcome turns h. answer_then outcome (λ x left. Done (V.Tuple x) left) turns c.args.values c.in-Ok.values c.in-Ok.is h

pub returns-in-Err : goal.returns-in-Err
returns-in-Err c = λ outcome turns h. answer_stops outcome (λ x left. Done (V.Tuple x) left) turns c.args.values c.in-Err.stop c.in-Err.is h
