use Rattle.std.proofs.Common.{ap, ◌∙◌}
use Rattle.spl_value.specs.declared.value.Value.TheViews.{out-Value}
use Rattle.language_model.specs.Outcomes.{Done, need}
use Rattle.language_model.specs.Statements.{level_tuple}
use Rattle.value_operations.proofs.Following.{answer_stops, answer_then}
use Rattle.value_operations.proofs.collections.values_of_tuple.Goals as goal

pub tuple_values-requires : goal.tuple_values-requires
tuple_values-requires c = c.requires c.in-Ok.value c.in-Ok.is

pub returns-in-Ok : goal.returns-in-Ok
returns-in-Ok c = λ outcome turns h.
    answer_then outcome (λ v left. need (level_tuple (out-Value v)) (λ vs. Done vs left)) turns c.args.tuple c.in-Ok.value c.in-Ok.is h
    ∙ ap (λ o. need o (λ vs. Done vs turns)) c.tuple_values.ensures

pub returns-in-Err : goal.returns-in-Err
returns-in-Err c = λ outcome turns h.
    answer_stops outcome (λ v left. need (level_tuple (out-Value v)) (λ vs. Done vs left)) turns c.args.tuple c.in-Err.stop c.in-Err.is h
