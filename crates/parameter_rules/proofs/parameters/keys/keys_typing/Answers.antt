use Rattle.std.specs.Prelude.{reverse, drop, ◌+◌, Err}
use Rattle.std.proofs.Common.{ap, sym, ◌∙◌}
use Rattle.language_model.specs.ParameterTyping.{keys_typing}
use Rattle.language_model.specs.Finds.{with_front}
use Rattle.literal_sites.proofs.Answering.{fails_by, row_on, row_stops}
use Rattle.parameter_rules.proofs.Giving.{key_behind, keys_row}
use Rattle.parameter_rules.proofs.parameters.keys.keys_typing.Goals as goal
use Rattle.language_model.proofs.FoundAnswers.{finds_by}
use Rattle.spl_value.proofs.Lists.{reverse_more}

pub returns-in_err-next : goal.returns-in_err-next
returns-in_err-next c =
    let schema = c.args.schema.now in
    let places = c.loop-value.places in
    let e = c.in_err-next.field-0.0 in
    fails_by _ _ _ e c.from_residual.ensures.1 c.loop-value.invariant
    (row_stops (key_behind schema) (keys_typing schema) (λ n. n) (keys_row schema) c.args.values.now c.loop-value.value-index places
    (reverse places) c.value-item.result c.loop-value-test.true c.value-item.is e
    (finds_by _ _ (Err e) (ap (λ xs. key_behind schema (reverse xs) c.value-item.result) (sym c.as_slice.ensures)) c.in_err-next.ensures))

pub loop-value-preserved : goal.loop-value-preserved
loop-value-preserved c =
    let schema = c.args.schema.now in
    let places = c.loop-value.places in
    c.loop-value.invariant
    ∙ row_on (key_behind schema) (keys_typing schema) (λ n. n) (keys_row schema) c.args.values.now c.loop-value.value-index places
    (reverse places) c.value-item.result c.loop-value-test.true c.value-item.is c.in_ok-next.next c.push.new.self
    (ap (λ xs. key_behind schema (reverse xs) c.value-item.result) (sym c.as_slice.ensures) ∙ c.in_ok-next.ensures)
    c.in_ok-push.ensures.ok
    ∙ ap (λ before. with_front c.push.new.self (keys_typing schema before (drop (c.loop-value.value-index + 1) c.args.values.now)))
    (sym (reverse_more places c.push.new.self c.in_ok-next.next c.in_ok-push.ensures.ok))
