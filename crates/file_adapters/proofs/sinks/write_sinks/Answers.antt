use Rattle.std.proofs.Common.{rules, ◌≡◌, ◌≤◌, ◌∙◌, ap, length, arith, [], Some}
use Rattle.std.specs.List.{All}
use Rattle.file_adapters.proofs.LastText.{created_counts, created_told, filled_after}
use Rattle.file_adapters.proofs.Unwritten.{empty_told, unwritten_counts, unwritten_told}
use Rattle.file_adapters.proofs.sinks.write_sinks.Goals as goal

-- ---- all sinks' files were created

pub returns-in-None-clause-told : goal.returns-in-None-clause-told
returns-in-None-clause-told g c =
    rw c.in-None.is
    (created_told (All (λ p. (g.H.Writer.Pour).poured p ≡ Some []) c.create_each.new.pours.items) c.fill_sinks.result c.args.sinks.now c.args.streams.now _ (length c.create_each.new.pours.items) _ _ _ _ _ _ (rw c.in-None.is at c.requires.free)
    (filled_after c.fill_sinks.result (length c.args.sinks.now) c.fill_sinks.ensures.filled) (c.in-Ok-create_each.ensures.count ∙ ap length c.as_slice.ensures) c.in-Ok-create_each.ensures.cause.cause
    (rw c.as_slice.ensures at c.in-Ok-create_each.ensures.told) c.in-Ok-create_each.ensures.poured c.fill_sinks.ensures.told)

pub returns-in-Some-clause-told : goal.returns-in-Some-clause-told
returns-in-Some-clause-told g c =
    rw c.in-Some.is
    (created_told (All (λ p. (g.H.Writer.Pour).poured p ≡ Some []) c.create_each.new.pours.items) c.write_before.result c.args.sinks.now c.args.streams.now _ (length c.create_each.new.pours.items) _ _ _ _ _ _ (rw c.in-Some.is at c.requires.free)
    c.write_before.ensures.after (c.in-Ok-create_each.ensures.count ∙ ap length c.as_slice.ensures) c.in-Ok-create_each.ensures.cause.cause
    (rw c.as_slice.ensures at c.in-Ok-create_each.ensures.told) c.in-Ok-create_each.ensures.poured c.write_before.ensures.told)

pub returns-in-None-clause-cause : goal.returns-in-None-clause-cause
returns-in-None-clause-cause g c = rw c.in-None.is (created_counts c.fill_sinks.result _ _ _ _ c.in-Ok-create_each.ensures.cause.cause c.fill_sinks.ensures.cause)

pub returns-in-Some-clause-cause : goal.returns-in-Some-clause-cause
returns-in-Some-clause-cause g c = rw c.in-Some.is (created_counts c.write_before.result _ _ _ _ c.in-Ok-create_each.ensures.cause.cause c.write_before.ensures.cause)

-- ---- some wasn't

pub returns-in-Err-clause-told : goal.returns-in-Err-clause-told
returns-in-Err-clause-told g c =
    let pours = c.create_each.new.pours.items in
    let few = c.in-Err.ensures.count in
    let all = ap length c.as_slice.ensures in
    let within : length pours ≤ length c.args.sinks.now = omega (arith, few, all) in
    let place : c.len-place.result ≡ length pours = search rules in
    rw (c.not_created.ensures, place)
    (unwritten_told c.in-Err.e c.args.sinks.now c.args.streams.now c.args.last.now (length pours) _ _ _ _ c.requires.distinct c.requires.free within
    (empty_told (g.H.Writer.Pour).poured (g.H.Writer.Pour).faults c.finish_each.result pours c.args.sinks.now _ _ _ _ _ within c.in-Err.ensures.poured
    (rw c.as_slice.ensures at c.in-Err.ensures.told) (rw c.as_slice-in-Err.ensures at c.finish_each.ensures.told)))

pub returns-in-Err-clause-cause : goal.returns-in-Err-clause-cause
returns-in-Err-clause-cause g c =
    let pours = c.create_each.new.pours.items in
    let few = c.in-Err.ensures.count in
    let all = ap length c.as_slice.ensures in
    let within : length pours ≤ length c.args.sinks.now = omega (arith, few, all) in
    let place : c.len-place.result ≡ length pours = search rules in
    rw (c.not_created.ensures, place)
    (unwritten_counts c.in-Err.e c.finish_each.result _ _ _ c.args.sinks.now c.args.last.now (length pours) within
    (rw c.as_slice.ensures at c.in-Err.ensures.cause) (rw c.as_slice-in-Err.ensures at c.finish_each.ensures.cause))
