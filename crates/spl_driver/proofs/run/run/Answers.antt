use Rattle.std.proofs.Common.{refl, subst, sym}
use Rattle.run_report.specs.declared.cause.Cause.{Cause}
use Rattle.run_report.specs.declared.cause.Cause.TheVariants as C
use Rattle.std.specs.Prelude.{Some}
use Rattle.file_adapters.specs.Sinks.{names_of}
use Rattle.spl_driver.specs.steps.Steps.{IsRunOf, ReasonOf}
use Rattle.spl_driver.proofs.Ordering.{follows_not, may_end, partial_kinds, partial_outcome, partial_text, sunk_follows, sunk_in_order, sunk_kinds, text_in_order}
use Rattle.spl_driver.proofs.Showing.{at_plain, bad_ran}
use Rattle.spl_driver.proofs.Running.{begun_same, distinct_for, ends_at, lent_behind, not_bad, own_for, partial_counts, partial_files, same_record, sunk_counts, sunk_ran, sunk_reason, sunk_record, sunk_text, unopened_counts, unopened_files, wanting_counts, wanting_files}
use Rattle.spl_driver.proofs.run.run.Goals as goal

-- ---- a source couldn't be opened

pub returns-in-OpenFailed-clause-files : goal.returns-in-OpenFailed-clause-files
returns-in-OpenFailed-clause-files g c =
    unopened_files begun_same _ _ (λ t. IsRunOf c.args.checked.now c.args.order.now c.plain_answer.result.ended.arrivals t) _ c.in-OpenFailed.name c.plain_answer.result.ended _ _ c.plain_answer.ensures.cause c.in-OpenFailed.ensures.told c.in-OpenFailed.ensures.reads c.in-OpenFailed.ensures.cause refl

pub returns-in-OpenFailed-clause-recorded : goal.returns-in-OpenFailed-clause-recorded
returns-in-OpenFailed-clause-recorded g c = same_record _ _ c.args.written.now c.args.checked.now (C.OpenFailed c.in-OpenFailed.name) c.plain_answer.result.ended _ _ c.plain_answer.ensures.cause refl c.in-OpenFailed.ensures.told

pub returns-in-OpenFailed-clause-counts : goal.returns-in-OpenFailed-clause-counts
returns-in-OpenFailed-clause-counts g c = unopened_counts c.plain_answer.result.ended.cause _ c.in-OpenFailed.name _ _ c.plain_answer.ensures.cause c.in-OpenFailed.ensures.cause refl c.args.checked.now.parts

pub returns-in-OpenFailed-clause-kinds : goal.returns-in-OpenFailed-clause-kinds
returns-in-OpenFailed-clause-kinds g c = may_end c.args.order.now c.plain_answer.result.ended.cause (not_bad c.plain_answer.result.ended.cause (C.OpenFailed c.in-OpenFailed.name) c.plain_answer.ensures.cause refl)

pub returns-in-OpenFailed-clause-followed : goal.returns-in-OpenFailed-clause-followed
returns-in-OpenFailed-clause-followed g c = follows_not c.args.order.now c.args.checked.now c.plain_answer.result.ended _ _ (ends_at c.plain_answer.result.ended.cause (C.OpenFailed c.in-OpenFailed.name) c.plain_answer.ensures.cause refl) c.in-OpenFailed.ensures.told

pub returns-in-OpenFailed-clause-reason : goal.returns-in-OpenFailed-clause-reason
returns-in-OpenFailed-clause-reason g c = subst (λ (k : Cause). ReasonOf k c.args.checked.now) (sym c.plain_answer.ensures.cause) tt

pub returns-in-OpenFailed-clause-ran : goal.returns-in-OpenFailed-clause-ran
returns-in-OpenFailed-clause-ran g c = at_plain c.plain_answer.result.ended.cause (C.OpenFailed c.in-OpenFailed.name) _ _ c.plain_answer.result.ended _ _ c.plain_answer.ensures.cause c.in-OpenFailed.ensures.cause.rose c.plain_answer.ensures.ran

-- ---- the record isn't whole

pub returns-in-NotWhole-clause-files : goal.returns-in-NotWhole-clause-files
returns-in-NotWhole-clause-files g c =
    partial_files _ _ c.args.checked.now (λ t. IsRunOf c.args.checked.now c.args.order.now c.bad_arrivals.result.ended.arrivals t) (Some c.in-NotWhole.op) _ c.bad_arrivals.result.ended _ _ c.bad_arrivals.ensures.cause c.in-NotWhole.ensures.told
    c.in-NotWhole.ensures.reads c.in-NotWhole.ensures.cause (partial_outcome c.args.order.now c.args.checked.now c.in-NotWhole.op _ c.bad_arrivals.result.ended.arrivals c.in-NotWhole.ensures.made)

pub returns-in-NotWhole-clause-recorded : goal.returns-in-NotWhole-clause-recorded
returns-in-NotWhole-clause-recorded g c = same_record _ _ c.args.written.now c.args.checked.now (C.BadArrivals (Some c.in-NotWhole.op)) c.bad_arrivals.result.ended _ _ c.bad_arrivals.ensures.cause refl c.in-NotWhole.ensures.told

pub returns-in-NotWhole-clause-counts : goal.returns-in-NotWhole-clause-counts
returns-in-NotWhole-clause-counts g c = partial_counts c.bad_arrivals.result.ended.cause (Some c.in-NotWhole.op) _ _ _ c.bad_arrivals.ensures.cause c.in-NotWhole.ensures.cause refl c.args.checked.now.parts

pub returns-in-NotWhole-clause-text : goal.returns-in-NotWhole-clause-text
returns-in-NotWhole-clause-text g c =
    partial_text c.args.order.now c.args.counted _ c.args.checked.now c.in-NotWhole.op c.bad_arrivals.result.ended c.bad_arrivals.result.text _ _ c.in-NotWhole.ensures.made c.bad_arrivals.ensures.cause c.bad_arrivals.ensures.text

pub returns-in-NotWhole-clause-kinds : goal.returns-in-NotWhole-clause-kinds
returns-in-NotWhole-clause-kinds g c = partial_kinds c.args.order.now c.args.checked.now c.in-NotWhole.op _ c.bad_arrivals.result.ended.cause c.in-NotWhole.ensures.made

pub returns-in-NotWhole-clause-followed : goal.returns-in-NotWhole-clause-followed
returns-in-NotWhole-clause-followed g c = follows_not c.args.order.now c.args.checked.now c.bad_arrivals.result.ended _ _ (ends_at c.bad_arrivals.result.ended.cause (C.BadArrivals (Some c.in-NotWhole.op)) c.bad_arrivals.ensures.cause refl) c.in-NotWhole.ensures.told

pub returns-in-NotWhole-clause-reason : goal.returns-in-NotWhole-clause-reason
returns-in-NotWhole-clause-reason g c = subst (λ (k : Cause). ReasonOf k c.args.checked.now) (sym c.bad_arrivals.ensures.cause) c.in-NotWhole.ensures.made.bad

pub returns-in-NotWhole-clause-ran : goal.returns-in-NotWhole-clause-ran
returns-in-NotWhole-clause-ran g c = bad_ran c.bad_arrivals.result.ended.cause (Some c.in-NotWhole.op) _ _ c.bad_arrivals.result.ended _ _ c.bad_arrivals.ensures.cause c.bad_arrivals.ensures.ran

-- ---- memory ran out

pub returns-in-Memory-clause-files : goal.returns-in-Memory-clause-files
returns-in-Memory-clause-files g c =
    wanting_files begun_same _ _ (λ t. IsRunOf c.args.checked.now c.args.order.now c.plain_answer-in-Memory.result.ended.arrivals t) _ c.plain_answer-in-Memory.result.ended _ _ c.plain_answer-in-Memory.ensures.cause c.in-Memory.ensures.told c.in-Memory.ensures.reads c.in-Memory.ensures.cause

pub returns-in-Memory-clause-recorded : goal.returns-in-Memory-clause-recorded
returns-in-Memory-clause-recorded g c = same_record _ _ c.args.written.now c.args.checked.now C.NoMemory c.plain_answer-in-Memory.result.ended _ _ c.plain_answer-in-Memory.ensures.cause refl c.in-Memory.ensures.told

pub returns-in-Memory-clause-counts : goal.returns-in-Memory-clause-counts
returns-in-Memory-clause-counts g c = wanting_counts c.plain_answer-in-Memory.result.ended.cause _ _ _ c.plain_answer-in-Memory.ensures.cause c.in-Memory.ensures.cause refl c.args.checked.now.parts

pub returns-in-Memory-clause-kinds : goal.returns-in-Memory-clause-kinds
returns-in-Memory-clause-kinds g c = may_end c.args.order.now c.plain_answer-in-Memory.result.ended.cause (not_bad c.plain_answer-in-Memory.result.ended.cause C.NoMemory c.plain_answer-in-Memory.ensures.cause refl)

pub returns-in-Memory-clause-followed : goal.returns-in-Memory-clause-followed
returns-in-Memory-clause-followed g c = follows_not c.args.order.now c.args.checked.now c.plain_answer-in-Memory.result.ended _ _ (ends_at c.plain_answer-in-Memory.result.ended.cause C.NoMemory c.plain_answer-in-Memory.ensures.cause refl) c.in-Memory.ensures.told

pub returns-in-Memory-clause-reason : goal.returns-in-Memory-clause-reason
returns-in-Memory-clause-reason g c = subst (λ (k : Cause). ReasonOf k c.args.checked.now) (sym c.plain_answer-in-Memory.ensures.cause) tt

pub returns-in-Memory-clause-ran : goal.returns-in-Memory-clause-ran
returns-in-Memory-clause-ran g c = at_plain c.plain_answer-in-Memory.result.ended.cause C.NoMemory _ _ c.plain_answer-in-Memory.result.ended _ _ c.plain_answer-in-Memory.ensures.cause tt c.plain_answer-in-Memory.ensures.ran

pub returns-in-Err-clause-files : goal.returns-in-Err-clause-files
returns-in-Err-clause-files g c =
    wanting_files begun_same _ _ (λ t. IsRunOf c.args.checked.now c.args.order.now c.plain_answer-in-Err.result.ended.arrivals t) _ c.plain_answer-in-Err.result.ended _ _ c.plain_answer-in-Err.ensures.cause c.in-Ran.ensures.told c.in-Ran.ensures.reads c.in-Ran.ensures.cause.others

pub returns-in-Err-clause-recorded : goal.returns-in-Err-clause-recorded
returns-in-Err-clause-recorded g c = same_record _ _ c.args.written.now c.args.checked.now C.NoMemory c.plain_answer-in-Err.result.ended _ _ c.plain_answer-in-Err.ensures.cause refl c.in-Ran.ensures.told

pub returns-in-Err-clause-counts : goal.returns-in-Err-clause-counts
returns-in-Err-clause-counts g c = wanting_counts c.plain_answer-in-Err.result.ended.cause _ _ _ c.plain_answer-in-Err.ensures.cause c.in-Ran.ensures.cause.others refl c.args.checked.now.parts

pub returns-in-Err-clause-kinds : goal.returns-in-Err-clause-kinds
returns-in-Err-clause-kinds g c = may_end c.args.order.now c.plain_answer-in-Err.result.ended.cause (not_bad c.plain_answer-in-Err.result.ended.cause C.NoMemory c.plain_answer-in-Err.ensures.cause refl)

pub returns-in-Err-clause-followed : goal.returns-in-Err-clause-followed
returns-in-Err-clause-followed g c = follows_not c.args.order.now c.args.checked.now c.plain_answer-in-Err.result.ended _ _ (ends_at c.plain_answer-in-Err.result.ended.cause C.NoMemory c.plain_answer-in-Err.ensures.cause refl) c.in-Ran.ensures.told

pub returns-in-Err-clause-reason : goal.returns-in-Err-clause-reason
returns-in-Err-clause-reason g c = subst (λ (k : Cause). ReasonOf k c.args.checked.now) (sym c.plain_answer-in-Err.ensures.cause) tt

pub returns-in-Err-clause-ran : goal.returns-in-Err-clause-ran
returns-in-Err-clause-ran g c = at_plain c.plain_answer-in-Err.result.ended.cause C.NoMemory _ _ c.plain_answer-in-Err.result.ended _ _ c.plain_answer-in-Err.ensures.cause tt c.plain_answer-in-Err.ensures.ran

-- ---- its files were written

pub write_sinks-sunk-requires-clause-distinct : goal.write_sinks-sunk-requires-clause-distinct
write_sinks-sunk-requires-clause-distinct g c κs within = distinct_for c.args.checked.now c.in-Ok.files.sinks c.in-Ok.ensures.sinks c.requires.own.0 c.requires.own.1

pub write_sinks-sunk-requires-clause-free : goal.write_sinks-sunk-requires-clause-free
write_sinks-sunk-requires-clause-free g c κs within =
    own_for c.in-Ok.files.sinks c.in-Ok.files.last c.args.written.now c.args.checked.now c.in-Ran.run'.arrivals (record { sinks_are = c.in-Ok.ensures.sinks; last_is = c.in-Ok.ensures.last }) c.requires.own.0 c.requires.own.1 c.requires.own.2

pub returns-in-Ok-clause-files : goal.returns-in-Ok-clause-files
returns-in-Ok-clause-files g c =
    let end = c.ended_run.ensures in
    sunk_in_order c.args.order.now c.engine_law.ensures.sinks _ _ _ c.write_sinks-sunk.result c.in-Ok.files.sinks c.in-Ok.files.last c.args.written.now c.args.checked.now c.in-Ran.run' c.ended_run.result.ended _ _ _ c.requires.own.0
    c.kept.ensures c.requires.own.1 (record { sinks_are = c.in-Ok.ensures.sinks; last_is = c.in-Ok.ensures.last }) c.in-Ran.ensures.made.0 c.in-Ran.ensures.made.1 c.in-Ran.ensures.told c.in-Ran.ensures.reads c.in-Ran.ensures.cause
    c.write_sinks-sunk.ensures.told c.write_sinks-sunk.ensures.count c.write_sinks-sunk.ensures.cause end.ends end.recorded

pub returns-in-Ok-clause-recorded : goal.returns-in-Ok-clause-recorded
returns-in-Ok-clause-recorded g c =
    let end = c.ended_run.ensures in
    sunk_record c.engine_law.ensures.sinks _ _ _ c.write_sinks-sunk.result c.in-Ok.files.sinks c.in-Ok.files.last c.args.written.now c.args.checked.now c.in-Ran.run' c.ended_run.result.ended _ _ _ c.kept.ensures c.in-Ran.ensures.made.0
    (record { sinks_are = c.in-Ok.ensures.sinks; last_is = c.in-Ok.ensures.last }) c.in-Ran.ensures.told c.in-Ran.ensures.cause c.write_sinks-sunk.ensures.told c.write_sinks-sunk.ensures.cause end.ends end.recorded

pub returns-in-Ok-clause-counts : goal.returns-in-Ok-clause-counts
returns-in-Ok-clause-counts g c =
    let end = c.ended_run.ensures in
    sunk_counts _ c.write_sinks-sunk.result c.in-Ok.files.sinks c.in-Ok.files.last c.args.written.now c.args.checked.now c.in-Ran.run' c.ended_run.result.ended _ _ _ c.requires.own.0 c.requires.own.1
    (record { sinks_are = c.in-Ok.ensures.sinks; last_is = c.in-Ok.ensures.last }) c.in-Ran.ensures.made.0 c.in-Ran.ensures.cause c.write_sinks-sunk.ensures.cause end.ends

pub returns-in-Ok-clause-text : goal.returns-in-Ok-clause-text
returns-in-Ok-clause-text g c =
    let end = c.ended_run.ensures in
    let names = names_of c.in-Ok.files.sinks c.in-Ok.files.last in
    text_in_order c.args.order.now c.args.counted _ c.write_sinks-sunk.result c.args.checked.now names c.in-Ran.run' c.ended_run.result.ended c.ended_run.result.text _ _ _ c.write_sinks-sunk.ensures.cause
    c.in-Ran.ensures.made.1 end.ends end.recorded
    (sunk_text c.engine_law.ensures.sinks c.args.counted _ c.write_sinks-sunk.result c.args.checked.now c.in-Ok.files.sinks names c.in-Ran.run' c.ended_run.result.ended c.ended_run.result.text _ _ _ c.kept.ensures c.in-Ok.ensures.sinks
    c.in-Ran.ensures.made.0 c.write_sinks-sunk.ensures.count c.write_sinks-sunk.ensures.cause end.ends end.recorded end.text)

pub returns-in-Ok-clause-kinds : goal.returns-in-Ok-clause-kinds
returns-in-Ok-clause-kinds g c =
    sunk_kinds c.args.order.now c.write_sinks-sunk.result c.args.checked.now c.in-Ran.run'.fault (names_of c.in-Ok.files.sinks c.in-Ok.files.last) c.ended_run.result.ended _ _ c.write_sinks-sunk.ensures.cause c.ended_run.ensures.ends

pub returns-in-Ok-clause-followed : goal.returns-in-Ok-clause-followed
returns-in-Ok-clause-followed g c =
    let end = c.ended_run.ensures in
    sunk_follows c.args.order.now _ _ _ c.write_sinks-sunk.result c.in-Ok.files.sinks c.in-Ok.files.last c.args.checked.now c.in-Ran.run' c.ended_run.result.ended _ _ _
    c.in-Ran.ensures.made.0 c.in-Ran.ensures.made.1 c.in-Ran.ensures.told c.write_sinks-sunk.ensures.told c.write_sinks-sunk.ensures.cause end.ends end.recorded

pub returns-in-Ok-clause-reason : goal.returns-in-Ok-clause-reason
returns-in-Ok-clause-reason g c =
    sunk_reason c.write_sinks-sunk.result c.args.checked.now c.in-Ran.run'.fault (names_of c.in-Ok.files.sinks c.in-Ok.files.last) c.ended_run.result.ended _ _ c.write_sinks-sunk.ensures.cause c.ended_run.ensures.ends

pub returns-in-Ok-clause-ran : goal.returns-in-Ok-clause-ran
returns-in-Ok-clause-ran g c =
    let end = c.ended_run.ensures in
    sunk_ran c.engine_law.ensures.sinks _ c.write_sinks-sunk.result c.args.checked.now c.in-Ok.files.sinks (names_of c.in-Ok.files.sinks c.in-Ok.files.last) c.in-Ran.run' c.ended_run.result.ended _ _ _ c.kept.ensures c.in-Ok.ensures.sinks c.in-Ran.ensures.made.0
    c.in-Ran.ensures.cause c.write_sinks-sunk.ensures.count c.write_sinks-sunk.ensures.cause end.ends end.recorded

pub returns-in-Ok-clause-lent : goal.returns-in-Ok-clause-lent
returns-in-Ok-clause-lent g c = lent_behind c.args.checked.now c.in-Ok.files.sinks _ _ _ c.kept.ensures c.in-Ok.ensures.sinks c.in-Ran.ensures.lent c.write_sinks-sunk.ensures.lent
