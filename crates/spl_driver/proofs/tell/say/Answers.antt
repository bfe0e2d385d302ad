use Rattle.std.proofs.Common.{◌∙◌, sym}
use Rattle.spl_driver.proofs.Telling.{poured_front, poured_failed, poured_unwritten, rose_by, run_is, unwritten, unwritten_run}
use Rattle.spl_driver.proofs.tell.say.Goals as goal

pub returns-then-is_run-clause-cause : goal.returns-then-is_run-clause-cause
returns-then-is_run-clause-cause g c =
    unwritten c.args.cause c.write_failed.result _ c.write_failed.ensures (run_is c.args.cause (sym c.is_run.ensures ∙ c.if-is_run.true))
    (rose_by _ _ _ c.in-Err-Failed.field-0-is c.in-Err-Failed.ensures.cause)

pub returns-then-is_run-clause-poured : goal.returns-then-is_run-clause-poured
returns-then-is_run-clause-poured g c =
    poured_unwritten c.args.cause c.write_failed.result _ _ _ _ c.write_failed.ensures
    (poured_failed c.args.cause _ _ _ _ _ _ c.in-Err-Failed.field-0-is (sym c.is_run.ensures ∙ c.if-is_run.true) c.in-Err-Failed.ensures.poured c.in-Err-Failed.ensures.cause)

pub returns-then-is_run-clause-quiet : goal.returns-then-is_run-clause-quiet
returns-then-is_run-clause-quiet g c = λ run. absurd (unwritten_run c.args.cause c.write_failed.result c.write_failed.ensures run)

pub returns-else-is_run-clause-poured : goal.returns-else-is_run-clause-poured
returns-else-is_run-clause-poured g c =
    poured_front c.args.cause _ _ _ _ _ _ c.in-Err-Failed.field-0-is (sym c.is_run.ensures ∙ c.if-is_run.false) c.in-Err-Failed.ensures.poured c.in-Err-Failed.ensures.cause
