use Rattle.std.proofs.Common.{refl}
use Rattle.run_report.specs.declared.cause.Cause.TheVariants as C
use Rattle.spl_driver.proofs.PlainAnswers.{plain_request}
use Rattle.spl_driver.proofs.Running.{begun_same}
use Rattle.spl_driver.proofs.Showing.{quiet_shown}
use Rattle.spl_driver.proofs.Standing.{wanting_answer, built_words}
use Rattle.spl_driver.proofs.Telling.{not_run}
use Rattle.spl_driver.proofs.answer.answer_program.Goals as goal
use Rattle.spl_driver.proofs.Fetching.{told_again}

pub returns-in-Err : goal.returns-in-Err
returns-in-Err g c =
    plain_request _ _ _ C.NoMemory c.plain_answer.result _ _ _ _ c.plain_answer.ensures.cause (not_run C.NoMemory refl) tt tt tt (quiet_shown C.NoMemory _ _ _ tt tt (λ n. refl))
    (built_words c.args.request.now C.NoMemory _ _ c.requires.built) c.plain_answer.ensures.text c.plain_answer.ensures.ran (λ small. refl)
    (wanting_answer begun_same _ _ _ c.plain_answer.result.ended _ _ c.plain_answer.ensures.cause (told_again _) (λ n. refl))
