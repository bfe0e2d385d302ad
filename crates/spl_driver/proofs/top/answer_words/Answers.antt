use Rattle.std.proofs.Common.{◌∙◌, Option, subst, sym, refl}
use Rattle.run_report.specs.declared.cause.Cause.TheVariants as C
use Rattle.command_line.specs.declared.request.Request.{Request}
use Rattle.spl_driver.specs.steps.Steps.{AnswersRequest}
use Rattle.spl_driver.proofs.PlainAnswers.{plain_request, no_request_answer}
use Rattle.spl_driver.proofs.Running.{begun_same}
use Rattle.spl_driver.proofs.Showing.{quiet_shown}
use Rattle.spl_driver.proofs.Standing.{wanting_answer, wanting_words}
use Rattle.spl_driver.proofs.Telling.{not_run}
use Rattle.spl_driver.proofs.top.answer_words.Goals as goal
use Rattle.spl_driver.proofs.Fetching.{told_again}

pub returns-in-Err : goal.returns-in-Err
returns-in-Err g c =
    plain_request _ _ _ C.NoMemory c.plain_answer.result _ _ _ _ c.plain_answer.ensures.cause (not_run C.NoMemory refl) tt tt tt (quiet_shown C.NoMemory _ _ _ tt tt (λ n. refl)) (wanting_words _ _ _ (λ n. refl)) c.plain_answer.ensures.text
    c.plain_answer.ensures.ran (λ small. refl) (wanting_answer begun_same _ _ _ c.plain_answer.result.ended _ _ c.plain_answer.ensures.cause (told_again _) (λ n. refl))

pub returns-in-Ok-None : goal.returns-in-Ok-None
returns-in-Ok-None g c =
    let told = g.H.Shelf.told c.args.shelf.now in
    let counts = g.H.Shelf.counts c.args.shelf.now in
    let lent = g.H.Shelf.lent c.args.shelf.now in
    subst (λ (o : Option Request). AnswersRequest o c.plain_answer-in-Ok-None.result told told counts counts lent lent) (sym c.in-Ok-None.field-0-is ∙ c.in-Ok-None.ensures)
    (no_request_answer told c.plain_answer-in-Ok-None.result counts lent c.plain_answer-in-Ok-None.ensures.cause c.plain_answer-in-Ok-None.ensures.text c.plain_answer-in-Ok-None.ensures.ran)
