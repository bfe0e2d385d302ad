use Rattle.std.proofs.Common.{rules, ◌≡◌, ℕ, List, arith, refl, subst}
use Rattle.run_report.specs.declared.cause.Cause.TheVariants as C
use Rattle.spl_driver.specs.Answer.{IsOr}
use Rattle.spl_driver.proofs.PlainAnswers.{named_cause, plain_request}
use Rattle.spl_driver.proofs.Running.{begun_same}
use Rattle.spl_driver.proofs.Showing.{quiet_shown, reason_of, request_ran, shown_after, unopened_shown, unread_shown}
use Rattle.spl_driver.proofs.Standing.{wanting_answer, unopened_answer, unread_answer, refused_answer, accepted_answer, accepted_text, built_words, lent_after}
use Rattle.spl_driver.proofs.Telling.{not_run}
use Rattle.spl_driver.proofs.answer.answer_file.Goals as goal

pub returns-in-Refused : goal.returns-in-Refused
returns-in-Refused g c =
    plain_request _ _ _ (C.Refused c.in-Refused.refusal) c.plain_answer.result _ _ _ _ c.plain_answer.ensures.cause (not_run (C.Refused c.in-Refused.refusal) refl) tt (rw (← c.requires.names) c.in-Refused.ensures.from) tt (quiet_shown (C.Refused c.in-Refused.refusal) _ _ _ tt tt c.in-Refused.ensures.cause)
    (built_words c.args.request.now (C.Refused c.in-Refused.refusal) _ _ c.requires.built) c.plain_answer.ensures.text c.plain_answer.ensures.ran (λ small. c.in-Refused.ensures.lent (omega (arith, small)))
    (refused_answer _ _ c.args.request.now c.args.program.now c.in-Refused.refusal c.plain_answer.result.ended _ _ c.requires.built c.requires.program c.plain_answer.ensures.cause
    (rw (← c.requires.names) c.in-Refused.ensures.made) c.in-Refused.ensures.told c.in-Refused.ensures.cause)

pub returns-in-OpenFailed : goal.returns-in-OpenFailed
returns-in-OpenFailed g c =
    let same_name : c.as_slice.result.now ≡ c.args.program.now = search rules in
    named_cause _ _ c.args.request.now (C.OpenFailed c.args.program.now) c.plain_answer-in-OpenFailed.result c.open_failed.result _ _ _ _ c.plain_answer-in-OpenFailed.ensures.cause (subst (λ (n : List ℕ). IsOr (C.OpenFailed n) c.open_failed.result) same_name c.open_failed.ensures)
    (not_run (C.OpenFailed c.args.program.now) refl) c.in-OpenFailed.ensures.cause.rose tt tt
    (λ same. unopened_shown _ c.args.request.now c.args.program.now _ _ _ c.requires.program same c.in-OpenFailed.ensures.cause)
    c.requires.built c.plain_answer-in-OpenFailed.ensures.text c.plain_answer-in-OpenFailed.ensures.ran (λ small. c.in-OpenFailed.ensures.lent (omega (arith, small)))
    (λ same. unopened_answer begun_same _ _ c.args.request.now c.args.program.now c.plain_answer-in-OpenFailed.result.ended _ _ c.requires.program same c.in-OpenFailed.ensures.cause
    c.in-OpenFailed.ensures.told c.in-OpenFailed.ensures.reads)

pub returns-in-ReadFailed : goal.returns-in-ReadFailed
returns-in-ReadFailed g c =
    let same_name : c.as_slice-in-ReadFailed.result.now ≡ c.args.program.now = search rules in
    named_cause _ _ c.args.request.now (C.ReadFailed c.args.program.now) c.plain_answer-in-ReadFailed.result c.read_failed.result _ _ _ _ c.plain_answer-in-ReadFailed.ensures.cause (subst (λ (n : List ℕ). IsOr (C.ReadFailed n) c.read_failed.result) same_name c.read_failed.ensures)
    (not_run (C.ReadFailed c.args.program.now) refl) tt tt tt
    (λ same. unread_shown _ c.args.request.now c.args.program.now _ _ _ c.requires.built c.requires.program same c.in-ReadFailed.ensures.cause)
    c.requires.built c.plain_answer-in-ReadFailed.ensures.text c.plain_answer-in-ReadFailed.ensures.ran (λ small. c.in-ReadFailed.ensures.lent (omega (arith, small)))
    (λ same. unread_answer begun_same _ _ c.args.request.now c.args.program.now c.plain_answer-in-ReadFailed.result.ended _ _ c.requires.built c.requires.program same c.in-ReadFailed.ensures.cause
    c.in-ReadFailed.ensures.told c.in-ReadFailed.ensures.reads)

pub returns-in-Memory : goal.returns-in-Memory
returns-in-Memory g c =
    plain_request _ _ _ C.NoMemory c.plain_answer-in-Memory.result _ _ _ _ c.plain_answer-in-Memory.ensures.cause (not_run C.NoMemory refl) tt tt tt (quiet_shown C.NoMemory _ _ _ tt tt c.in-Memory.ensures.cause)
    (built_words c.args.request.now C.NoMemory _ _ c.requires.built) c.plain_answer-in-Memory.ensures.text c.plain_answer-in-Memory.ensures.ran (λ small. c.in-Memory.ensures.lent (omega (arith, small)))
    (wanting_answer begun_same _ _ _ c.plain_answer-in-Memory.result.ended _ _ c.plain_answer-in-Memory.ensures.cause c.in-Memory.ensures.told c.in-Memory.ensures.cause)

pub returns-in-Checked : goal.returns-in-Checked
returns-in-Checked g c = record {
  answered = accepted_answer c.accepted_law.ensures.one c.outcome_law.ensures.one_parts _ _ _ c.args.request.now c.args.program.now c.in-Checked.accepted c.answer_accepted.result.ended _ _ _
      c.requires.built c.requires.program (rw (← c.requires.names) c.in-Checked.ensures.made) c.in-Checked.ensures.told c.in-Checked.ensures.cause
      c.answer_accepted.ensures.files c.answer_accepted.ensures.counts c.answer_accepted.ensures.needed c.answer_accepted.ensures.followed c.answer_accepted.ensures.in_order c.answer_accepted.ensures.recorded;
  shown = shown_after c.answer_accepted.result.ended.cause c.args.request.now c.in-Checked.accepted _ _ _ _ (rw (← c.requires.names) c.in-Checked.ensures.from) c.in-Checked.ensures.cause
      c.answer_accepted.ensures.counts;
  text = accepted_text _ _ c.args.request.now c.args.program.now c.in-Checked.accepted c.answer_accepted.result.ended.cause c.answer_accepted.result.ended.arrivals c.answer_accepted.result.text _ _ _
      c.requires.built c.requires.program (rw (← c.requires.names) c.in-Checked.ensures.from) (rw (← c.requires.names) c.in-Checked.ensures.made) c.in-Checked.ensures.told c.in-Checked.ensures.cause c.answer_accepted.ensures.text;
  words = built_words c.args.request.now c.answer_accepted.result.ended.cause _ _ c.requires.built;
  kinds = c.answer_accepted.ensures.kinds;
  reason = reason_of c.answer_accepted.result.ended.cause c.args.request.now c.in-Checked.accepted (rw (← c.requires.names) c.in-Checked.ensures.from) c.answer_accepted.ensures.reason;
  ran = request_ran c.answer_accepted.result.ended.cause c.args.request.now c.in-Checked.accepted c.answer_accepted.result.ended _ _ _ (rw (← c.requires.names) c.in-Checked.ensures.from) c.in-Checked.ensures.cause
      c.answer_accepted.ensures.ran;
  lent = lent_after _ _ _ c.in-Checked.ensures.lent c.answer_accepted.ensures.lent;
}
