use Rattle.spl_driver.proofs.Answering.{answered_said, words_said, may_be_said, complete}
use Rattle.spl_driver.proofs.Showing.{ran_said, reason_said, shown_said}
use Rattle.spl_driver.proofs.Telling.{said}
use Rattle.spl_driver.proofs.top.spl.Goals as goal

pub returns-clause-answered : goal.returns-clause-answered
returns-clause-answered g c =
    answered_said c.outcome_law.ensures.one _ _ _ c.answer_words-ended.result.ended c.pour_text-cause.result c.status.result _ _ _ c.pour_text-cause.ensures.cause
    c.answer_words-ended.ensures.answered

pub returns-clause-said : goal.returns-clause-said
returns-clause-said g c =
    said c.answer_words-ended.result.ended.cause c.pour_text-cause.result _ _ _ _ c.answer_words-ended.result.text _ _ _ c.answer_words-ended.ensures.shown c.answer_words-ended.ensures.text c.pour_text-cause.ensures.poured

pub returns-clause-complete : goal.returns-clause-complete
returns-clause-complete g c =
    complete c.outcome_law.ensures.one _ _ _ c.answer_words-ended.result.ended c.pour_text-cause.result c.status.result _ _ _ c.pour_text-cause.ensures.cause c.answer_words-ended.ensures.answered

pub returns-clause-words : goal.returns-clause-words
returns-clause-words g c =
    words_said _ c.answer_words-ended.result.ended.cause c.pour_text-cause.result _ _ _ c.pour_text-cause.ensures.cause c.answer_words-ended.ensures.words

pub returns-clause-kinds : goal.returns-clause-kinds
returns-clause-kinds g c = may_be_said _ c.answer_words-ended.result.ended.cause c.pour_text-cause.result _ c.pour_text-cause.ensures.cause c.answer_words-ended.ensures.kinds

pub returns-clause-lent : goal.returns-clause-lent
returns-clause-lent g c = c.answer_words-ended.ensures.lent

pub returns-clause-shown : goal.returns-clause-shown
returns-clause-shown g c = shown_said c.answer_words-ended.result.ended.cause c.pour_text-cause.result _ _ _ _ c.pour_text-cause.ensures.cause c.answer_words-ended.ensures.shown

pub returns-clause-reason : goal.returns-clause-reason
returns-clause-reason g c = reason_said c.answer_words-ended.result.ended.cause c.pour_text-cause.result _ _ c.pour_text-cause.ensures.cause c.answer_words-ended.ensures.reason

pub returns-clause-ran : goal.returns-clause-ran
returns-clause-ran g c = ran_said _ c.answer_words-ended.result.ended c.pour_text-cause.result c.status.result _ _ _ c.pour_text-cause.ensures.cause c.answer_words-ended.ensures.ran
