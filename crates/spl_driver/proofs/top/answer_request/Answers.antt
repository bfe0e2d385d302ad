use Rattle.std.proofs.Common.{◌≡◌, ◌∙◌, false, inl, inr, sym, ap}
use Rattle.spl_driver.specs.Built.{is_built}
use Rattle.spl_driver.proofs.PlainAnswers.{not_built_request}
use Rattle.spl_driver.proofs.top.answer_request.Goals as goal

pub returns-else-is_plain : goal.returns-else-is_plain
returns-else-is_plain g c =
    not_built_request _ c.args.request.now c.plain_answer.result _ _ (ap is_built c.in-Run.is ∙ sym c.is_plain.ensures ∙ c.if-is_plain.false)
    c.plain_answer.ensures.cause c.plain_answer.ensures.text c.plain_answer.ensures.ran

pub returns-in-Simulate : goal.returns-in-Simulate
returns-in-Simulate g c =
    not_built_request _ c.args.request.now c.plain_answer-in-Simulate.result _ _ other c.plain_answer-in-Simulate.ensures.cause c.plain_answer-in-Simulate.ensures.text c.plain_answer-in-Simulate.ensures.ran
  where
    other : is_built c.args.request.now ≡ false
    other = elim c.in-Simulate.is [ inl simulate ↦ ap is_built simulate.4 | inr make ↦ ap is_built make.3 ]
