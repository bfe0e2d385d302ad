use Rattle.std.proofs.Common.{rules, ◌≡◌, ℕ, List, arith, subst}
use Rattle.run_report.specs.declared.cause.Cause.TheVariants as C
use Rattle.spl_driver.specs.Answer.{IsOr}
use Rattle.spl_driver.proofs.Replays.{misspelt_replay, ran_replay, unopened_replay, unread_replay, wanting_replay}
use Rattle.spl_driver.proofs.Standing.{lent_after}
use Rattle.spl_driver.proofs.answer.replay.Goals as goal

pub returns-in-OpenFailed : goal.returns-in-OpenFailed
returns-in-OpenFailed g c =
    let same_name : c.as_slice.result.now ≡ c.args.file.now = search rules in
    unopened_replay _ _ c.args.file.now c.args.accepted.now c.plain_answer.result _ _ _ _ (λ small. c.in-OpenFailed.ensures.lent (omega (arith, small))) c.in-OpenFailed.ensures.told c.in-OpenFailed.ensures.reads c.plain_answer.ensures.ran c.open_failed.result
    c.plain_answer.ensures.cause (subst (λ (n : List ℕ). IsOr (C.OpenFailed n) c.open_failed.result) same_name c.open_failed.ensures) c.in-OpenFailed.ensures.cause c.plain_answer.ensures.text

pub returns-in-ReadFailed : goal.returns-in-ReadFailed
returns-in-ReadFailed g c =
    let same_name : c.as_slice-in-ReadFailed.result.now ≡ c.args.file.now = search rules in
    unread_replay _ _ c.args.file.now c.args.accepted.now c.plain_answer-in-ReadFailed.result _ _ _ _ (λ small. c.in-ReadFailed.ensures.lent (omega (arith, small))) c.in-ReadFailed.ensures.told c.in-ReadFailed.ensures.reads c.plain_answer-in-ReadFailed.ensures.ran c.read_failed.result
    c.plain_answer-in-ReadFailed.ensures.cause (subst (λ (n : List ℕ). IsOr (C.ReadFailed n) c.read_failed.result) same_name c.read_failed.ensures) c.in-ReadFailed.ensures.cause c.plain_answer-in-ReadFailed.ensures.text

pub returns-in-Bad : goal.returns-in-Bad
returns-in-Bad g c =
    misspelt_replay _ _ c.args.file.now c.args.accepted.now c.bad_arrivals.result _ _ _ _ (λ small. c.in-Bad.ensures.lent (omega (arith, small))) c.in-Bad.ensures.told c.in-Bad.ensures.reads c.bad_arrivals.ensures.ran
    c.bad_arrivals.ensures.cause c.in-Bad.ensures.cause c.in-Bad.ensures.made c.bad_arrivals.ensures.text

pub returns-in-Memory : goal.returns-in-Memory
returns-in-Memory g c =
    wanting_replay _ _ c.args.file.now c.args.accepted.now c.plain_answer-in-Memory.result _ _ _ _ (λ small. c.in-Memory.ensures.lent (omega (arith, small))) c.in-Memory.ensures.told c.in-Memory.ensures.reads c.plain_answer-in-Memory.ensures.ran
    c.plain_answer-in-Memory.ensures.cause (λ n other. c.in-Memory.ensures.cause n) c.plain_answer-in-Memory.ensures.text

pub returns-in-Order : goal.returns-in-Order
returns-in-Order g c =
    ran_replay c.format_law.ensures.one _ _ _ c.args.file.now c.args.accepted.now c.in-Order.order c.run.result _ _ _ _ _ c.kept.ensures c.in-Order.ensures.told c.in-Order.ensures.cause c.in-Order.ensures.made
    (lent_after _ _ _ c.in-Order.ensures.lent c.run.ensures.lent) c.run.ensures.files c.run.ensures.counts c.run.ensures.text c.run.ensures.reason c.run.ensures.ran c.run.ensures.followed
