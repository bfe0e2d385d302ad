use Rattle.std.proofs.Common.{ap, Some, sym, subst}
use Rattle.std.specs.Prelude.{IfOk, List, ℕ, Result}
use Rattle.spl_value.specs.declared.memory.NoMemory.{NoMemory}
use Rattle.run_report.specs.declared.cause.Cause.{Cause}
use Rattle.spl_driver.specs.Outcome.{OfPlan, OfSize}
use Rattle.command_line.specs.declared.request.Request.{Request}
use Rattle.spl_driver.specs.steps.Steps.{ReasonOf}
use Rattle.spl_driver.proofs.Causes.{is_replay}
use Rattle.spl_driver.specs.Texts.{IsReportText}
use Rattle.spl_driver.proofs.Showing.{graph_ran, replay_ran, report_ran}
use Rattle.feed_pour.specs.Contents.{TellsSame}
use Rattle.spl_driver.proofs.Fetching.{told_again}
use Rattle.spl_driver.proofs.Carrying.{asks_plan, asks_size, follows_replay, follows_unless, order_replay, order_unless, needs_replay, needs_unless, replay_kinds, replayed_counts, replayed_files, replayed_text, ran_counts, ran_files, ran_record, ran_text, run_kinds, reported_counts, reported_files, reported_text}
use Rattle.spl_driver.proofs.answer.answer_accepted.Goals as goal

-- ---- its size

pub returns-in-Check-clause-files : goal.returns-in-Check-clause-files
returns-in-Check-clause-files g c =
    reported_files _ c.args.request.now OfSize c.args.accepted.now c.reported.result.ended _ (asks_size c.args.request.now c.in-Check.field-0 c.args.accepted.now c.in-Check.is) c.reported.ensures.cause c.reported.ensures.ran.counts

pub returns-in-Check-clause-counts : goal.returns-in-Check-clause-counts
returns-in-Check-clause-counts g c = reported_counts c.reported.result.ended.cause c.args.request.now c.args.accepted.now _ c.reported.ensures.cause

pub returns-in-Check-clause-text : goal.returns-in-Check-clause-text
returns-in-Check-clause-text g c =
    reported_text _ c.args.request.now OfSize c.args.accepted.now c.reported.result.ended c.reported.result.text _ _ (asks_size c.args.request.now c.in-Check.field-0 c.args.accepted.now c.in-Check.is) c.reported.ensures.cause
    (subst (λ (t : Result (List ℕ) NoMemory). IfOk t (IsReportText OfSize c.args.accepted.now)) (sym c.reported.ensures.text) c.size.ensures)

pub returns-in-Check-clause-ran : goal.returns-in-Check-clause-ran
returns-in-Check-clause-ran g c =
    report_ran c.reported.result.ended.cause c.args.request.now c.args.accepted.now c.reported.result.ended _ _ (asks_size c.args.request.now c.in-Check.field-0 c.args.accepted.now c.in-Check.is).alone c.reported.ensures.cause c.reported.ensures.ran

pub returns-in-Check-clause-reason : goal.returns-in-Check-clause-reason
returns-in-Check-clause-reason g c = subst (λ (k : Cause). ReasonOf k c.args.accepted.now) (sym c.reported.ensures.cause) tt

-- ---- its regions

pub returns-in-Plan-clause-files : goal.returns-in-Plan-clause-files
returns-in-Plan-clause-files g c =
    reported_files _ c.args.request.now OfPlan c.args.accepted.now c.reported-in-Plan.result.ended _ (asks_plan c.args.request.now c.in-Plan.field-0 c.args.accepted.now c.in-Plan.is) c.reported-in-Plan.ensures.cause c.reported-in-Plan.ensures.ran.counts

pub returns-in-Plan-clause-counts : goal.returns-in-Plan-clause-counts
returns-in-Plan-clause-counts g c = reported_counts c.reported-in-Plan.result.ended.cause c.args.request.now c.args.accepted.now _ c.reported-in-Plan.ensures.cause

pub returns-in-Plan-clause-text : goal.returns-in-Plan-clause-text
returns-in-Plan-clause-text g c =
    reported_text _ c.args.request.now OfPlan c.args.accepted.now c.reported-in-Plan.result.ended c.reported-in-Plan.result.text _ _ (asks_plan c.args.request.now c.in-Plan.field-0 c.args.accepted.now c.in-Plan.is) c.reported-in-Plan.ensures.cause
    (subst (λ (t : Result (List ℕ) NoMemory). IfOk t (IsReportText OfPlan c.args.accepted.now)) (sym c.reported-in-Plan.ensures.text) c.regions.ensures)

pub returns-in-Plan-clause-ran : goal.returns-in-Plan-clause-ran
returns-in-Plan-clause-ran g c =
    report_ran c.reported-in-Plan.result.ended.cause c.args.request.now c.args.accepted.now c.reported-in-Plan.result.ended _ _ (asks_plan c.args.request.now c.in-Plan.field-0 c.args.accepted.now c.in-Plan.is).alone c.reported-in-Plan.ensures.cause
    c.reported-in-Plan.ensures.ran

pub returns-in-Plan-clause-reason : goal.returns-in-Plan-clause-reason
returns-in-Plan-clause-reason g c = subst (λ (k : Cause). ReasonOf k c.args.accepted.now) (sym c.reported-in-Plan.ensures.cause) tt

-- ---- its run

pub returns-in-Run-clause-files : goal.returns-in-Run-clause-files
returns-in-Run-clause-files g c =
    ran_files _ _ c.args.request.now c.in-Run.program c.in-Run.options c.args.accepted.now c.run.result.ended _ _ c.in-Run.is
    c.run.ensures.files

pub returns-in-Run-clause-counts : goal.returns-in-Run-clause-counts
returns-in-Run-clause-counts g c =
    ran_counts c.args.request.now c.in-Run.program c.in-Run.options c.args.accepted.now c.run.result.ended.cause _ _ c.in-Run.is
    c.run.ensures.counts

pub returns-in-Run-clause-text : goal.returns-in-Run-clause-text
returns-in-Run-clause-text g c =
    ran_text _ c.args.request.now c.in-Run.program c.in-Run.options c.args.accepted.now c.run.result.ended c.run.result.text _ _ c.in-Run.is c.run.ensures.text

pub returns-in-Run-clause-ran : goal.returns-in-Run-clause-ran
returns-in-Run-clause-ran g c = graph_ran c.run.result.ended.cause c.args.request.now c.in-Run.program c.in-Run.options c.args.accepted.now c.run.result.ended _ _ c.in-Run.is c.run.ensures.ran

-- ---- its replay

pub returns-in-Replay-clause-files : goal.returns-in-Replay-clause-files
returns-in-Replay-clause-files g c =
    replayed_files _ _ c.args.request.now c.in-Replay.program c.in-Replay.arrivals c.args.accepted.now c.replay.result.ended _ _ c.in-Replay.is c.replay.ensures.files

pub returns-in-Replay-clause-counts : goal.returns-in-Replay-clause-counts
returns-in-Replay-clause-counts g c =
    replayed_counts c.args.request.now c.in-Replay.program c.in-Replay.arrivals c.args.accepted.now c.replay.result.ended.cause _ _ c.in-Replay.is c.replay.ensures.counted

pub returns-in-Replay-clause-text : goal.returns-in-Replay-clause-text
returns-in-Replay-clause-text g c =
    replayed_text _ c.args.request.now c.in-Replay.program c.in-Replay.arrivals c.args.accepted.now c.replay.result.ended c.replay.result.text _ _ c.in-Replay.is c.replay.ensures.text

pub returns-in-Replay-clause-ran : goal.returns-in-Replay-clause-ran
returns-in-Replay-clause-ran g c =
    replay_ran c.replay.result.ended.cause c.args.request.now c.in-Replay.program c.in-Replay.arrivals c.args.accepted.now c.replay.result.ended _ _ c.in-Replay.is c.replay.ensures.ran

pub returns-in-Replay-clause-reason : goal.returns-in-Replay-clause-reason
returns-in-Replay-clause-reason g c = c.replay.ensures.reason

-- ---- the record that is followed

pub returns-in-Check-clause-followed : goal.returns-in-Check-clause-followed
returns-in-Check-clause-followed g c =
    follows_unless _ _ TellsSame c.args.request.now c.args.accepted.now c.reported.result.ended
    (asks_size c.args.request.now c.in-Check.field-0 c.args.accepted.now c.in-Check.is).kinds (told_again _)

pub returns-in-Plan-clause-followed : goal.returns-in-Plan-clause-followed
returns-in-Plan-clause-followed g c =
    follows_unless _ _ TellsSame c.args.request.now c.args.accepted.now c.reported-in-Plan.result.ended
    (asks_plan c.args.request.now c.in-Plan.field-0 c.args.accepted.now c.in-Plan.is).kinds (told_again _)

pub returns-in-Run-clause-followed : goal.returns-in-Run-clause-followed
returns-in-Run-clause-followed g c =
    follows_unless _ _ _ c.args.request.now c.args.accepted.now c.run.result.ended
    (ap (λ (q : Request). is_replay (Some q)) c.in-Run.is) c.run.ensures.followed

pub returns-in-Replay-clause-followed : goal.returns-in-Replay-clause-followed
returns-in-Replay-clause-followed g c =
    follows_replay _ _ c.args.request.now c.in-Replay.program c.in-Replay.arrivals c.args.accepted.now c.replay.result.ended
    c.in-Replay.is c.replay.ensures.followed

-- ---- which refusal comes first

pub returns-in-Check-clause-in_order : goal.returns-in-Check-clause-in_order
returns-in-Check-clause-in_order g c =
    order_unless _ c.args.request.now c.args.accepted.now c.reported.result.ended
    (asks_size c.args.request.now c.in-Check.field-0 c.args.accepted.now c.in-Check.is).kinds

pub returns-in-Plan-clause-in_order : goal.returns-in-Plan-clause-in_order
returns-in-Plan-clause-in_order g c =
    order_unless _ c.args.request.now c.args.accepted.now c.reported-in-Plan.result.ended
    (asks_plan c.args.request.now c.in-Plan.field-0 c.args.accepted.now c.in-Plan.is).kinds

pub returns-in-Run-clause-in_order : goal.returns-in-Run-clause-in_order
returns-in-Run-clause-in_order g c =
    order_unless _ c.args.request.now c.args.accepted.now c.run.result.ended
    (ap (λ (q : Request). is_replay (Some q)) c.in-Run.is)

pub returns-in-Replay-clause-in_order : goal.returns-in-Replay-clause-in_order
returns-in-Replay-clause-in_order g c =
    order_replay _ c.args.request.now c.in-Replay.program c.in-Replay.arrivals c.args.accepted.now c.replay.result.ended
    c.in-Replay.is c.replay.ensures.in_order

-- ---- and needed

pub returns-in-Check-clause-needed : goal.returns-in-Check-clause-needed
returns-in-Check-clause-needed g c = needs_unless _ c.args.request.now c.reported.result.ended (asks_size c.args.request.now c.in-Check.field-0 c.args.accepted.now c.in-Check.is).kinds

pub returns-in-Plan-clause-needed : goal.returns-in-Plan-clause-needed
returns-in-Plan-clause-needed g c = needs_unless _ c.args.request.now c.reported-in-Plan.result.ended (asks_plan c.args.request.now c.in-Plan.field-0 c.args.accepted.now c.in-Plan.is).kinds

pub returns-in-Run-clause-needed : goal.returns-in-Run-clause-needed
returns-in-Run-clause-needed g c = needs_unless _ c.args.request.now c.run.result.ended (ap (λ (q : Request). is_replay (Some q)) c.in-Run.is)

pub returns-in-Replay-clause-needed : goal.returns-in-Replay-clause-needed
returns-in-Replay-clause-needed g c = needs_replay _ c.args.request.now c.in-Replay.program c.in-Replay.arrivals c.replay.result.ended c.in-Replay.is c.replay.ensures.needed

-- ---- the causes that it may have

pub returns-in-Run-clause-kinds : goal.returns-in-Run-clause-kinds
returns-in-Run-clause-kinds g c = run_kinds c.args.request.now c.in-Run.program c.in-Run.options c.run.result.ended.cause c.in-Run.is c.run.ensures.kinds

pub returns-in-Replay-clause-kinds : goal.returns-in-Replay-clause-kinds
returns-in-Replay-clause-kinds g c = replay_kinds c.args.request.now c.in-Replay.program c.in-Replay.arrivals c.replay.result.ended.cause c.in-Replay.is

-- ---- the record that is written

pub returns-in-Run-clause-recorded : goal.returns-in-Run-clause-recorded
returns-in-Run-clause-recorded g c = ran_record _ _ c.args.request.now c.in-Run.program c.in-Run.options c.args.accepted.now c.run.result.ended _ _ c.in-Run.is c.run.ensures.recorded
