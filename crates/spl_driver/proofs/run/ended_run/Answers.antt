use Rattle.std.proofs.Common.{subst, sym}
use Rattle.stream_model.specs.declared.record.Arrivals.{Arrivals}
use Rattle.spl_driver.specs.steps.Steps.{IsUntaken}
use Rattle.file_adapters.specs.Sinks.{names_of}
use Rattle.spl_driver.proofs.Running.{ends_not_created, ends_not_written, ends_wanting, ends_done}
use Rattle.spl_driver.proofs.run.ended_run.Goals as goal

pub returns-in-NotCreated : goal.returns-in-NotCreated
returns-in-NotCreated c =
    ends_not_created c.args.sunk.now c.in-NotCreated.place c.args.counted c.args.checked.now (names_of c.args.files.now.sinks c.args.files.now.last) c.args.fault c.args.arrivals c.unfinished.result c.name_at.result.now _ c.in-NotCreated.is
    c.name_at.ensures c.open_failed-cause.ensures c.unfinished.ensures.cause c.unfinished.ensures.text (subst (λ (a : Arrivals). IsUntaken c.args.arrivals a) (sym c.unfinished.ensures.recorded) c.untaken.ensures) c.unfinished.ensures.counts

pub returns-in-NotWritten : goal.returns-in-NotWritten
returns-in-NotWritten c =
    ends_not_written c.args.sunk.now c.in-NotWritten.place c.args.counted c.args.checked.now (names_of c.args.files.now.sinks c.args.files.now.last) c.args.fault c.args.arrivals c.unfinished-in-NotWritten.result c.name_at-in-NotWritten.result.now _ c.in-NotWritten.is
    c.name_at-in-NotWritten.ensures c.write_failed.ensures c.unfinished-in-NotWritten.ensures.cause c.unfinished-in-NotWritten.ensures.text c.unfinished-in-NotWritten.ensures.recorded

pub returns-in-Memory : goal.returns-in-Memory
returns-in-Memory c =
    ends_wanting c.args.sunk.now c.args.counted c.args.checked.now (names_of c.args.files.now.sinks c.args.files.now.last) c.args.fault c.args.arrivals c.unfinished-in-Memory.result c.in-Memory.is c.unfinished-in-Memory.ensures.cause
    c.unfinished-in-Memory.ensures.text c.unfinished-in-Memory.ensures.recorded

pub returns-in-Done : goal.returns-in-Done
returns-in-Done c =
    ends_done c.args.sunk.now c.in-Done.rows c.args.counted c.args.checked.now (names_of c.args.files.now.sinks c.args.files.now.last) c.args.fault c.args.arrivals c.finished.result c.in-Done.is
    c.finished.ensures.ends c.finished.ensures.text c.finished.ensures.recorded
