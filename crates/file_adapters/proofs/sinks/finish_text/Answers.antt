use Rattle.file_adapters.proofs.LastText.{finished_counts, finished_told}
use Rattle.file_adapters.proofs.sinks.finish_text.Goals as goal

pub returns-clause-told : goal.returns-clause-told
returns-clause-told g c = λ empty.
    rw c.text_ended.ensures
    (finished_told c.args.sunk c.pour_text-written.result c.finish-finished.result c.args.place c.args.last.now _ _ _ _ _ _ empty c.requires.filled
    (rw c.as_slice.ensures at c.pour_text-written.ensures.poured) c.pour_text-written.ensures.cause c.finish-finished.ensures.fault c.finish-finished.ensures.told)

pub returns-clause-cause : goal.returns-clause-cause
returns-clause-cause g c =
    rw c.text_ended.ensures
    (finished_counts c.args.sunk c.pour_text-written.result c.finish-finished.result c.args.place c.args.last.now.file _ _ _ _ c.requires.filled c.pour_text-written.ensures.cause c.finish-finished.ensures.fault
    c.finish-finished.ensures.cause)
