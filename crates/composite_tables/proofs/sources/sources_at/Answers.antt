use Rattle.std.proofs.Common.{◌++◌, ◌∙◌, ap, sym}
use Rattle.composite_tables.specs.steps.Reading.{list_left}
use Rattle.composite_tables.proofs.sources.sources_at.Goals as goal

pub loop-reading-preserved : goal.loop-reading-preserved
loop-reading-preserved c = λ xs kept.
    c.in_ok-read_name.ensures.list xs kept ∙ ap (λ rs. c.loop-reading.sources ++ list_left xs rs) (sym c.in-Some.ensures.items) ∙ c.loop-reading.invariant xs kept
