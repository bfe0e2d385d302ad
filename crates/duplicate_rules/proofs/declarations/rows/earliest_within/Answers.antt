use Rattle.std.proofs.Common.{◌∙◌}
use Rattle.std.specs.Option.{option_copied}
use Rattle.duplicate_rules.proofs.Rows.{row_on}
use Rattle.duplicate_rules.proofs.declarations.rows.earliest_within.Goals as goal

pub loop-part-preserved : goal.loop-part-preserved
loop-part-preserved g c =
    c.loop-part.invariant
    ∙ row_on g.T.Encloses.inner c.args.row.now c.loop-part.part-index (option_copied c.loop-part.found) c.part-item.result c.loop-part-test.true c.part-item.is (option_copied c.in_ok-found.found) c.in_ok-found.ensures
