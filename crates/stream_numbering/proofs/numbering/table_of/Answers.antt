use Rattle.std.proofs.lemmas.Result.{IfOk-weaker}
use Rattle.stream_numbering.specs.steps.SiteTable.{parts_of}
use Rattle.stream_numbering.proofs.numbering.table_of.Goals as goal

pub returns : goal.returns
returns c =
    let parts = parts_of c.args.composites.now.unit.now c.args.bodies.now c.args.operations.now in
    IfOk-weaker c.table.result _ _ (λ table filled. filled parts c.in_ok-standing.ensures) c.table.ensures
