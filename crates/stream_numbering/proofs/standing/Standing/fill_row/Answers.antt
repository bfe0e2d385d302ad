use Rattle.std.proofs.Common.{◌∙◌}
use Rattle.language_model.specs.Numbering.{site_at}
use Rattle.stream_numbering.specs.steps.SiteTable.{stream_there}
use Rattle.stream_numbering.proofs.Numbers.{outputs_step}
use Rattle.stream_numbering.proofs.standing.Standing.fill_row.Goals as goal

pub loop-invocation-preserved : goal.loop-invocation-preserved
loop-invocation-preserved c = λ parts described.
    outputs_step (λ o. stream_there parts c.args.table.now (site_at c.args.number o) o.output)
    c.loop-invocation.row _ c.loop-invocation.next _ c.loop-invocation.invocation-index c.as_slice-invocation-items.result.now c.args.composite.now.graph
    c.invocation-item.result c.len.result c.as_slice-invocation-items.ensures c.loop-invocation-test.true c.invocation-item.is c.in_ok-next.ensures
    c.len.ensures (c.in_ok-add_outputs.ensures parts described) ∙ c.loop-invocation.invariant parts described
