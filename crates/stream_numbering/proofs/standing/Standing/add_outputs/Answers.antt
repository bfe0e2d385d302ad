use Rattle.stream_numbering.specs.steps.SiteTable.{stream_there}
use Rattle.stream_numbering.proofs.Numbers.{map_step}
use Rattle.stream_numbering.proofs.standing.Standing.add_outputs.Goals as goal

pub loop-output-preserved : goal.loop-output-preserved
loop-output-preserved c = λ parts described.
    map_step (stream_there parts c.args.table.now c.args.site) c.args.row.now c.loop-output.row c.push.new.self c.loop-output.output _
    c.in_ok-push.ensures.ok (c.in_ok-stream_there.ensures parts described) (c.loop-output.invariant parts described)
