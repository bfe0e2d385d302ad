use Rattle.std.proofs.Common.{◌∙◌}
use Rattle.stream_rules.specs.steps.Among.{graph_of, unit_of}
use Rattle.body_sites.specs.Bodies.{body_seen}
use Rattle.stream_rules.proofs.OutputRows.{output_next}
use Rattle.stream_rules.proofs.ports.outputs.outputs_attributes.Goals as goal

pub loop-at-preserved : goal.loop-at-preserved
loop-at-preserved c =
    let stream = c.in-Some.ensures.lookup in
    c.loop-at.invariant
    ∙ output_next (unit_of c.args.streams.now) (graph_of c.args.streams.now) (body_seen c.args.body.now) c.loop-at.at c.args.outputs.now c.index-outputs-at.result c.args.outs.now c.in-Some.stream.now
    c.loop-at-test.true c.index-outputs-at.is stream.3.0 stream.1 c.loop-at.schemas c.push.new.self _ c.in_ok-output_attributes.ensures c.in_ok-push.ensures.ok
