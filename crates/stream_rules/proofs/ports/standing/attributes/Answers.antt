use Rattle.stream_rules.specs.steps.Among.{graph_of, unit_of}
use Rattle.stream_rules.proofs.ports.standing.attributes.Goals as goal

pub returns : goal.returns
returns c = c.attributes.ensures (unit_of c.args.streams.now) (graph_of c.args.streams.now) c.requires
