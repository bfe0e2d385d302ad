use Rattle.std.proofs.Common.{◌∙◌, ◌+◌, rules, arith}
use Rattle.connection_counts.proofs.Starts.{counts_start, no_more_counts, no_more_ports, one_more_count, one_more_port}
use Rattle.connection_counts.proofs.connections.Connections.new.Goals as goal

pub ports-preserved : goal.ports-preserved
ports-preserved c = (
  one_more_port c.ports.ports c.add_port.new.ports c.in-Some.streams.now c.ports.port (c.ports.port + 1) c.args.ins.now (search rules) (omega arith) (search rules) ∙ c.ports.invariant.0,
  one_more_count c.ports.open c.push.new.self c.in-Some.streams.now c.ports.port (c.ports.port + 1) c.args.ins.now (search rules) (omega arith) (search rules) ∙ c.ports.invariant.1,
)

pub returns : goal.returns
returns c op same =
    counts_start op c.args.ins.now c.ports.ports c.ports.open c.len-left.result same
    (no_more_ports c.ports.ports c.ports.port c.args.ins.now (omega (arith, c.ports-test.false, c.len-port-end.ensures)) c.ports.invariant.0)
    (no_more_counts c.ports.open c.ports.port c.args.ins.now (omega (arith, c.ports-test.false, c.len-port-end.ensures)) c.ports.invariant.1)
    (search rules)
