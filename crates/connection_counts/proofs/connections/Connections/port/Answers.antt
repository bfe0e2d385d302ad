use Rattle.std.proofs.Common.{rules}
use Rattle.connection_counts.proofs.Ends.{port_read}
use Rattle.connection_counts.proofs.connections.Connections.port.Goals as goal

pub returns : goal.returns
returns c = port_read c.args.self.now.ports c.args.input c.in-Some.port.now (search rules)
