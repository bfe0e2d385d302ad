use Rattle.std.proofs.Common.{◌∙◌, ◌+◌, rules, arith}
use Rattle.connection_counts.proofs.Starts.{no_more_inputs, one_more_input}
use Rattle.connection_counts.proofs.connections.calls.add_port.Goals as goal

pub streams-preserved : goal.streams-preserved
streams-preserved c =
    one_more_input c.streams.ports c.push.new.self c.args.streams.now c.args.port c.streams._stream-index (c.streams._stream-index + 1) (omega (arith, c.streams-test.true)) (omega arith) (search rules)
    ∙ c.streams.invariant

pub returns : goal.returns
returns c = no_more_inputs c.streams.ports c.args.ports.now c.args.streams.now c.args.port c.streams._stream-index (omega (arith, c.streams-test.false)) c.streams.invariant
