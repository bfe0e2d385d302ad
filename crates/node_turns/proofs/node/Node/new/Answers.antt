use Rattle.node_turns.proofs.Keeps.{made_meets}
use Rattle.node_turns.proofs.node.Node.new.Goals as goal

pub returns-clause-runs : goal.returns-clause-runs
returns-clause-runs g c = λ part links ins outs made. record {
  ins = ins;
  outs = outs;
  meets = made_meets g.E.Machine.stands g.S.Source.gave g.S.Source.front g.S.Source.over g.K.Sink.took g.K.Sink.began
      g.K.Sink.faults
      part c.args.element c.args.ins.items c.args.outs.items c.args.source c.of-first.result.value c.args.sink
      c.of-clean.result.value
      c.of-first.ensures c.of-clean.ensures made;
}
