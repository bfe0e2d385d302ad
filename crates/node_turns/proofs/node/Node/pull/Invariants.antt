use Rattle.std.proofs.Common.{◌≡◌, length}
use Rattle.network_model.specs.Networks.{Part}
use Rattle.node_turns.specs.Idling.{IsStill}
use Rattle.node_turns.specs.Meets.{Runs}
use Rattle.node_turns.proofs.node.Node.pull.Given as goal

abbrev pub invariant-inputs : goal.invariant-inputs
invariant-inputs g l =
    (l.self.number ≡ l.fn.self.number) × (length l.self.ins.items ≡ l.inputs)
    × ((part : Part) → Runs g.E.Machine.stands g.S.Source.gave g.S.Source.front g.S.Source.over g.K.Sink.took
    g.K.Sink.began g.K.Sink.faults part l.links.items l.fn.self
    → Runs g.E.Machine.stands g.S.Source.gave g.S.Source.front g.S.Source.over g.K.Sink.took g.K.Sink.began
    g.K.Sink.faults part l.links.items l.self)
    × IsStill l.fn.self l.self
