use Rattle.std.proofs.Common.{◌≡◌}
use Rattle.network_model.specs.Networks.{Part}
use Rattle.node_turns.specs.Meets.{NodeMeets}
use Rattle.node_turns.proofs.node.Node.pour.Given as goal

abbrev pub invariant-tuples : goal.invariant-tuples
invariant-tuples g l =
    (l.self.number ≡ l.fn.self.number) × (l.self.ins ≡ l.fn.self.ins) × (l.self.outs ≡ l.fn.self.outs)
    × ((part : Part) → NodeMeets g.E.Machine.stands g.S.Source.gave g.S.Source.front g.S.Source.over g.K.Sink.took
    g.K.Sink.began g.K.Sink.faults part l.fn.self
    → NodeMeets g.E.Machine.stands g.S.Source.gave g.S.Source.front g.S.Source.over g.K.Sink.took g.K.Sink.began
    g.K.Sink.faults part l.self)

abbrev pub decreases-tuples : goal.decreases-tuples
decreases-tuples g l = g.E.Machine.waiting l.self.element
