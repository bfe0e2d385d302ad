use Rattle.std.proofs.Common.{◌≡◌, false}
use Rattle.network_model.specs.Networks.{Part}
use Rattle.node_turns.specs.Meets.{Runs}
use Rattle.node_turns.proofs.node.Node.turn.Given as goal

abbrev pub invariant-steps : goal.invariant-steps
invariant-steps g l =
    (l.self.number ≡ l.fn.self.number)
    × ((part : Part) → Runs g.E.Machine.stands g.S.Source.gave g.S.Source.front g.S.Source.over g.K.Sink.took
    g.K.Sink.began g.K.Sink.faults part l.links.items l.fn.self
    → Runs g.E.Machine.stands g.S.Source.gave g.S.Source.front g.S.Source.over g.K.Sink.took g.K.Sink.began
    g.K.Sink.faults part l.links.items l.self)
    × (l.moved ≡ false → l.self ≡ l.fn.self)
