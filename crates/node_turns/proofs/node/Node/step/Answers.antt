use Rattle.std.proofs.Common.{rules, ◌≡◌, ◌∙◌, false, inl, inr}
use Rattle.node_turns.proofs.Keeps.{runs_after}
use Rattle.node_turns.proofs.node.Node.step.Goals as goal

pub read-requires : goal.read-requires
read-requires g c =
    let m = c.requires.runs.1.meets in
    record {
      runs = (
        c.requires.runs.0,
        record { meets = m; still = (c.in-Read.ensures.next c.requires.runs.0 m.a m.poured m.at).1 },
      );
    }

pub pour-requires : goal.pour-requires
pour-requires g c =
    let m = c.requires.runs.1.meets in
    record {
      meets = (
        c.requires.runs.0,
        c.read.ensures.meets c.requires.runs.0
            (record { meets = m; still = (c.in-Read.ensures.next c.requires.runs.0 m.a m.poured m.at).1 }),
      );
    }

pub returns-in-Read-clause-runs : goal.returns-in-Read-clause-runs
returns-in-Read-clause-runs g c part r =
    let m = r.meets in
    runs_after g.E.Machine.stands g.S.Source.gave g.S.Source.front g.S.Source.over g.K.Sink.took g.K.Sink.began
    g.K.Sink.faults
    part c.args.links.now.items c.args.self.now c.pour.new.self (c.pour.ensures.ends.0 ∙ c.read.ensures.ends.0)
    (c.pour.ensures.ends.1 ∙ c.read.ensures.ends.1) r
    (c.pour.ensures.meets part (c.read.ensures.meets part
    (record { meets = m; still = (c.in-Read.ensures.next part m.a m.poured m.at).1 })))

pub returns-else-not-pull-clause-runs : goal.returns-else-not-pull-clause-runs
returns-else-not-pull-clause-runs g c part r =
    let w = c.pull.ensures.runs part r in
    runs_after g.E.Machine.stands g.S.Source.gave g.S.Source.front g.S.Source.over g.K.Sink.took g.K.Sink.began
    g.K.Sink.faults part c.args.links.now.items c.pull.new.self c.pour-in-Take.new.self c.pour-in-Take.ensures.ends.0
    c.pour-in-Take.ensures.ends.1 w (c.pour-in-Take.ensures.meets part w.meets)

pub returns-then-not-pull-clause-idle : goal.returns-then-not-pull-clause-idle
returns-then-not-pull-clause-idle g c idle =
    let none : c.pull.result ≡ false = search rules in (
      c.pull.ensures.still none,
      inr (λ part m. let n = c.in-Take.ensures.next part m.a m.poured m.at in (n.0, n.1, n.2)),
    )

pub returns-in-Put-clause-idle : goal.returns-in-Put-clause-idle
returns-in-Put-clause-idle g c idle =
    let none : c.push.result ≡ false = c.outcome.ensures.idle idle in
    (c.push.ensures.still none, inl (c.push.ensures.full none))

pub returns-in-Done-clause-done : goal.returns-in-Done-clause-done
returns-in-Done-clause-done g c done part r =
    record { runs = r; stopped = c.in-Done.ensures.next part r.meets.a r.meets.poured r.meets.at }
