use Rattle.std.proofs.Common.{◌∙◌, subst, true≢false}
use Rattle.node_turns.specs.declared.node.Node.{Node}
use Rattle.node_turns.specs.Idling.{WasIdle}
use Rattle.node_turns.proofs.node.Node.turn.Goals as goal

pub step-requires : goal.step-requires
step-requires g c = record { runs = (c.requires.0, c.steps.invariant.1 c.requires.0 c.requires.1) }

pub returns-then-moved-clause-runs : goal.returns-then-moved-clause-runs
returns-then-moved-clause-runs g c part r = c.step.ensures.runs part (c.steps.invariant.1 part r)

pub returns-else-moved-clause-runs : goal.returns-else-moved-clause-runs
returns-else-moved-clause-runs g c part r = c.step.ensures.runs part (c.steps.invariant.1 part r)

pub returns-in-Done-clause-runs : goal.returns-in-Done-clause-runs
returns-in-Done-clause-runs g c part r = c.step.ensures.runs part (c.steps.invariant.1 part r)

pub returns-in-Done-clause-done : goal.returns-in-Done-clause-done
returns-in-Done-clause-done g c done part r = c.step.ensures.done c.in-Done.is part (c.steps.invariant.1 part r)

pub steps-preserved : goal.steps-preserved
steps-preserved g c = (
  c.step.ensures.number ∙ c.steps.invariant.0,
  (λ part r. c.step.ensures.runs part (c.steps.invariant.1 part r)),
  λ still. absurd (true≢false still),
)

pub returns-else-moved-clause-idle : goal.returns-else-moved-clause-idle
returns-else-moved-clause-idle g c idle =
    subst (λ (n : Node g.row.E.Denot g.row.S.Denot g.row.K.Denot). WasIdle g.E.Machine.stands g.S.Source.gave g.S.Source.front
    g.S.Source.over g.K.Sink.took g.K.Sink.began g.K.Sink.faults c.args.links.now.items n c.step.new.self)
    (c.steps.invariant.2 c.if-moved.false) (c.step.ensures.idle c.in-Idle.is)
