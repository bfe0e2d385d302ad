use Rattle.std.proofs.Common.{arith}
use Rattle.list_engine.specs.steps.Taking.{task_of}
use Rattle.list_engine.proofs.Replaying.{if_recorded, in_turn_else, ran_in_turn}
use Rattle.list_engine.proofs.replay.take_items.Goals as goal
use Rattle.list_engine.proofs.replay.take_items.Goals.{in-Recorded+else-len-gt1, in_default}

pub returns-then-len-gt1-clause-ran : goal.returns-then-len-gt1-clause-ran
returns-then-len-gt1-clause-ran g c =
    if_recorded c.args.order.now c.in-Recorded.arrivals (task_of (g.R.React.spec c.args.operator.now) c.args.given.now) c.args.lists c.args.number c.entries_of-entries.result.now
    c.take_recorded.new.given c.take_recorded.result c.in-Recorded.is (let more = c.if-len-gt1.true in let len = c.len.ensures in omega (arith, more, len)) c.requires.number
    c.entries_of-entries.ensures c.take_recorded.ensures.replayed

pub returns-clause-ran : goal.returns-clause-ran
returns-clause-ran g c =
    ran_in_turn c.args.order.now (task_of (g.R.React.spec c.args.operator.now) c.args.given.now) c.args.lists c.take_in_turn.new.given c.in_ok-fault.fault c.requires.fit
    (elim c.match-order.branch [
      | in-Recorded+else-len-gt1 w ↦ λ many. absurd (let few = w.if-len-gt1.false in let len = w.len.ensures in omega (arith, few, len, many))
      | in_default w ↦ λ many. in_turn_else c.args.order.now w.in_default.not-Recorded
    ])
    c.in_ok-fault.ensures
