use Rattle.std.proofs.Common.{arith}
use Rattle.cycle_rules.proofs.Flags.{row_more, no_stream, no_maker}
use Rattle.cycle_rules.specs.steps.Makers.{covers}
use Rattle.cycle_rules.proofs.order.add_makers.Goals as goal

pub returns-in_default : goal.returns-in_default
returns-in_default c = λ flags e.
    no_stream c.args.streams.now flags (covers c.args.row.now flags) c.args.numbers.now c.loop-number.number-index c.loop-number-test.true c.in_default.ensures

pub returns-then-maker-row : goal.returns-then-maker-row
returns-then-maker-row c = λ flags e.
    no_maker c.args.streams.now flags (covers c.args.row.now flags) c.args.numbers.now c.loop-number.number-index c.in-Some.maker
    c.loop-number-test.true c.in-Some.ensures (omega arith)

pub loop-number-preserved : goal.loop-number-preserved
loop-number-preserved c = λ flags e.
    row_more c.args.streams.now flags c.loop-number.row c.args.row.now c.args.numbers.now c.loop-number.number-index c.in-Some.maker
    (c.loop-number.invariant flags e) c.loop-number-test.true c.in-Some.ensures c.if-maker-row.false
