use Rattle.std.proofs.Common.{◌<◌, ◌+◌, ◌-◌, ◌++◌, length, length-drop, drop, subst, arith}
use Rattle.window_policy.specs.Sums.{HoldsMoving}
use Rattle.window_policy.proofs.Summing.{shifted}
use Rattle.window_policy.proofs.sums.Sums.shift.Goals as goal

pub returns-clause-moving : goal.returns-clause-moving
returns-clause-moving c folds us t holds few same =
    let some : 0 < c.args.keep = omega arith in
    let left = drop (length us + 1 - c.args.keep) us in
    let gone = c.let_go.ensures.moving folds us holds some few in
    let shorter = length-drop (length us + 1 - c.args.keep) us in
    let room : length left < c.args.keep = omega (arith, shorter) in
    subst (HoldsMoving folds c.take_in.new.self) (shifted c.args.keep us (t ++ c.args.args) some few) (c.in_ok-take_in.ensures.moving folds left t gone room same)
