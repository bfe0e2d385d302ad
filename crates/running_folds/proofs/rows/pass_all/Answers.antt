use Rattle.std.proofs.Common.{◌<◌, ◌+◌, length, get_or, ap, subst, arith}
use Rattle.running_folds.specs.steps.Moving.{PassesOf}
use Rattle.running_folds.proofs.AllRows.{passed_all}
use Rattle.running_folds.proofs.Steps.{one_stepped, stands}
use Rattle.running_folds.proofs.rows.pass_all.Goals as goal

pub loop-one-preserved : goal.loop-one-preserved
loop-one-preserved c =
    let row = c.args.row.now in
    let at = c.loop-one.one-index in
    let inv = c.loop-one.invariant in
    let within : at < length c.loop-one.moving = omega arith in
    let x = get_or c.loop-one.moving at c.one-item.result in record {
      stepped = one_stepped (PassesOf row) at c.args.moving.now c.loop-one.moving inv.stepped within x c.pass_at.new.one
          (stands (PassesOf row) at c.args.moving.now c.loop-one.moving inv.stepped within c.one-item.result)
          (subst (λ n. PassesOf row n x c.pass_at.new.one) inv.place c.in_ok-pass_at.ensures);
      place = ap (λ n. n + 1) inv.place;
    }

pub returns-clause-folds : goal.returns-clause-folds
returns-clause-folds c same = (passed_all c.loop-one.one-index c.args.moving.now c.loop-one.moving c.args.row.now same c.loop-one.invariant.stepped (omega arith)).0

pub returns-clause-moving : goal.returns-clause-moving
returns-clause-moving c same = (passed_all c.loop-one.one-index c.args.moving.now c.loop-one.moving c.args.row.now same c.loop-one.invariant.stepped (omega arith)).1
