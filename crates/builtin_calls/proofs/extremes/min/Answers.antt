use Rattle.std.proofs.Common.{ap}
use Rattle.std.specs.Ordering.{is_gt}
use Rattle.spl_value.specs.Order.{value_cmp}
use Rattle.builtin_calls.proofs.Chosen.{when_true, when_false, answers_min}
use Rattle.builtin_calls.proofs.extremes.min.Goals as goal
use Rattle.builtin_calls.proofs.extremes.min.Goals.{then-is_gt, else-is_gt}

pub returns : goal.returns
returns c =
    let a = c.args.a.now in
    let b = c.args.b.now in
    answers_min a b c.requires c.copied.result c.if-is_gt.least.now
    (elim c.if-is_gt.branch [
      | then-is_gt w ↦ when_true (is_gt (value_cmp a b)) c.if-is_gt.least.now b a (cc (c.is_gt.ensures, w.if-is_gt.true)) (ap (λ r. r.now) w.least-is)
      | else-is_gt w ↦ when_false (is_gt (value_cmp a b)) c.if-is_gt.least.now b a (cc (c.is_gt.ensures, w.if-is_gt.false)) (ap (λ r. r.now) w.least-is)
    ])
    c.copied.ensures
