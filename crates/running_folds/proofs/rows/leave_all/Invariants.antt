use Rattle.std.proofs.Common.{◌≡◌}
use Rattle.running_folds.specs.steps.Moving.{LeavesOf}
use Rattle.running_folds.specs.steps.Stepped.{Stepped}
use Rattle.running_folds.proofs.rows.leave_all.Given as goal

abbrev pub invariant-loop-one : goal.invariant-loop-one
invariant-loop-one l = record {
  stepped : Stepped (LeavesOf l.row) l.one-index l.initial.moving l.moving;
  place : l.place ≡ l.one-index;
}
