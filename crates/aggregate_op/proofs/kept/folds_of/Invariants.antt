use Rattle.std.proofs.Common.{◌≡◌, take}
use Rattle.aggregate_op.specs.Kept.{folds_of}
use Rattle.aggregate_op.proofs.kept.folds_of.Given as goal

abbrev pub invariant-loop-assignment : goal.invariant-loop-assignment
invariant-loop-assignment l = l.folds ≡ folds_of (take l.assignment-index l.output)
