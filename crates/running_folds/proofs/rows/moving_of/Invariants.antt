use Rattle.std.proofs.Common.{◌≡◌, ℕ, [], map, take, slice_get, Some}
use Rattle.running_folds.specs.declared.moving.Moving.{Moving}
use Rattle.running_folds.specs.Moving.{Moves, fold_of}
use Rattle.running_folds.proofs.rows.moving_of.Given as goal

abbrev pub invariant-loop-fold : goal.invariant-loop-fold
invariant-loop-fold l = record {
  folds : map fold_of l.moving.items ≡ take l.fold-index l.folds;
  each : (k : ℕ) (m : Moving) → slice_get l.moving.items k ≡ Some m → Moves m [];
}
