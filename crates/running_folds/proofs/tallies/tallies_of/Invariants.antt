use Rattle.std.proofs.Common.{◌≡◌, ℕ, [], map, take, slice_get, Some}
use Rattle.running_folds.specs.declared.tally.Tally.{Tally}
use Rattle.running_folds.specs.Tallies.{Tallied, fold_of}
use Rattle.running_folds.proofs.tallies.tallies_of.Given as goal

abbrev pub invariant-loop-fold : goal.invariant-loop-fold
invariant-loop-fold l = record {
  folds : map fold_of l.tallies.items ≡ take l.fold-index l.folds;
  each : (k : ℕ) (t : Tally) → slice_get l.tallies.items k ≡ Some t → Tallied t [];
}
