use Rattle.std.proofs.Common.{◌≡◌, ◌≤◌, length, drop}
use Rattle.std.specs.Vec.Iter.{into_iter_items}
use Rattle.running_folds.specs.steps.Stepped.{Stepped}
use Rattle.running_folds.specs.steps.Tallies.{AddsOf}
use Rattle.running_folds.proofs.tallies.add_all.Given as goal

abbrev pub invariant-loop-tally : goal.invariant-loop-tally
invariant-loop-tally l = record {
  stepped : Stepped (AddsOf l.fn.row) l.tally-index l.initial.tallies l.tallies;
  left : l.tally-index ≤ length l.fn.row → into_iter_items l.values ≡ drop l.tally-index l.fn.row;
}
