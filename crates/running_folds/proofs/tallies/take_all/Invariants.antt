use Rattle.std.proofs.Common.{◌≡◌, ◌++◌, drop}
use Rattle.running_folds.specs.Tallies.{made_from}
use Rattle.running_folds.specs.steps.Stepped.{Stepped}
use Rattle.running_folds.specs.steps.Tallies.{BeginsAnew}
use Rattle.running_folds.proofs.tallies.take_all.Given as goal

abbrev pub invariant-loop-tally : goal.invariant-loop-tally
invariant-loop-tally l = record {
  stepped : Stepped BeginsAnew l.tally-index l.initial.tallies l.tallies;
  made : l.made ++ made_from (drop l.tally-index l.initial.tallies) ≡ made_from l.initial.tallies;
}
