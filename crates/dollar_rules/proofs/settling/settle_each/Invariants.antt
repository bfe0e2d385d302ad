use Rattle.std.proofs.Common.{ℕ, ◌<◌}
use Rattle.dollar_rules.specs.steps.Given.{IsDone}
use Rattle.dollar_rules.specs.steps.Settling.{IsSettled, given_of}
use Rattle.dollar_rules.proofs.settling.settle_each.Given as goal

abbrev pub invariant-loop-at : goal.invariant-loop-at
invariant-loop-at l = record {
  settled : IsSettled (given_of l.head) l.settled;
  done : (place : ℕ) → place < l.at → IsDone (given_of l.head) l.settled.marks.items place;
}
