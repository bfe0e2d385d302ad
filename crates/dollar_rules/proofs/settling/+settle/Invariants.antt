use Rattle.std.proofs.Common.{◌≡◌, ◌<◌, ℕ, Some}
use Rattle.std.specs.Prelude.{slice_get}
use Rattle.dollar_rules.specs.steps.Given.{IsDone, Keeps}
use Rattle.dollar_rules.specs.steps.Settling.{IsSettled, given_of}
use Rattle.dollar_rules.proofs.settling.+settle.Given as goal

abbrev pub invariant-loop-next : goal.invariant-loop-next
invariant-loop-next l = record {
  settled : IsSettled (given_of l.head) l.settled;
  keeps : Keeps l.fn.settled.marks.items l.settled.marks.items;
  done : (k next : ℕ) → k < l.next-index → slice_get l.next-items k ≡ Some next → IsDone (given_of l.head) l.settled.marks.items next;
}

abbrev pub decreases-settle : goal.decreases-settle
decreases-settle l = l.left
