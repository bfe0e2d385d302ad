use Rattle.std.proofs.Common.{◌≡◌, ◌+◌, ◌≤◌, drop}
use Rattle.dollar_rules.specs.steps.Given.{marks_in}
use Rattle.dollar_rules.proofs.settling.count_marks.Given as goal

abbrev pub invariant-loop-mark : goal.invariant-loop-mark
invariant-loop-mark l = record {
  counted : marks_in l.marks ≡ l.count + marks_in (drop l.mark-index l.marks);
  within : l.count ≤ l.mark-index;
}
