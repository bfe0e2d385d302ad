use Rattle.std.proofs.Common.{◌≡◌, ◌≤◌, ◌-◌, drop, length}
use Rattle.txt_format.specs.steps.Bytes.{past_blanks}
use Rattle.txt_format.proofs.bytes.skip_blanks.Given as goal

abbrev pub decreases-blanks : goal.decreases-blanks
decreases-blanks l = length l.line - l.end

abbrev pub invariant-blanks : goal.invariant-blanks
invariant-blanks l = record {
  within : l.end ≤ length l.line;
  rest : past_blanks (drop l.end l.line) ≡ past_blanks (drop l.at l.line);
}
