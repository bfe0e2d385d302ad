use Rattle.std.proofs.Common.{◌≡◌, ◌≤◌, ◌+◌, ◌-◌, drop, length}
use Rattle.std.specs.List.{prefix_len}
use Rattle.txt_format.specs.steps.Bytes.{is_part}
use Rattle.txt_format.proofs.numbers.number_end.Given as goal

abbrev pub decreases-digits : goal.decreases-digits
decreases-digits l = length l.line - l.end

abbrev pub invariant-digits : goal.invariant-digits
invariant-digits l = record {
  within : l.end ≤ length l.line;
  rest : l.end + prefix_len is_part (drop l.end l.line) ≡ l.at + prefix_len is_part (drop l.at l.line);
}
