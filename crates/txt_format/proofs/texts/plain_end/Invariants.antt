use Rattle.std.proofs.Common.{◌≡◌, ◌≤◌, ◌+◌, ◌-◌, drop, length}
use Rattle.std.specs.List.{prefix_len}
use Rattle.txt_format.specs.Escapes.{is_plain}
use Rattle.txt_format.proofs.texts.plain_end.Given as goal

abbrev pub decreases-plain : goal.decreases-plain
decreases-plain l = length l.line - l.end

abbrev pub invariant-plain : goal.invariant-plain
invariant-plain l = record {
  within : l.end ≤ length l.line;
  rest : l.end + prefix_len is_plain (drop l.end l.line) ≡ l.at + prefix_len is_plain (drop l.at l.line);
}
