use Rattle.std.proofs.Common.{◌≡◌, ◌+◌, drop}
use Rattle.std.specs.List.{prefix_len}
use Rattle.spl_value.specs.Decimal.{is_digit}
use Rattle.spl_lexer.proofs.lengths.digit_length.Given as goal

abbrev pub invariant-loop-i : goal.invariant-loop-i
invariant-loop-i l = prefix_len is_digit l.bytes ≡ l.i + prefix_len is_digit (drop l.i l.bytes)
