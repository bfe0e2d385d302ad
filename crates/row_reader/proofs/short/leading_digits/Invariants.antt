use Rattle.std.proofs.Common.{◌≡◌, ◌≤◌, ◌<◌, ◌-◌, ◌^◌, fold, length, take, true}
use Rattle.std.specs.List.{list_all}
use Rattle.spl_value.specs.Decimal.{digit_step, is_digit}
use Rattle.row_reader.proofs.short.leading_digits.Given as goal

abbrev pub invariant-digits : goal.invariant-digits
invariant-digits l = record {
  within : l.end ≤ length l.line;
  few : l.end ≤ 18;
  value : l.n ≡ fold digit_step 0 (take l.end l.line);
  digits : list_all is_digit (take l.end l.line) ≡ true;
  small : l.n < 10 ^ l.end;
}

abbrev pub decreases-digits : goal.decreases-digits
decreases-digits l = 18 - l.end
