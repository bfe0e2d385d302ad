use Rattle.std.proofs.Common.{◌≡◌, ◌<◌, ◌≤◌, ◌^◌, take, fold, true}
use Rattle.std.specs.List.{list_all}
use Rattle.spl_value.specs.Decimal.{is_digit, digit_step}
use Rattle.txt_format.proofs.numbers.short_natural.Given as goal

abbrev pub invariant-digits : goal.invariant-digits
invariant-digits l = record {
  value : l.n ≡ fold digit_step 0 (take l.i l.text);
  digits : list_all is_digit (take l.i l.text) ≡ true;
  small : l.n < 10 ^ l.i;
  few : l.i ≤ 18;
}
