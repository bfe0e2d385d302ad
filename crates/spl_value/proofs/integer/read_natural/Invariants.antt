use Rattle.std.proofs.Common.{◌≡◌, ◌<◌, ◌^◌, take, fold, true}
use Rattle.std.specs.List.{list_all}
use Rattle.spl_value.specs.Decimal.{is_digit, digit_step}
use Rattle.spl_value.proofs.integer.read_natural.Given as goal

abbrev pub invariant-loop-b : goal.invariant-loop-b
invariant-loop-b l = record {
  value : l.n ≡ fold digit_step 0 (take l.b-index l.digits);
  digits : list_all is_digit (take l.b-index l.digits) ≡ true;
  small : l.n < 10 ^ l.b-index;
}
