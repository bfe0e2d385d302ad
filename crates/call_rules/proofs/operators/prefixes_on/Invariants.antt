use Rattle.std.proofs.Common.{◌≡◌, ◌≤◌, Ok, length, drop, reverse}
use Rattle.language_model.specs.Typing.{prefixes_typed}
use Rattle.call_rules.proofs.operators.prefixes_on.Given as goal

abbrev pub invariant-prefixes : goal.invariant-prefixes
invariant-prefixes l = record {
  within : l.at ≤ length l.prefixes;
  inner : prefixes_typed (drop l.at l.prefixes) l.operand l.fn.kind ≡ Ok (reverse l.codes, l.kind);
}

abbrev pub decreases-prefixes : goal.decreases-prefixes
decreases-prefixes l = l.at
