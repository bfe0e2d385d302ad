use Rattle.std.proofs.Common.{◌≡◌, ◌-◌}
use Rattle.language_model.specs.Taking.{first_untaken}
use Rattle.cycle_rules.proofs.order.first_outside.Given as goal

abbrev pub invariant-loop-number : goal.invariant-loop-number
invariant-loop-number l = first_untaken l.order 0 l.count ≡ first_untaken l.order l.number (l.count - l.number)
