use Rattle.std.proofs.Common.{◌≡◌, ◌-◌, ◌≤◌, length}
use Rattle.language_model.specs.Taking.{taken, taken_on}
use Rattle.cycle_rules.proofs.Flags.{AreFlags}
use Rattle.cycle_rules.proofs.order.topological_order.Given as goal

abbrev pub invariant-rounds : goal.invariant-rounds
invariant-rounds l = record {
  within : length l.order ≤ length l.ops;
  same_length : length l.flags.items ≡ length l.ops;
  are_flags : AreFlags l.order l.flags.items;
  rest : taken l.streams l.ops ≡ taken_on (length l.ops - length l.order) l.streams l.ops l.order;
}

abbrev pub decreases-rounds : goal.decreases-rounds
decreases-rounds l = length l.ops - length l.order
