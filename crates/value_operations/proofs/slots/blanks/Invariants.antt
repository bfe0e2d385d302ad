use Rattle.std.proofs.Common.{◌≡◌, ◌≤◌, length}
use Rattle.value_operations.proofs.slots.blanks.Given as goal

abbrev pub invariant-values : goal.invariant-values
invariant-values l = (length l.values.items ≡ l.counter) × (l.count ≤ l.values.capacity)
