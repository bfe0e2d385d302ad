use Rattle.std.proofs.Common.{◌≡◌, ◌++◌, map}
use Rattle.spl_value.specs.declared.value.Value.{Value}
use Rattle.value_operations.proofs.collections.keys.Given as goal

abbrev pub invariant-pairs : goal.invariant-pairs
invariant-pairs l = l.keys ++ map (λ (p : Value × Value). p.0) l.pair-iterator.rest.items ≡ map (λ (p : Value × Value). p.0) l.fn.pairs
