use Rattle.std.proofs.Common.{◌≡◌, ◌++◌, map}
use Rattle.spl_value.specs.declared.value.Value.{Value}
use Rattle.value_operations.proofs.collections.copied_keys.Given as goal

abbrev pub invariant-loop-pair : goal.invariant-loop-pair
invariant-loop-pair l =
    l.keys ++ map (λ (p : Value × Value). p.0) l.pair-iterator ≡ map (λ (p : Value × Value). p.0) l.pairs
