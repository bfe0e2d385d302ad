use Rattle.std.proofs.Common.{◌≡◌, ◌++◌, length, take}
use Rattle.spl_value.proofs.value.+copy.Given as goal

abbrev pub invariant-copy_pairs-loop-pair : goal.invariant-copy_pairs-loop-pair
invariant-copy_pairs-loop-pair l = l.copied ++ l.pair-iterator ≡ l.pairs

abbrev pub invariant-copy_values-loop-value : goal.invariant-copy_values-loop-value
invariant-copy_values-loop-value l = l.copied ≡ record { items = take l.value-index l.values; capacity = length l.values }
