use Rattle.std.proofs.Common.{◌≡◌, ◌++◌, map}
use Rattle.test_texts.proofs.values.+value.Given as goal

abbrev pub invariant-add_pairs-loop-pair : goal.invariant-add_pairs-loop-pair
invariant-add_pairs-loop-pair l = map (λ p. p.now) l.yielded ++ l.pair-iterator ≡ l.pairs
