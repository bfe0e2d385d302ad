use Rattle.std.proofs.Common.{IsTrue}
use Rattle.spl_value.specs.declared.types.IntKind.TheVariants.{I32}
use Rattle.spl_value.specs.declared.types.SplType.TheVariants as S
use Rattle.spl_value.specs.declared.value.Value.TheVariants as V
use Rattle.spl_value.specs.Values.{fits}
use Rattle.value_tests.proofs.calls.keyed.Given as goal

abbrev pub invariant-loop-word : goal.invariant-loop-word
invariant-loop-word l = IsTrue (fits (S.Map (S.Int I32) S.Bool) (V.Map l.pairs))
