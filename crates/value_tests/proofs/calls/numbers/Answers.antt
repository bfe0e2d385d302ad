use Rattle.spl_value.specs.declared.types.IntKind.TheVariants.{I32}
use Rattle.spl_value.specs.declared.types.SplType.TheVariants as S
use Rattle.value_tests.proofs.Collections.{empty_list, longer_list}
use Rattle.value_tests.proofs.calls.numbers.Goals as goal

pub loop-word-init : goal.loop-word-init
loop-word-init c = empty_list (S.Int I32) c.new-values.result c.new-values.ensures

pub loop-word-preserved : goal.loop-word-preserved
loop-word-preserved c = longer_list (S.Int I32) c.loop-word.values c.push.new.self c.integer.result c.loop-word.invariant c.integer.ensures c.in_ok-push.ensures.ok
