use Rattle.std.proofs.Common.{◌≡◌, ◌+◌, drop}
use Rattle.language_model.specs.BodyTypingLaws.{all_return}
use Rattle.spl_tree.proofs.StmtWeights.{statement_weight, statement_weights, arm_weights}
use Rattle.body_rules.proofs.bodies.results.+results.Given as goal

abbrev pub invariant-are_results-loop-arm : goal.invariant-are_results-loop-arm
invariant-are_results-loop-arm l = all_return l.arms ≡ all_return (drop l.arm-index l.arms)

abbrev pub decreases-ends_with_result : goal.decreases-ends_with_result
decreases-ends_with_result l = statement_weights l.statements.now + 1

abbrev pub decreases-is_result : goal.decreases-is_result
decreases-is_result l = statement_weight l.statement.now

abbrev pub decreases-are_results : goal.decreases-are_results
decreases-are_results l = arm_weights l.arms.now + 1
