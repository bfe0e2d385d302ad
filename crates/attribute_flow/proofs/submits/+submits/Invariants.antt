use Rattle.std.proofs.Common.{◌≡◌, ◌+◌, drop}
use Rattle.stream_model.specs.Copies.{submits_of}
use Rattle.attribute_flow.specs.steps.Agreements.{agreement, and_then, arms_submits}
use Rattle.spl_tree.proofs.StatementWeights.{weight, weights, arm_weights}
use Rattle.attribute_flow.proofs.submits.+submits.Given as goal

abbrev pub decreases-of_statement : goal.decreases-of_statement
decreases-of_statement l = weight l.statement.now

abbrev pub decreases-of_row : goal.decreases-of_row
decreases-of_row l = weights l.row.now + 1

abbrev pub decreases-of_arms : goal.decreases-of_arms
decreases-of_arms l = arm_weights l.arms.now + 1

abbrev pub invariant-of_row-loop-statement : goal.invariant-of_row-loop-statement
invariant-of_row-loop-statement l = and_then l.so_far (agreement l.attribute (submits_of (drop l.statement-index l.row))) ≡ agreement l.attribute (submits_of l.row)

abbrev pub invariant-of_arms-loop-row : goal.invariant-of_arms-loop-row
invariant-of_arms-loop-row l = and_then l.so_far (agreement l.attribute (arms_submits (drop l.row-index l.arms))) ≡ agreement l.attribute (arms_submits l.arms)
