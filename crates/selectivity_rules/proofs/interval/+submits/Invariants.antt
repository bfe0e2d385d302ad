use Rattle.std.proofs.Common.{◌≡◌, ◌+◌, drop}
use Rattle.stream_model.specs.Selectivity.{row_interval}
use Rattle.selectivity_rules.specs.steps.Counts.{both_of, capped, joined}
use Rattle.selectivity_rules.specs.steps.Intervals.{arms_interval}
use Rattle.spl_tree.proofs.StatementWeights.{arm_weights, weight, weights}
use Rattle.selectivity_rules.proofs.interval.+submits.Given as goal

abbrev pub decreases-of_statement : goal.decreases-of_statement
decreases-of_statement l = weight l.statement.now

abbrev pub decreases-of_row : goal.decreases-of_row
decreases-of_row l = weights l.row.now + 1

abbrev pub decreases-of_arms : goal.decreases-of_arms
decreases-of_arms l = arm_weights l.arms.now + weights l.other.now + 2

abbrev pub invariant-of_row-loop-statement : goal.invariant-of_row-loop-statement
invariant-of_row-loop-statement l = both_of l.submits (capped (row_interval l.marker (drop l.statement-index l.row))) ≡ capped (row_interval l.marker l.row)

abbrev pub invariant-of_arms-loop-condition : goal.invariant-of_arms-loop-condition
invariant-of_arms-loop-condition l = joined l.so_far (capped (arms_interval l.marker (drop l.condition-index l.arms) l.other)) ≡ capped (arms_interval l.marker l.arms l.other)
