use Rattle.std.proofs.Common.{◌≡◌, ◌+◌, ◌++◌, flat_map, take}
use Rattle.language_model.specs.Mentions.{block_mentions}
use Rattle.program_tables.specs.Mentioned.{mentions_seen}
use Rattle.program_tables.specs.steps.MentionParts.{arm_mentions}
use Rattle.spl_tree.proofs.StmtWeights.{statement_weight, statement_weights, arm_weights, other_weight}
use Rattle.program_tables.proofs.mentions.+bodies.Given as goal

abbrev pub invariant-of_statements-loop-statement : goal.invariant-of_statements-loop-statement
invariant-of_statements-loop-statement l = mentions_seen l.out.items ≡ mentions_seen l.fn.out.items ++ block_mentions (take l.statement-index l.statements)

abbrev pub invariant-of_arms-loop-condition : goal.invariant-of_arms-loop-condition
invariant-of_arms-loop-condition l = mentions_seen l.out.items ≡ mentions_seen l.fn.out.items ++ flat_map arm_mentions (take l.condition-index l.arms)

abbrev pub decreases-of_statement : goal.decreases-of_statement
decreases-of_statement l = statement_weight l.statement.now

abbrev pub decreases-of_statements : goal.decreases-of_statements
decreases-of_statements l = statement_weights l.statements.now + 1

abbrev pub decreases-of_arms : goal.decreases-of_arms
decreases-of_arms l = arm_weights l.arms.now + 1

abbrev pub decreases-of_if : goal.decreases-of_if
decreases-of_if l = arm_weights l.arms.now + other_weight l.other.now + 2
