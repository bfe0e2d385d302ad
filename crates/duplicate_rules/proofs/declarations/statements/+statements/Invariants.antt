use Rattle.std.proofs.Common.{◌≡◌, ◌+◌, drop}
use Rattle.std.specs.Prelude.{flat_map}
use Rattle.std.specs.Option.{option_copied}
use Rattle.language_model.specs.Declarations.{block_sets}
use Rattle.language_model.specs.parts.Declarations.{statement_scoped}
use Rattle.duplicate_rules.specs.steps.Earliest.{earliest_in}
use Rattle.duplicate_rules.proofs.SetWeights.{statement_weight, statement_weights, arm_weights}
use Rattle.duplicate_rules.proofs.declarations.statements.+statements.Given as goal

abbrev pub invariant-earliest_in_block-loop-statement : goal.invariant-earliest_in_block-loop-statement
invariant-earliest_in_block-loop-statement l =
    earliest_in (option_copied l.fn.best) (block_sets l.statements)
    ≡ earliest_in (option_copied l.found) (flat_map (λ s. (statement_scoped s.what).sets) (drop l.statement-index l.statements))

abbrev pub invariant-earliest_in_arms-loop-arm : goal.invariant-earliest_in_arms-loop-arm
invariant-earliest_in_arms-loop-arm l =
    earliest_in (option_copied l.fn.best) (flat_map (λ a. (statement_scoped a.1.what).sets) l.arms)
    ≡ earliest_in (option_copied l.found) (flat_map (λ a. (statement_scoped a.1.what).sets) (drop l.arm-index l.arms))

abbrev pub decreases-earliest_in_statement : goal.decreases-earliest_in_statement
decreases-earliest_in_statement l = statement_weight l.statement.now

abbrev pub decreases-earliest_in_block : goal.decreases-earliest_in_block
decreases-earliest_in_block l = 1 + statement_weights l.statements.now

abbrev pub decreases-earliest_in_arms : goal.decreases-earliest_in_arms
decreases-earliest_in_arms l = 1 + arm_weights l.arms.now
