use Rattle.std.proofs.Common.{◌≡◌, ◌+◌, drop, length}
use Rattle.language_model.specs.BodyTyping.{row_typing, arms_typing}
use Rattle.language_model.specs.BodyTypingLaws.{row_stated, arms_stated}
use Rattle.language_model.specs.Finds.{with_front}
use Rattle.body_rules.specs.steps.Leads.{shortened}
use Rattle.body_rules.specs.Settings.{setting_meant}
use Rattle.spl_tree.proofs.StmtWeights.{statement_weight, statement_weights, arm_weights, other_weight}
use Rattle.body_rules.proofs.bodies.+bodies.Given as goal

abbrev pub invariant-statements_of-loop-statement : goal.invariant-statements_of-loop-statement
invariant-statements_of-loop-statement l = record {
  same : row_typing (setting_meant l.setting) l.inside l.initial.scope (row_stated l.statements)
      ≡ with_front l.body (row_typing (setting_meant l.setting) l.inside l.scope (row_stated (drop l.statement-index l.statements)));
  longer : shortened (length l.initial.scope.vars) l.scope ≡ l.initial.scope;
}

abbrev pub invariant-branches-loop-arm : goal.invariant-branches-loop-arm
invariant-branches-loop-arm l = record {
  same : arms_typing (setting_meant l.setting) l.inside l.initial.scope (arms_stated l.arms)
      ≡ with_front l.branches (arms_typing (setting_meant l.setting) l.inside l.scope (arms_stated (drop l.arm-index l.arms)));
  kept : l.scope ≡ l.initial.scope;
}

abbrev pub decreases-statement_of : goal.decreases-statement_of
decreases-statement_of l = statement_weight l.statement.now

abbrev pub decreases-row : goal.decreases-row
decreases-row l = statement_weights l.statements.now + 2

abbrev pub decreases-statements_of : goal.decreases-statements_of
decreases-statements_of l = statement_weights l.statements.now + 1

abbrev pub decreases-alone : goal.decreases-alone
decreases-alone l = statement_weight l.statement.now + 1

abbrev pub decreases-branches : goal.decreases-branches
decreases-branches l = arm_weights l.arms.now + 2

abbrev pub decreases-otherwise : goal.decreases-otherwise
decreases-otherwise l = other_weight l.other.now + 2

abbrev pub decreases-for_each : goal.decreases-for_each
decreases-for_each l = statement_weight l.body.now + 2

abbrev pub decreases-block : goal.decreases-block
decreases-block l = statement_weights l.statements.now + 3

abbrev pub decreases-choice : goal.decreases-choice
decreases-choice l = arm_weights l.arms.now + other_weight l.other.now + 3

abbrev pub decreases-repeated : goal.decreases-repeated
decreases-repeated l = statement_weight l.statement.now + 2
