use Rattle.std.proofs.Common.{◌≡◌, ◌+◌, ◌++◌, flat_map, take}
use Rattle.language_model.specs.Mentions.{expr_mentions}
use Rattle.program_tables.specs.Mentioned.{mentions_seen}
use Rattle.program_tables.specs.steps.MentionParts.{entry_mentions, field_mentions, step_mentions}
use Rattle.spl_tree.proofs.ExprWeights.{expr_weight, weights, entry_weights, field_weights, step_weights}
use Rattle.program_tables.proofs.mentions.+mentions.Given as goal

abbrev pub invariant-of_entries-loop-key : goal.invariant-of_entries-loop-key
invariant-of_entries-loop-key l = mentions_seen l.out.items ≡ mentions_seen l.fn.out.items ++ flat_map entry_mentions (take l.key-index l.entries)

abbrev pub invariant-of_exprs-loop-expr : goal.invariant-of_exprs-loop-expr
invariant-of_exprs-loop-expr l = mentions_seen l.out.items ≡ mentions_seen l.fn.out.items ++ flat_map expr_mentions (take l.expr-index l.exprs)

abbrev pub invariant-of_fields-loop-field : goal.invariant-of_fields-loop-field
invariant-of_fields-loop-field l = mentions_seen l.out.items ≡ mentions_seen l.fn.out.items ++ flat_map field_mentions (take l.field-index l.fields)

abbrev pub invariant-of_steps-loop-step : goal.invariant-of_steps-loop-step
invariant-of_steps-loop-step l = mentions_seen l.out.items ≡ mentions_seen l.fn.out.items ++ flat_map step_mentions (take l.step-index l.steps)

abbrev pub decreases-of_expr : goal.decreases-of_expr
decreases-of_expr l = expr_weight l.expr.now

abbrev pub decreases-of_exprs : goal.decreases-of_exprs
decreases-of_exprs l = weights l.exprs.now + 1

abbrev pub decreases-of_entries : goal.decreases-of_entries
decreases-of_entries l = entry_weights l.entries.now + 1

abbrev pub decreases-of_fields : goal.decreases-of_fields
decreases-of_fields l = field_weights l.fields.now + 1

abbrev pub decreases-of_steps : goal.decreases-of_steps
decreases-of_steps l = step_weights l.steps.now + 1
