use Rattle.std.proofs.Common.{◌≡◌, ◌+◌, drop}
use Rattle.std.specs.Prelude.{◌&&◌}
use Rattle.std.specs.List.{list_all}
use Rattle.language_model.specs.parts.Parameters.{is_constant}
use Rattle.spl_tree.proofs.ExprWeights.{expr_weight, weights, entry_weights, field_weights}
use Rattle.dollar_rules.proofs.constants.+constants.Given as goal

abbrev pub invariant-are_constant-loop-expr : goal.invariant-are_constant-loop-expr
invariant-are_constant-loop-expr l = list_all is_constant l.exprs ≡ list_all is_constant (drop l.expr-index l.exprs)

abbrev pub invariant-are_constant_entries-loop-key : goal.invariant-are_constant_entries-loop-key
invariant-are_constant_entries-loop-key l =
    list_all (λ e. is_constant e.0 && is_constant e.1) l.entries ≡ list_all (λ e. is_constant e.0 && is_constant e.1) (drop l.key-index l.entries)

abbrev pub invariant-are_constant_fields-loop-field : goal.invariant-are_constant_fields-loop-field
invariant-are_constant_fields-loop-field l = list_all (λ f. is_constant f.value) l.fields ≡ list_all (λ f. is_constant f.value) (drop l.field-index l.fields)

abbrev pub decreases-is_constant : goal.decreases-is_constant
decreases-is_constant l = expr_weight l.expr.now

abbrev pub decreases-are_constant : goal.decreases-are_constant
decreases-are_constant l = weights l.exprs.now + 1

abbrev pub decreases-are_constant_entries : goal.decreases-are_constant_entries
decreases-are_constant_entries l = entry_weights l.entries.now + 1

abbrev pub decreases-are_constant_fields : goal.decreases-are_constant_fields
decreases-are_constant_fields l = field_weights l.fields.now + 1
