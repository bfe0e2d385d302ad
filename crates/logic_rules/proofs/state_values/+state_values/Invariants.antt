use Rattle.std.proofs.Common.{◌≡◌, ◌+◌, drop}
use Rattle.std.specs.Prelude.{◌&&◌}
use Rattle.std.specs.List.{list_all}
use Rattle.language_model.specs.parts.LogicTyping.{is_state_value}
use Rattle.spl_tree.proofs.ExprWeights.{expr_weight, weights, entry_weights, field_weights}
use Rattle.logic_rules.proofs.state_values.+state_values.Given as goal

abbrev pub invariant-are_state_values-loop-expr : goal.invariant-are_state_values-loop-expr
invariant-are_state_values-loop-expr l =
    list_all (is_state_value l.dollars) l.exprs ≡ list_all (is_state_value l.dollars) (drop l.expr-index l.exprs)

abbrev pub invariant-are_state_entries-loop-key : goal.invariant-are_state_entries-loop-key
invariant-are_state_entries-loop-key l =
    list_all (λ e. is_state_value l.dollars e.0 && is_state_value l.dollars e.1) l.entries
    ≡ list_all (λ e. is_state_value l.dollars e.0 && is_state_value l.dollars e.1) (drop l.key-index l.entries)

abbrev pub invariant-are_state_fields-loop-field : goal.invariant-are_state_fields-loop-field
invariant-are_state_fields-loop-field l =
    list_all (λ f. is_state_value l.dollars f.value) l.fields ≡ list_all (λ f. is_state_value l.dollars f.value) (drop l.field-index l.fields)

abbrev pub decreases-is_state_value : goal.decreases-is_state_value
decreases-is_state_value l = expr_weight l.expr.now

abbrev pub decreases-are_state_values : goal.decreases-are_state_values
decreases-are_state_values l = weights l.exprs.now + 1

abbrev pub decreases-are_state_entries : goal.decreases-are_state_entries
decreases-are_state_entries l = entry_weights l.entries.now + 1

abbrev pub decreases-are_state_fields : goal.decreases-are_state_fields
decreases-are_state_fields l = field_weights l.fields.now + 1
