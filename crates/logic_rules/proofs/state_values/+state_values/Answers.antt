use Rattle.std.proofs.Common.{arith, ap, sym, ◌∙◌}
use Rattle.std.specs.Prelude.{◌&&◌}
use Rattle.std.specs.List.{list_all}
use Rattle.language_model.specs.parts.LogicTyping.{is_state_value}
use Rattle.logic_rules.proofs.StateValueLaws.{of_map, of_tuple, passes}
use Rattle.spl_tree.proofs.ExprWeights.{expr_weight, entry_weight, field_weight, item_below}
use Rattle.logic_rules.proofs.state_values.+state_values.Goals as goal

pub are_state_values-is_state_value-requires : goal.are_state_values-is_state_value-requires
are_state_values-is_state_value-requires t c =
    (let q = item_below expr_weight c.args.exprs.now c.loop-expr.expr-index c.expr-item.result c.loop-expr-test.true c.expr-item.is in omega arith, tt)

pub are_state_entries-is_state_value-requires : goal.are_state_entries-is_state_value-requires
are_state_entries-is_state_value-requires t c =
    (let q = item_below entry_weight c.args.entries.now c.loop-key.key-index c.loop-key-item.result c.loop-key-test.true c.loop-key-item.is in omega arith, tt)

pub are_state_entries-is_state_value-requires-else-not-is_state_value : goal.are_state_entries-is_state_value-requires-else-not-is_state_value
are_state_entries-is_state_value-requires-else-not-is_state_value t c =
    (let q = item_below entry_weight c.args.entries.now c.loop-key.key-index c.loop-key-item.result c.loop-key-test.true c.loop-key-item.is in omega arith, tt)

pub are_state_fields-is_state_value-requires : goal.are_state_fields-is_state_value-requires
are_state_fields-is_state_value-requires t c =
    (let q = item_below field_weight c.args.fields.now c.loop-field.field-index c.field-item.result c.loop-field-test.true c.field-item.is in omega arith, tt)

pub is_state_value-returns-in-Map : goal.is_state_value-returns-in-Map
is_state_value-returns-in-Map t c =
    c.are_state_entries.ensures
    ∙ ap (list_all (λ e. is_state_value c.args.dollars.now e.0 && is_state_value c.args.dollars.now e.1)) c.as_slice-in-Map.ensures
    ∙ sym (of_map c.args.dollars.now c.in-Map.entries)
    ∙ ap (passes c.args.dollars.now) (sym c.in-Map.is ∙ c.get.ensures)

pub is_state_value-returns-in-Tuple : goal.is_state_value-returns-in-Tuple
is_state_value-returns-in-Tuple t c =
    c.are_state_fields.ensures
    ∙ ap (list_all (λ f. is_state_value c.args.dollars.now f.value)) c.as_slice-in-Tuple.ensures
    ∙ sym (of_tuple c.args.dollars.now c.in-Tuple.fields)
    ∙ ap (passes c.args.dollars.now) (sym c.in-Tuple.is ∙ c.get.ensures)
