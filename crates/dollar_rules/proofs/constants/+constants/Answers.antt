use Rattle.std.proofs.Common.{arith}
use Rattle.spl_tree.proofs.ExprWeights.{expr_weight, entry_weight, field_weight, item_below}
use Rattle.dollar_rules.proofs.constants.+constants.Goals as goal

pub are_constant-is_constant-requires : goal.are_constant-is_constant-requires
are_constant-is_constant-requires t c =
    (let q = item_below expr_weight c.args.exprs.now c.loop-expr.expr-index c.expr-item.result c.loop-expr-test.true c.expr-item.is in omega arith, tt)

pub are_constant_entries-is_constant-requires : goal.are_constant_entries-is_constant-requires
are_constant_entries-is_constant-requires t c =
    (let q = item_below entry_weight c.args.entries.now c.loop-key.key-index c.loop-key-item.result c.loop-key-test.true c.loop-key-item.is in omega arith, tt)

pub are_constant_entries-is_constant-requires-else-not-is_constant : goal.are_constant_entries-is_constant-requires-else-not-is_constant
are_constant_entries-is_constant-requires-else-not-is_constant t c =
    (let q = item_below entry_weight c.args.entries.now c.loop-key.key-index c.loop-key-item.result c.loop-key-test.true c.loop-key-item.is in omega arith, tt)

pub are_constant_fields-is_constant-requires : goal.are_constant_fields-is_constant-requires
are_constant_fields-is_constant-requires t c =
    (let q = item_below field_weight c.args.fields.now c.loop-field.field-index c.field-item.result c.loop-field-test.true c.field-item.is in omega arith, tt)
