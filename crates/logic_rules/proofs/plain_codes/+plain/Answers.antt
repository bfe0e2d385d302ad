use Rattle.std.proofs.Common.{arith}
use Rattle.code_copies.proofs.CodeWeights.{weight, entry_weight, field_weight}
use Rattle.spl_tree.proofs.ExprWeights.{item_below}
use Rattle.logic_rules.proofs.plain_codes.+plain.Goals as goal

pub are_plain-is_plain-requires : goal.are_plain-is_plain-requires
are_plain-is_plain-requires t c =
    (let q = item_below weight c.args.codes.now c.loop-code.code-index c.code-item.result c.loop-code-test.true c.code-item.is in omega arith, tt)

pub are_plain_entries-is_plain-requires : goal.are_plain_entries-is_plain-requires
are_plain_entries-is_plain-requires t c =
    (let q = item_below entry_weight c.args.entries.now c.loop-key.key-index c.loop-key-item.result c.loop-key-test.true c.loop-key-item.is in omega arith, tt)

pub are_plain_entries-is_plain-requires-else-not-is_plain : goal.are_plain_entries-is_plain-requires-else-not-is_plain
are_plain_entries-is_plain-requires-else-not-is_plain t c =
    (let q = item_below entry_weight c.args.entries.now c.loop-key.key-index c.loop-key-item.result c.loop-key-test.true c.loop-key-item.is in omega arith, tt)

pub are_plain_fields-is_plain-requires : goal.are_plain_fields-is_plain-requires
are_plain_fields-is_plain-requires t c =
    (let q = item_below field_weight c.args.fields.now c.loop-value.value-index c.loop-value-item.result c.loop-value-test.true c.loop-value-item.is in omega arith, tt)
