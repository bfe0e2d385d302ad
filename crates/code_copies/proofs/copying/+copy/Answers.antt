use Rattle.std.proofs.Common.{ap, arith}
use Rattle.spl_tree.proofs.ExprWeights.{item_below}
use Rattle.code_copies.proofs.CodeWeights.{weight, entry_weight, field_weight, taking_weight}
use Rattle.code_copies.proofs.copying.+copy.Goals as goal

pub copy_codes-copy_code-requires : goal.copy_codes-copy_code-requires
copy_codes-copy_code-requires t c =
    (let q = item_below weight c.args.codes.now c.loop-code.code-index c.code-item.result c.loop-code-test.true c.code-item.is in omega arith, tt)

pub copy_entries-copy_code-requires : goal.copy_entries-copy_code-requires
copy_entries-copy_code-requires t c =
    (let q = item_below entry_weight c.args.entries.now c.loop-entry.entry-index c.entry-item.result c.loop-entry-test.true c.entry-item.is in omega arith, tt)

pub copy_entries-copy_code-requires-in-loop-entry : goal.copy_entries-copy_code-requires-in-loop-entry
copy_entries-copy_code-requires-in-loop-entry t c =
    (let q = item_below entry_weight c.args.entries.now c.loop-entry.entry-index c.entry-item.result c.loop-entry-test.true c.entry-item.is in omega arith, tt)

pub copy_fields-copy_code-requires : goal.copy_fields-copy_code-requires
copy_fields-copy_code-requires t c =
    (let q = item_below field_weight c.args.fields.now c.loop-field.field-index c.field-item.result c.loop-field-test.true c.field-item.is in omega arith, tt)

pub copy_takings-copy_code-requires : goal.copy_takings-copy_code-requires
copy_takings-copy_code-requires t c = (
  let q = item_below taking_weight c.args.takings.now c.loop-taking.taking-index c.taking-item.result c.loop-taking-test.true c.taking-item.is in
      let r = ap taking_weight c.in-Element.is in omega arith,
  tt,
)

pub copy_takings-copy_code-requires-in-AtKey : goal.copy_takings-copy_code-requires-in-AtKey
copy_takings-copy_code-requires-in-AtKey t c = (
  let q = item_below taking_weight c.args.takings.now c.loop-taking.taking-index c.taking-item.result c.loop-taking-test.true c.taking-item.is in
      let r = ap taking_weight c.in-AtKey.is in omega arith,
  tt,
)
