use Rattle.std.proofs.Common.{ap, arith, sym, ◌∙◌}
use Rattle.std.specs.Option.{option_copied}
use Rattle.language_model.specs.Declarations.{type_sets}
use Rattle.duplicate_rules.proofs.Rows.{row_on}
use Rattle.duplicate_rules.proofs.SetWeights.{kind_weight, attribute_weight, attribute_weights, tuple_weight}
use Rattle.duplicate_rules.proofs.declarations.types.+types.Goals as goal
use Rattle.spl_tree.proofs.ExprWeights.{item_below}

pub earliest_in_attributes-loop-attribute-preserved : goal.earliest_in_attributes-loop-attribute-preserved
earliest_in_attributes-loop-attribute-preserved t c =
    c.loop-attribute.invariant
    ∙ row_on (λ a. type_sets a.kind) c.args.attributes.now c.loop-attribute.attribute-index (option_copied c.loop-attribute.found) c.attribute-item.result c.loop-attribute-test.true c.attribute-item.is (option_copied c.in_ok-found-2.found) c.in_ok-found-2.ensures

pub earliest_in_attributes-earliest_in_type-requires : goal.earliest_in_attributes-earliest_in_type-requires
earliest_in_attributes-earliest_in_type-requires t c =
    (let q = item_below attribute_weight c.args.attributes.now c.loop-attribute.attribute-index c.attribute-item.result c.loop-attribute-test.true c.attribute-item.is in omega arith, tt)

pub earliest_in_type-earliest_in_attributes-requires : goal.earliest_in_type-earliest_in_attributes-requires
earliest_in_type-earliest_in_attributes-requires t c =
    (let w = ap kind_weight (sym c.get.ensures ∙ c.in-Tuple.is) ∙ tuple_weight c.in-Tuple.attributes in let e = ap attribute_weights c.as_slice.ensures in omega arith, tt)
