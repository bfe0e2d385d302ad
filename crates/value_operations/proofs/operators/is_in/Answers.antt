use Rattle.std.proofs.Common.{◌∙◌}
use Rattle.value_operations.proofs.Operands.{not_list_right}
use Rattle.value_operations.proofs.Operating.{equal_is, found_in_list, none_in_list, none_so_far}
use Rattle.value_operations.proofs.operators.is_in.Goals as goal

pub unreachable-requires : goal.unreachable-requires
unreachable-requires c = not_list_right c.args.value.now c.args.list.now c.requires c.in_default.not-List

pub returns-then-same : goal.returns-then-same
returns-then-same c =
    found_in_list c.args.value.now c.args.list.now c.in-List.values c.in-List.is c.as_slice-element-items.result.now c.elements.element-index c.element-item.result
    c.as_slice-element-items.ensures c.elements-test.true c.element-item.is
    (equal_is c.args.value.now c.element-item.result c.same.result c.same.ensures ∙ c.if-same.true)

pub elements-preserved : goal.elements-preserved
elements-preserved c =
    none_so_far c.args.value.now c.as_slice-element-items.result.now c.elements.element-index c.element-item.result c.elements-test.true c.element-item.is
    (equal_is c.args.value.now c.element-item.result c.same.result c.same.ensures ∙ c.if-same.false) c.elements.invariant

pub returns : goal.returns
returns c =
    none_in_list c.args.value.now c.args.list.now c.in-List.values c.in-List.is c.as_slice-element-items.result.now c.elements.element-index
    c.as_slice-element-items.ensures c.elements-test.false c.elements.invariant
