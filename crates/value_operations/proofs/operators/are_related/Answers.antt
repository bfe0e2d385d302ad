use Rattle.std.proofs.Common.{not, ap, ◌∙◌}
use Rattle.spl_tree.specs.declared.code.BinaryCode.{BinaryCode}
use Rattle.language_model.specs.Operators.{binary_of}
use Rattle.language_model.specs.parts.Operators.{boolean}
use Rattle.value_operations.proofs.Operands.{both_operands}
use Rattle.value_operations.proofs.Operating.{order_gives, equal_is}
use Rattle.value_operations.proofs.operators.are_related.Goals as goal

pub returns-in-Order : goal.returns-in-Order
returns-in-Order c =
    order_gives c.args.operator c.in-Order.operator c.args.left.now c.args.right.now c.order.result c.in_order.result c.in-Order.is
    (both_operands c.args.left.now c.args.right.now c.args.operator c.requires) c.order.ensures c.in_order.ensures

pub returns-in-Equal : goal.returns-in-Equal
returns-in-Equal c =
    ap (λ (b : BinaryCode). binary_of b c.args.left.now c.args.right.now) c.in-Equal.is
    ∙ ap boolean (equal_is c.args.left.now c.args.right.now c.same.result c.same.ensures)

pub returns-in-NotEqual : goal.returns-in-NotEqual
returns-in-NotEqual c =
    ap (λ (b : BinaryCode). binary_of b c.args.left.now c.args.right.now) c.in-NotEqual.is
    ∙ ap (λ b. boolean (not b)) (equal_is c.args.left.now c.args.right.now c.same-in-NotEqual.result c.same-in-NotEqual.ensures)
