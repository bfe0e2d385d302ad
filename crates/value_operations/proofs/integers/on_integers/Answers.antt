use Rattle.std.proofs.Common.{to_z}
use Rattle.std.specs.Int.{w128}
use Rattle.value_operations.proofs.Exact.{left_within, add_gives, subtract_gives, multiply_gives, divide_gives, remainder_gives, and_gives, xor_gives, or_gives}
use Rattle.value_operations.proofs.integers.on_integers.Goals as goal
use Rattle.value_operations.proofs.integers.on_integers.Goals.{in-Multiply, in-Divide+in_ok-exact-in-Divide, in-Remainder+in_ok-exact-in-Remainder, in-Add, in-Subtract, in-BitAnd, in-BitXor, in-BitOr}

pub quotient-requires : goal.quotient-requires
quotient-requires c = left_within c.args.kind c.args.left c.args.right c.requires.left_in c.requires.right_in

pub returns : goal.returns
returns c =
    let k = c.args.kind in
    let m = c.args.left in
    let n = c.args.right in
    let f = c.requires.left_in in
    let g = c.requires.right_in in
    let op = c.args.operator in
    let x = to_z w128 c.match-operator.exact-bits in
    let r = c.wrap.result in
    let e = c.wrap.ensures.value in
    elim c.match-operator.branch [
      | in-Multiply w ↦ multiply_gives k m n f g op x r e w.in-Multiply.is w.exact-is
      | in-Divide+in_ok-exact-in-Divide w ↦
          divide_gives k m n f g op x r e w.in_ok-exact-in-Divide.exact w.in-Divide.is w.in_ok-exact-in-Divide.ensures.0 w.in_ok-exact-in-Divide.ensures.1 w.exact-is
      | in-Remainder+in_ok-exact-in-Remainder w ↦
          remainder_gives k m n f g op x r e w.in_ok-exact-in-Remainder.exact w.in-Remainder.is w.in_ok-exact-in-Remainder.ensures.0 w.in_ok-exact-in-Remainder.ensures.1 w.exact-is
      | in-Add w ↦ add_gives k m n f g op x r e w.in-Add.is w.exact-is
      | in-Subtract w ↦ subtract_gives k m n f g op x r e w.in-Subtract.is w.exact-is
      | in-BitAnd w ↦ and_gives k m n f g op x r e w.in-BitAnd.is w.exact-is
      | in-BitXor w ↦ xor_gives k m n f g op x r e w.in-BitXor.is w.exact-is
      | in-BitOr w ↦ or_gives k m n f g op x r e w.in-BitOr.is w.exact-is
    ]
