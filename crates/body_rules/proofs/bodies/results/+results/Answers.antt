use Rattle.std.proofs.Common.{ap, arith, sym, ◌∙◌, ◌≡◌, true}
use Rattle.std.specs.Prelude.{◌&&◌}
use Rattle.language_model.specs.BodyTypingLaws.{all_return, kind_returns}
use Rattle.language_model.proofs.BodyTypingLaws.{arms_return, if_returns}
use Rattle.body_rules.proofs.Ending.{last_below, returns_last}
use Rattle.spl_tree.proofs.StmtWeights.{arm_weight, arm_weights, block_weight, if_weight, statement_weight, statement_weights, weight}
use Rattle.body_rules.proofs.bodies.results.+results.Goals as goal
use Rattle.spl_tree.proofs.ExprWeights.{item_below}

pub are_results-is_result-requires : goal.are_results-is_result-requires
are_results-is_result-requires t c =
    (let q = item_below arm_weight c.args.arms.now c.loop-arm.arm-index c.arm-item.result c.loop-arm-test.true c.arm-item.is in omega arith, tt)

pub ends_with_result-is_result-requires : goal.ends_with_result-is_result-requires
ends_with_result-is_result-requires t c =
    (let q = last_below statement_weight c.args.statements.now c.in-Some.field-0-1.now c.in-Some.last.now c.in-Some.ensures.cases.0 in omega arith, tt)

pub ends_with_result-returns-in-Some : goal.ends_with_result-returns-in-Some
ends_with_result-returns-in-Some t c =
    c.is_result.ensures ∙ sym (returns_last c.args.statements.now c.in-Some.field-0-1.now c.in-Some.last.now c.in-Some.ensures.cases.0)

pub is_result-ends_with_result-requires : goal.is_result-ends_with_result-requires
is_result-ends_with_result-requires t c =
    (let w = ap weight (sym c.get.ensures ∙ c.in-Block.is) ∙ block_weight c.in-Block.statements in let e = ap statement_weights c.as_slice.ensures in omega arith, tt)

pub is_result-are_results-requires : goal.is_result-are_results-requires
is_result-are_results-requires t c =
    (let w = ap weight (sym c.get.ensures ∙ c.in-If.is) ∙ if_weight c.in-If.arms c.in-If.other in let e = ap arm_weights c.as_slice-in-Some.ensures in omega arith, tt)

pub is_result-returns-then-are_results : goal.is_result-returns-then-are_results
is_result-returns-then-are_results t c =
    let all : all_return c.in-If.arms ≡ true = ap all_return (sym c.as_slice-in-Some.ensures) ∙ sym c.are_results.ensures ∙ c.if-are_results.true in
    c.is_result.ensures
    ∙ ap (λ b. b && kind_returns c.in-Some.other.what) (sym all)
    ∙ ap (arms_return c.in-If.arms) (sym c.in-Some.is)
    ∙ sym (if_returns c.in-If.arms c.in-If.other)
    ∙ ap kind_returns (sym c.in-If.is ∙ c.get.ensures)
