use Rattle.std.proofs.Common.{[], ◌++◌, ap, sym, arith, ◌∙◌}
use Rattle.std.proofs.lemmas.Result.{IfOk-weaker}
use Rattle.std.specs.Prelude.{filter_map, flat_map}
use Rattle.std.specs.Option.{option_copied, option_map_or}
use Rattle.duplicate_rules.specs.steps.Earliest.{earliest_in}
use Rattle.duplicate_rules.specs.steps.Variables.{own_variable}
use Rattle.duplicate_rules.proofs.Best.{earliest_in-append, earliest_in-cons}
use Rattle.duplicate_rules.proofs.Rows.{row_on}
use Rattle.duplicate_rules.proofs.StatementSets.{inner, block_is, if_inner}
use Rattle.duplicate_rules.proofs.SetWeights.{statement_kind_weight, statement_weight, statement_weights, arm_weight, arm_weights, block_weight, if_weight}
use Rattle.duplicate_rules.proofs.declarations.statements.+statements.Goals as goal
use Rattle.spl_tree.proofs.ExprWeights.{item_below}

pub earliest_in_block-loop-statement-init : goal.earliest_in_block-loop-statement-init
earliest_in_block-loop-statement-init t c =
    let best = option_copied c.args.best in
    let statements = c.args.statements.now in
    let sets = flat_map (λ s. inner s.what) statements in
    ap (earliest_in best) (block_is statements)
    ∙ earliest_in-cons best (filter_map (λ s. own_variable s.what) statements) sets
    ∙ ap (λ o. earliest_in o sets) (sym c.in_ok-found.ensures)

pub earliest_in_block-loop-statement-preserved : goal.earliest_in_block-loop-statement-preserved
earliest_in_block-loop-statement-preserved t c =
    c.loop-statement.invariant
    ∙ row_on (λ s. inner s.what) c.args.statements.now c.loop-statement.statement-index (option_copied c.loop-statement.found) c.statement-item.result c.loop-statement-test.true c.statement-item.is (option_copied c.in_ok-found-2.found) c.in_ok-found-2.ensures

pub earliest_in_arms-loop-arm-preserved : goal.earliest_in_arms-loop-arm-preserved
earliest_in_arms-loop-arm-preserved t c =
    c.loop-arm.invariant
    ∙ row_on (λ a. inner a.1.what) c.args.arms.now c.loop-arm.arm-index (option_copied c.loop-arm.found) c.arm-item.result c.loop-arm-test.true c.arm-item.is (option_copied c.in_ok-found.found) c.in_ok-found.ensures

pub earliest_in_block-earliest_in_statement-requires : goal.earliest_in_block-earliest_in_statement-requires
earliest_in_block-earliest_in_statement-requires t c =
    (let q = item_below statement_weight c.args.statements.now c.loop-statement.statement-index c.statement-item.result c.loop-statement-test.true c.statement-item.is in omega arith, tt)

pub earliest_in_arms-earliest_in_statement-requires : goal.earliest_in_arms-earliest_in_statement-requires
earliest_in_arms-earliest_in_statement-requires t c =
    (let q = item_below arm_weight c.args.arms.now c.loop-arm.arm-index c.arm-item.result c.loop-arm-test.true c.arm-item.is in omega arith, tt)

pub earliest_in_statement-earliest_in_block-requires : goal.earliest_in_statement-earliest_in_block-requires
earliest_in_statement-earliest_in_block-requires t c =
    (let w = ap statement_kind_weight (sym c.get.ensures ∙ c.in-Block.is) ∙ block_weight c.in-Block.statements in let e = ap statement_weights c.as_slice.ensures in omega arith, tt)

pub earliest_in_statement-earliest_in_arms-requires : goal.earliest_in_statement-earliest_in_arms-requires
earliest_in_statement-earliest_in_arms-requires t c =
    (let w = ap statement_kind_weight (sym c.get.ensures ∙ c.in-If.is) ∙ if_weight c.in-If.arms c.in-If.other in let e = ap arm_weights c.as_slice-in-If.ensures in omega arith, tt)

pub earliest_in_statement-returns-in-None : goal.earliest_in_statement-returns-in-None
earliest_in_statement-returns-in-None t c =
    let best = option_copied c.args.best in
    let arms = flat_map (λ a. inner a.1.what) c.in-If.arms in
    c.in_ok-found-in-If.ensures
    ∙ ap (λ row. earliest_in best (flat_map (λ a. inner a.1.what) row)) c.as_slice-in-If.ensures
    ∙ sym (earliest_in-append best arms [])
    ∙ ap (λ o. earliest_in best (arms ++ option_map_or (λ s. inner s.what) o [])) (sym c.in-None.is)
    ∙ sym (ap (λ s. earliest_in best (inner s)) (sym c.get.ensures ∙ c.in-If.is) ∙ ap (earliest_in best) (if_inner c.in-If.arms c.in-If.other))

pub earliest_in_statement-returns-in-Some : goal.earliest_in_statement-returns-in-Some
earliest_in_statement-returns-in-Some t c =
    let best = option_copied c.args.best in
    let arms = flat_map (λ a. inner a.1.what) c.in-If.arms in
    IfOk-weaker c.earliest_in_statement.result _ _
    (λ found e.
    e ∙ ap (λ o. earliest_in o (inner c.in-Some.other.what)) (c.in_ok-found-in-If.ensures ∙ ap (λ row. earliest_in best (flat_map (λ a. inner a.1.what) row)) c.as_slice-in-If.ensures)
    ∙ sym (earliest_in-append best arms (inner c.in-Some.other.what))
    ∙ ap (λ o. earliest_in best (arms ++ option_map_or (λ s. inner s.what) o [])) (sym c.in-Some.is)
    ∙ sym (ap (λ s. earliest_in best (inner s)) (sym c.get.ensures ∙ c.in-If.is) ∙ ap (earliest_in best) (if_inner c.in-If.arms c.in-If.other)))
    c.earliest_in_statement.ensures
