use Rattle.std.proofs.Common.{◌∙◌, ◌+◌, ◌∷◌, ◌++◌, [], Ok, Err, true, false, ap, arith, drop, refl, subst, sym}
use Rattle.spl_tree.specs.declared.body.Statement.TheVariants as T
use Rattle.spl_tree.specs.declared.statement.StmtKind.TheVariants as V
use Rattle.language_model.specs.BodyFits.{with_variable}
use Rattle.language_model.specs.BodyTyping.{alone, return_typing, submit_typing, variable}
use Rattle.language_model.specs.parts.BodyTyping.{assigned, for_typing, other_typing, over_typing, stated}
use Rattle.language_model.specs.BodyTypingLaws.{arms_stated, other_stated, row_stated}
use Rattle.language_model.proofs.BodyTypingLaws.{assign_stated, block_stated, call_stated, declare_stated, for_stated, if_stated, kind_stated, return_stated, submit_stated, while_stated}
use Rattle.language_model.specs.StatementTyping.{call_typing}
use Rattle.language_model.specs.Typing.{after}
use Rattle.language_model.specs.Finds.{Finds, with_front}
use Rattle.body_rules.specs.steps.Choices.{block_typing, if_typing, while_typing}
use Rattle.body_rules.specs.steps.Leads.{shortened}
use Rattle.body_rules.specs.Settings.{purpose_meant, setting_meant}
use Rattle.type_rules.proofs.FoundRows.{row_on, row_past, row_stops}
use Rattle.body_rules.proofs.BodyRows.{branch, branch_row, branches_row, statements_on, statements_past, statements_stop}
use Rattle.body_rules.proofs.StatementLeads.{alone_stops, leads_by, leads_on}
use Rattle.body_rules.proofs.Lengths.{one_more, still, whole}
use Rattle.body_rules.proofs.Stopping.{branch_stops, other_stops, over_stops, repeated_stops, while_stops}
use Rattle.spl_tree.proofs.StmtWeights.{arm_weight, arm_weights, block_weight, for_weight, if_weight, statement_weight, statement_weights, weight, while_weight}
use Rattle.body_rules.proofs.bodies.+bodies.Goals as goal
use Rattle.language_model.proofs.FoundAnswers.{fails, finds_by, goes, no_front, stops}
use Rattle.spl_tree.proofs.ExprWeights.{item_below}

pub row-returns-clause-same_scope : goal.row-returns-clause-same_scope
row-returns-clause-same_scope t c =
    c.drop_variables.ensures ∙ ap (λ n. shortened n c.statements_of-body.new.scope) c.len-before.ensures ∙ c.statements_of-body.ensures.longer

pub statements_of-loop-statement-init : goal.statements_of-loop-statement-init
statements_of-loop-statement-init t c =
    record { same = no_front c.new-body.result _ c.new-body.ensures; longer = whole c.args.scope.now }

pub statements_of-statement_of-requires : goal.statements_of-statement_of-requires
statements_of-statement_of-requires t c =
    (let q = item_below statement_weight c.args.statements.now c.loop-statement.statement-index c.statement-item.result c.loop-statement-test.true c.statement-item.is in omega arith, tt)

pub statements_of-returns-in_err-next-clause-code : goal.statements_of-returns-in_err-next-clause-code
statements_of-returns-in_err-next-clause-code t c =
    finds_by _ _ _ c.loop-statement.invariant.same
    (fails _ _ _ c.from_residual.ensures.1
    (statements_stop (setting_meant c.args.setting.now) c.args.inside c.args.statements.now c.loop-statement.statement-index c.loop-statement.body c.loop-statement.scope c.statement-item.result c.loop-statement-test.true c.statement-item.is _ c.statement_of.new.scope c.in_err-next.ensures.code))

pub statements_of-returns-in_err-next-clause-longer : goal.statements_of-returns-in_err-next-clause-longer
statements_of-returns-in_err-next-clause-longer t c =
    still c.args.scope.now c.loop-statement.scope c.statement_of.new.scope c.loop-statement.invariant.longer c.in_err-next.ensures.longer

pub statements_of-returns-in_err-push-clause-longer : goal.statements_of-returns-in_err-push-clause-longer
statements_of-returns-in_err-push-clause-longer t c =
    still c.args.scope.now c.loop-statement.scope c.statement_of.new.scope c.loop-statement.invariant.longer c.in_ok-next.ensures.longer

pub statements_of-loop-statement-preserved : goal.statements_of-loop-statement-preserved
statements_of-loop-statement-preserved t c =
    let on = c.loop-statement.invariant in
    record {
      same = on.same ∙ statements_on (setting_meant c.args.setting.now) c.args.inside c.args.statements.now c.loop-statement.statement-index c.loop-statement.body c.loop-statement.scope c.statement-item.result c.loop-statement-test.true c.statement-item.is c.in_ok-next.next c.statement_of.new.scope c.push.new.self c.in_ok-next.ensures.code c.in_ok-push.ensures.ok;
      longer = still c.args.scope.now c.loop-statement.scope c.statement_of.new.scope on.longer c.in_ok-next.ensures.longer;
    }

pub statements_of-returns-clause-code : goal.statements_of-returns-clause-code
statements_of-returns-clause-code t c =
    c.loop-statement.invariant.same ∙ statements_past (setting_meant c.args.setting.now) c.args.inside c.args.statements.now c.loop-statement.statement-index c.loop-statement.body c.loop-statement.scope c.loop-statement-test.false

pub alone-returns-in_err-only-clause-code : goal.alone-returns-in_err-only-clause-code
alone-returns-in_err-only-clause-code t c =
    fails _ _ _ c.from_residual.ensures.1
    (alone_stops c.args.statement.now (setting_meant c.args.setting.now) c.args.inside c.args.scope.now c.statement_of-answer.new.scope _ c.in_err-only.ensures.code)

pub alone-returns-in_err-only-clause-same_scope : goal.alone-returns-in_err-only-clause-same_scope
alone-returns-in_err-only-clause-same_scope t c =
    c.drop_variables.ensures ∙ ap (λ n. shortened n c.statement_of-answer.new.scope) c.len-before.ensures ∙ c.statement_of-answer.ensures.longer

pub alone-returns-in_err-push-clause-same_scope : goal.alone-returns-in_err-push-clause-same_scope
alone-returns-in_err-push-clause-same_scope t c =
    c.drop_variables.ensures ∙ ap (λ n. shortened n c.statement_of-answer.new.scope) c.len-before.ensures ∙ c.statement_of-answer.ensures.longer

pub alone-returns-clause-code : goal.alone-returns-clause-code
alone-returns-clause-code t c =
    ap (λ o. after o (λ x. Ok (x.0 ∷ []))) c.in_ok-only.ensures.code
    ∙ ap Ok (sym (c.in_ok-push.ensures.ok ∙ ap (λ body. body ++ c.in_ok-only.only ∷ []) c.new-body.ensures))

pub alone-returns-clause-same_scope : goal.alone-returns-clause-same_scope
alone-returns-clause-same_scope t c =
    c.drop_variables.ensures ∙ ap (λ n. shortened n c.statement_of-answer.new.scope) c.len-before.ensures ∙ c.statement_of-answer.ensures.longer

pub branches-loop-arm-init : goal.branches-loop-arm-init
branches-loop-arm-init t c =
    record { same = no_front c.new-branches.result _ c.new-branches.ensures; kept = refl }

pub branches-alone-requires : goal.branches-alone-requires
branches-alone-requires t c =
    (let q = item_below arm_weight c.args.arms.now c.loop-arm.arm-index c.arm-item.result c.loop-arm-test.true c.arm-item.is in omega arith, tt)

pub branches-returns-in_err-code-clause-code : goal.branches-returns-in_err-code-clause-code
branches-returns-in_err-code-clause-code t c =
    finds_by _ _ _ c.loop-arm.invariant.same
    (fails _ _ _ c.from_residual.ensures.1
    (row_stops (branch (setting_meant c.args.setting.now) c.args.inside c.loop-arm.scope) (branch_row (setting_meant c.args.setting.now) c.args.inside c.loop-arm.scope) (branches_row (setting_meant c.args.setting.now) c.args.inside c.loop-arm.scope) c.args.arms.now c.loop-arm.arm-index c.loop-arm.branches c.arm-item.result c.loop-arm-test.true c.arm-item.is _ (stops _ _ _ c.in_err-code.ensures)))

pub branches-returns-in_err-body-clause-code : goal.branches-returns-in_err-body-clause-code
branches-returns-in_err-body-clause-code t c =
    let a = c.arm-item.result in
    finds_by _ _ _ c.loop-arm.invariant.same
    (fails _ _ _ c.from_residual-in_err-body.ensures.1
    (row_stops (branch (setting_meant c.args.setting.now) c.args.inside c.loop-arm.scope) (branch_row (setting_meant c.args.setting.now) c.args.inside c.loop-arm.scope) (branches_row (setting_meant c.args.setting.now) c.args.inside c.loop-arm.scope) c.args.arms.now c.loop-arm.arm-index c.loop-arm.branches c.arm-item.result c.loop-arm-test.true c.arm-item.is c.in_err-body.field-0.0
    (branch_stops (setting_meant c.args.setting.now) c.args.inside c.loop-arm.scope a c.in_ok-code.code c.in_err-body.field-0.0 c.in_ok-code.ensures c.in_err-body.ensures.code)))

pub branches-loop-arm-preserved : goal.branches-loop-arm-preserved
branches-loop-arm-preserved t c =
    record {
      same = c.loop-arm.invariant.same
          ∙ row_on (branch (setting_meant c.args.setting.now) c.args.inside c.loop-arm.scope) (branch_row (setting_meant c.args.setting.now) c.args.inside c.loop-arm.scope) (branches_row (setting_meant c.args.setting.now) c.args.inside c.loop-arm.scope) c.args.arms.now c.loop-arm.arm-index c.loop-arm.branches c.arm-item.result c.loop-arm-test.true c.arm-item.is (c.in_ok-code.code, c.in_ok-body.body) c.push_branch.new.branches
          (ap (λ o. after o (λ code. after (alone (setting_meant c.args.setting.now) c.args.inside c.loop-arm.scope (stated c.arm-item.result.1)) (λ row. Ok (code, row)))) c.in_ok-code.ensures
          ∙ ap (λ o. after o (λ row. Ok (c.in_ok-code.code, row))) c.in_ok-body.ensures.code)
          c.in_ok-push_branch.ensures.ok
          ∙ ap (λ s. with_front c.push_branch.new.branches (branch_row (setting_meant c.args.setting.now) c.args.inside s (drop (c.loop-arm.arm-index + 1) c.args.arms.now))) (sym c.in_ok-body.ensures.same_scope);
      kept = c.in_ok-body.ensures.same_scope ∙ c.loop-arm.invariant.kept;
    }

pub branches-returns-clause-code : goal.branches-returns-clause-code
branches-returns-clause-code t c =
    c.loop-arm.invariant.same ∙ row_past (branch (setting_meant c.args.setting.now) c.args.inside c.loop-arm.scope) (branch_row (setting_meant c.args.setting.now) c.args.inside c.loop-arm.scope) (branches_row (setting_meant c.args.setting.now) c.args.inside c.loop-arm.scope) c.args.arms.now c.loop-arm.arm-index c.loop-arm.branches c.loop-arm-test.false

pub for_each-returns-in_err-kind-clause-code : goal.for_each-returns-in_err-kind-clause-code
for_each-returns-in_err-kind-clause-code t c =
    fails _ _ _ c.from_residual.ensures.1 (stops _ _ _ c.in_err-kind.ensures)

pub for_each-returns-in_err-code-clause-code : goal.for_each-returns-in_err-code-clause-code
for_each-returns-in_err-code-clause-code t c =
    fails _ _ _ c.from_residual-in_err-code.ensures.1
    (over_stops (setting_meant c.args.setting.now) c.args.scope.now c.args.variable.now c.args.values.now (stated c.args.body.now) c.in_ok-kind.kind c.in_err-code.field-0.0 c.in_ok-kind.ensures
    (subst (λ t. Finds (over_typing c.args.scope.now t c.args.values.now) (Err c.in_err-code.field-0.0)) c.get.ensures c.in_err-code.ensures))

pub for_each-returns-in_err-row-clause-code : goal.for_each-returns-in_err-row-clause-code
for_each-returns-in_err-row-clause-code t c =
    fails _ _ _ c.from_residual-in_err-row.ensures.1
    (repeated_stops (setting_meant c.args.setting.now) c.args.scope.now c.args.variable.now c.args.values.now (stated c.args.body.now) c.in_ok-kind.kind c.in_ok-code.code c.in_err-row.field-0.0
    c.in_ok-kind.ensures (ap (λ t. over_typing c.args.scope.now t c.args.values.now) (sym c.get.ensures) ∙ c.in_ok-code.ensures)
    (subst (λ s. Finds (alone (setting_meant c.args.setting.now) true s (stated c.args.body.now)) (Err c.in_err-row.field-0.0)) c.in_ok-add_variable.ensures.ok c.in_err-row.ensures.code))

pub for_each-returns-clause-code : goal.for_each-returns-clause-code
for_each-returns-clause-code t c =
    let v = variable false c.args.variable.now.name.what c.in_ok-kind.kind in
    let whole_row = ap (λ s. alone (setting_meant c.args.setting.now) true s (stated c.args.body.now)) (sym c.in_ok-add_variable.ensures.ok) ∙ c.in_ok-row.ensures.code in
    goes _ _ _ (Ok (T.For c.into_inner.result c.in_ok-row.row)) c.in_ok-kind.ensures
    (goes _ _ _ (Ok (T.For c.into_inner.result c.in_ok-row.row)) (ap (λ t. over_typing c.args.scope.now t c.args.values.now) (sym c.get.ensures) ∙ c.in_ok-code.ensures)
    (goes (alone (setting_meant c.args.setting.now) true (with_variable c.args.scope.now v) (stated c.args.body.now)) (λ row. Ok (T.For c.in_ok-code.code row)) c.in_ok-row.row (Ok (T.For c.into_inner.result c.in_ok-row.row)) whole_row
    (ap (λ code. Ok (T.For code c.in_ok-row.row)) (sym c.into_inner.ensures))))

pub for_each-returns-in_err-row-clause-same_scope : goal.for_each-returns-in_err-row-clause-same_scope
for_each-returns-in_err-row-clause-same_scope t c =
    let v = variable false c.args.variable.now.name.what c.in_ok-kind.kind in
    c.drop_variables.ensures
    ∙ ap (shortened c.len-before.result) (c.alone-answer.ensures.same_scope ∙ c.in_ok-add_variable.ensures.ok)
    ∙ ap (λ n. shortened n (with_variable c.args.scope.now v)) c.len-before.ensures
    ∙ one_more c.args.scope.now v

pub for_each-returns-clause-same_scope : goal.for_each-returns-clause-same_scope
for_each-returns-clause-same_scope t c =
    let v = variable false c.args.variable.now.name.what c.in_ok-kind.kind in
    c.drop_variables.ensures
    ∙ ap (shortened c.len-before.result) (c.alone-answer.ensures.same_scope ∙ c.in_ok-add_variable.ensures.ok)
    ∙ ap (λ n. shortened n (with_variable c.args.scope.now v)) c.len-before.ensures
    ∙ one_more c.args.scope.now v

pub choice-returns-in_err-branches-clause-code : goal.choice-returns-in_err-branches-clause-code
choice-returns-in_err-branches-clause-code t c =
    fails _ _ _ c.from_residual.ensures.1 (stops _ _ _ c.in_err-branches.ensures.code)

pub choice-returns-in_err-other-clause-code : goal.choice-returns-in_err-other-clause-code
choice-returns-in_err-other-clause-code t c =
    fails _ _ _ c.from_residual-in_err-other.ensures.1
    (other_stops (setting_meant c.args.setting.now) c.args.inside c.args.scope.now c.args.arms.now c.args.other.now c.in_ok-branches.branches c.in_err-other.field-0.0 c.in_ok-branches.ensures.code
    (subst (λ s. Finds (other_typing (setting_meant c.args.setting.now) c.args.inside s (other_stated c.args.other.now)) (Err c.in_err-other.field-0.0)) c.in_ok-branches.ensures.same_scope c.in_err-other.ensures.code))

pub choice-returns-clause-code : goal.choice-returns-clause-code
choice-returns-clause-code t c =
    goes _ _ _ (Ok (T.If c.in_ok-branches.branches c.in_ok-other.other)) c.in_ok-branches.ensures.code
    (goes _ (λ row. Ok (T.If c.in_ok-branches.branches row)) _ (Ok (T.If c.in_ok-branches.branches c.in_ok-other.other)) (ap (λ s. other_typing (setting_meant c.args.setting.now) c.args.inside s (other_stated c.args.other.now)) (sym c.in_ok-branches.ensures.same_scope) ∙ c.in_ok-other.ensures.code) refl)

pub repeated-returns-in_err-code-clause-code : goal.repeated-returns-in_err-code-clause-code
repeated-returns-in_err-code-clause-code t c =
    fails _ _ _ c.from_residual.ensures.1 (stops _ _ _ c.in_err-code.ensures)

pub repeated-returns-in_err-row-clause-code : goal.repeated-returns-in_err-row-clause-code
repeated-returns-in_err-row-clause-code t c =
    fails _ _ _ c.from_residual-in_err-row.ensures.1
    (while_stops (setting_meant c.args.setting.now) c.args.scope.now c.args.test.now c.args.statement.now c.in_ok-code.code c.in_err-row.field-0.0 c.in_ok-code.ensures c.in_err-row.ensures.code)

pub repeated-returns-clause-code : goal.repeated-returns-clause-code
repeated-returns-clause-code t c =
    goes _ _ _ (Ok (T.While c.into_inner.result c.in_ok-row.row)) c.in_ok-code.ensures
    (goes _ (λ row. Ok (T.While c.in_ok-code.code row)) _ (Ok (T.While c.into_inner.result c.in_ok-row.row)) c.in_ok-row.ensures.code
    (ap (λ code. Ok (T.While code c.in_ok-row.row)) (sym c.into_inner.ensures)))

pub statement_of-block-requires : goal.statement_of-block-requires
statement_of-block-requires t c =
    (let w = ap weight (sym c.get.ensures ∙ c.in-Block.is) ∙ block_weight c.in-Block.statements in let e = ap statement_weights c.as_slice.ensures in omega arith, tt)

pub statement_of-choice-requires : goal.statement_of-choice-requires
statement_of-choice-requires t c =
    (let w = ap weight (sym c.get.ensures ∙ c.in-If.is) ∙ if_weight c.in-If.arms c.in-If.other in let e = ap arm_weights c.as_slice-in-If.ensures in omega arith, tt)

pub statement_of-repeated-requires : goal.statement_of-repeated-requires
statement_of-repeated-requires t c =
    (let w = ap weight (sym c.get.ensures ∙ c.in-While.is) ∙ while_weight c.in-While.test c.in-While.body in omega arith, tt)

pub statement_of-for_each-requires : goal.statement_of-for_each-requires
statement_of-for_each-requires t c =
    (let w = ap weight (sym c.get.ensures ∙ c.in-For.is) ∙ for_weight c.in-For.variable c.in-For.values c.in-For.body in omega arith, tt)

pub statement_of-returns-in-Block-clause-code : goal.statement_of-returns-in-Block-clause-code
statement_of-returns-in-Block-clause-code t c =
    leads_on c.args.statement.now (V.Block c.in-Block.statements) (setting_meant c.args.setting.now) c.args.inside c.args.scope.now c.block.new.scope (block_typing (setting_meant c.args.setting.now) c.args.inside c.args.scope.now (row_stated c.in-Block.statements)) (sym c.get.ensures ∙ c.in-Block.is) (block_stated c.in-Block.statements c.args.statement.now.at (setting_meant c.args.setting.now) c.args.inside c.args.scope.now) _
    (finds_by _ _ _ (ap (λ ss. block_typing (setting_meant c.args.setting.now) c.args.inside c.args.scope.now (row_stated ss)) (sym c.as_slice.ensures)) c.block.ensures.code) c.block.ensures.same_scope

pub statement_of-returns-in-Declare-clause-code : goal.statement_of-returns-in-Declare-clause-code
statement_of-returns-in-Declare-clause-code t c =
    leads_by _ _ _ _ (ap (λ k. kind_stated k c.args.statement.now.at (setting_meant c.args.setting.now) c.args.inside c.args.scope.now) (sym c.get.ensures ∙ c.in-Declare.is) ∙ declare_stated c.in-Declare.declaration c.args.statement.now.at (setting_meant c.args.setting.now) c.args.inside c.args.scope.now) c.declared.ensures.code

pub statement_of-returns-in-Assign-clause-code : goal.statement_of-returns-in-Assign-clause-code
statement_of-returns-in-Assign-clause-code t c =
    leads_on c.args.statement.now (V.Assign c.in-Assign.place c.in-Assign.operator c.in-Assign.value) (setting_meant c.args.setting.now) c.args.inside c.args.scope.now c.args.scope.now (assigned c.args.scope.now c.in-Assign.place c.in-Assign.operator c.in-Assign.value) (sym c.get.ensures ∙ c.in-Assign.is) (assign_stated c.in-Assign.place c.in-Assign.operator c.in-Assign.value c.args.statement.now.at (setting_meant c.args.setting.now) c.args.inside c.args.scope.now) _ c.assigned.ensures refl

pub statement_of-returns-in-Assign-clause-longer : goal.statement_of-returns-in-Assign-clause-longer
statement_of-returns-in-Assign-clause-longer t c =
    whole c.args.scope.now

pub statement_of-returns-in-Call-clause-code : goal.statement_of-returns-in-Call-clause-code
statement_of-returns-in-Call-clause-code t c =
    leads_on c.args.statement.now (V.Call c.in-Call.call) (setting_meant c.args.setting.now) c.args.inside c.args.scope.now c.args.scope.now (call_typing c.args.scope.now c.in-Call.call) (sym c.get.ensures ∙ c.in-Call.is) (call_stated c.in-Call.call c.args.statement.now.at (setting_meant c.args.setting.now) c.args.inside c.args.scope.now) _ c.call_of.ensures refl

pub statement_of-returns-in-If-clause-code : goal.statement_of-returns-in-If-clause-code
statement_of-returns-in-If-clause-code t c =
    leads_on c.args.statement.now (V.If c.in-If.arms c.in-If.other) (setting_meant c.args.setting.now) c.args.inside c.args.scope.now c.choice.new.scope (if_typing (setting_meant c.args.setting.now) c.args.inside c.args.scope.now (arms_stated c.in-If.arms) (other_stated c.in-If.other)) (sym c.get.ensures ∙ c.in-If.is) (if_stated c.in-If.arms c.in-If.other c.args.statement.now.at (setting_meant c.args.setting.now) c.args.inside c.args.scope.now) _
    (finds_by _ _ _ (ap (λ arms. if_typing (setting_meant c.args.setting.now) c.args.inside c.args.scope.now (arms_stated arms) (other_stated c.in-If.other)) (sym c.as_slice-in-If.ensures)) c.choice.ensures.code) c.choice.ensures.same_scope

pub statement_of-returns-in-While-clause-code : goal.statement_of-returns-in-While-clause-code
statement_of-returns-in-While-clause-code t c =
    leads_on c.args.statement.now (V.While c.in-While.test c.in-While.body) (setting_meant c.args.setting.now) c.args.inside c.args.scope.now c.repeated.new.scope (while_typing (setting_meant c.args.setting.now) c.args.scope.now c.in-While.test (stated c.in-While.body)) (sym c.get.ensures ∙ c.in-While.is) (while_stated c.in-While.test c.in-While.body c.args.statement.now.at (setting_meant c.args.setting.now) c.args.inside c.args.scope.now) _
    c.repeated.ensures.code c.repeated.ensures.same_scope

pub statement_of-returns-in-For-clause-code : goal.statement_of-returns-in-For-clause-code
statement_of-returns-in-For-clause-code t c =
    leads_on c.args.statement.now (V.For c.in-For.variable c.in-For.values c.in-For.body) (setting_meant c.args.setting.now) c.args.inside c.args.scope.now c.for_each.new.scope (for_typing (setting_meant c.args.setting.now) c.args.scope.now c.in-For.variable c.in-For.values (stated c.in-For.body)) (sym c.get.ensures ∙ c.in-For.is) (for_stated c.in-For.variable c.in-For.values c.in-For.body c.args.statement.now.at (setting_meant c.args.setting.now) c.args.inside c.args.scope.now) _ c.for_each.ensures.code c.for_each.ensures.same_scope

pub statement_of-returns-in-Return-clause-code : goal.statement_of-returns-in-Return-clause-code
statement_of-returns-in-Return-clause-code t c =
    leads_on c.args.statement.now (V.Return c.in-Return.value) (setting_meant c.args.setting.now) c.args.inside c.args.scope.now c.args.scope.now (return_typing c.args.statement.now.at (purpose_meant c.args.setting.now.purpose) c.args.scope.now c.in-Return.value) (sym c.get.ensures ∙ c.in-Return.is) (return_stated c.in-Return.value c.args.statement.now.at (setting_meant c.args.setting.now) c.args.inside c.args.scope.now) _
    (finds_by _ _ _ (ap (return_typing c.args.statement.now.at (purpose_meant c.args.setting.now.purpose) c.args.scope.now) (sym c.as_ref.ensures.value)) c.returned.ensures) refl

pub statement_of-returns-in-Submit-clause-code : goal.statement_of-returns-in-Submit-clause-code
statement_of-returns-in-Submit-clause-code t c =
    leads_on c.args.statement.now (V.Submit c.in-Submit.value c.in-Submit.stream) (setting_meant c.args.setting.now) c.args.inside c.args.scope.now c.args.scope.now (submit_typing c.args.statement.now.at (setting_meant c.args.setting.now) (purpose_meant c.args.setting.now.purpose) c.args.scope.now c.in-Submit.value c.in-Submit.stream) (sym c.get.ensures ∙ c.in-Submit.is) (submit_stated c.in-Submit.value c.in-Submit.stream c.args.statement.now.at (setting_meant c.args.setting.now) c.args.inside c.args.scope.now) _ c.submitted.ensures refl
