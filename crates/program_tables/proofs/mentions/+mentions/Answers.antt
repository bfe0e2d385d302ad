use Rattle.std.proofs.Common.{◌∙◌, ◌++◌, ◌∷◌, ap, sym, arith, flat_map}
use Rattle.spl_tree.specs.Trees.{placed}
use Rattle.language_model.specs.Mentions.{expr_mentions, Called}
use Rattle.program_tables.specs.steps.MentionParts.{step_mentions}
use Rattle.program_tables.proofs.Adding.{adds_behind, both_behind}
use Rattle.program_tables.proofs.MentionLaws.{mentions, of_call, of_select, of_binary, of_conditional}
use Rattle.spl_tree.proofs.ExprWeights.{expr_weight, entry_weight, field_weight, step_weight, item_below}
use Rattle.program_tables.proofs.mentions.+mentions.Goals as goal

pub of_exprs-of_expr-requires : goal.of_exprs-of_expr-requires
of_exprs-of_expr-requires t c =
    (let q = item_below expr_weight c.args.exprs.now c.loop-expr.expr-index c.expr-item.result c.loop-expr-test.true c.expr-item.is in omega arith, tt)

pub of_entries-of_expr-requires : goal.of_entries-of_expr-requires
of_entries-of_expr-requires t c =
    (let q = item_below entry_weight c.args.entries.now c.loop-key.key-index c.loop-key-item.result c.loop-key-test.true c.loop-key-item.is in omega arith, tt)

pub of_entries-of_expr-requires-in-loop-key : goal.of_entries-of_expr-requires-in-loop-key
of_entries-of_expr-requires-in-loop-key t c =
    (let q = item_below entry_weight c.args.entries.now c.loop-key.key-index c.loop-key-item.result c.loop-key-test.true c.loop-key-item.is in omega arith, tt)

pub of_fields-of_expr-requires : goal.of_fields-of_expr-requires
of_fields-of_expr-requires t c =
    (let q = item_below field_weight c.args.fields.now c.loop-field.field-index c.field-item.result c.loop-field-test.true c.field-item.is in omega arith, tt)

pub of_steps-of_expr-requires : goal.of_steps-of_expr-requires
of_steps-of_expr-requires t c = (
  let q = item_below step_weight c.args.steps.now c.loop-step.step-index c.step-item.result c.loop-step-test.true c.step-item.is in
      let r = ap step_weight c.in-Index.is in omega arith,
  tt,
)

pub of_expr-returns-in_ok-add-in-Call : goal.of_expr-returns-in_ok-add-in-Call
of_expr-returns-in_ok-add-in-Call t c =
    adds_behind _ _ _ _ _ _ _ c.in_ok-add-in-Call.ensures c.of_exprs.ensures
    (ap (λ k. mentions k c.args.expr.now.at) (sym c.get.ensures ∙ c.in-Call.is) ∙ of_call c.in-Call.name c.in-Call.arguments c.args.expr.now.at
    ∙ ap (λ es. placed c.args.expr.now.at (Called c.in-Call.name) ∷ flat_map expr_mentions es) (sym c.as_slice.ensures))

pub of_expr-returns-in_ok-of_expr-in-Select : goal.of_expr-returns-in_ok-of_expr-in-Select
of_expr-returns-in_ok-of_expr-in-Select t c =
    adds_behind _ _ _ _ _ _ _ c.in_ok-of_expr-in-Select.ensures c.of_steps.ensures
    (ap (λ k. mentions k c.args.expr.now.at) (sym c.get.ensures ∙ c.in-Select.is) ∙ of_select c.in-Select.base c.in-Select.steps c.args.expr.now.at
    ∙ ap (λ ss. expr_mentions c.in-Select.base ++ flat_map step_mentions ss) (sym c.as_slice-in-Select.ensures))

pub of_expr-returns-in_ok-of_expr-in-Binary : goal.of_expr-returns-in_ok-of_expr-in-Binary
of_expr-returns-in_ok-of_expr-in-Binary t c =
    adds_behind _ _ _ _ _ _ _ c.in_ok-of_expr-in-Binary.ensures c.of_expr-in-Binary-2.ensures
    (ap (λ k. mentions k c.args.expr.now.at) (sym c.get.ensures ∙ c.in-Binary.is) ∙ of_binary c.in-Binary.field-0 c.in-Binary.left c.in-Binary.right c.args.expr.now.at)

pub of_expr-returns-in_ok-of_expr-in-Conditional-2 : goal.of_expr-returns-in_ok-of_expr-in-Conditional-2
of_expr-returns-in_ok-of_expr-in-Conditional-2 t c =
    adds_behind _ _ _ _ _ _ _ (both_behind _ _ _ _ _ c.in_ok-of_expr-in-Conditional.ensures c.in_ok-of_expr-in-Conditional-2.ensures) c.of_expr-in-Conditional-3.ensures
    (ap (λ k. mentions k c.args.expr.now.at) (sym c.get.ensures ∙ c.in-Conditional.is)
    ∙ of_conditional c.in-Conditional.condition c.in-Conditional.first c.in-Conditional.second c.args.expr.now.at)
