use Rattle.std.proofs.Common.{ap, sym, ◌∙◌}
use Rattle.spl_tree.specs.declared.expression.ExprKind.TheVariants as V
use Rattle.spl_tree.specs.declared.expression.ExprKind.TheViews.{out-ExprKind}
use Rattle.language_model.specs.Typing.{call_of}
use Rattle.language_model.specs.TypingLaws.{parts}
use Rattle.language_model.specs.StatementTyping.{level_call}
use Rattle.language_model.specs.parts.StatementTyping.{call_statement}
use Rattle.type_rules.proofs.statements.call_of.Goals as goal
use Rattle.language_model.proofs.FoundAnswers.{finds_by}

pub returns-in-Call : goal.returns-in-Call
returns-in-Call c =
    let at = c.args.call.now.at in
    let scope = c.args.scope.now in
    finds_by _ _ _
    (ap (λ k. level_call at scope (out-ExprKind k)) (sym c.get.ensures ∙ c.in-Call.is)
    ∙ ap (level_call at scope) (V.outs-Call c.in-Call.name c.in-Call.all)
    ∙ (λ i. call_statement at scope (sym c.as_slice.ensures i) (parts (sym c.as_slice-in-Call.ensures i)) (call_of (sym c.as_slice.ensures i))))
    c.call_statement.ensures
