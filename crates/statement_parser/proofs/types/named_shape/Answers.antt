use Rattle.std.proofs.Common.{[], ◌∷◌, ◌++◌, ◌∙◌, Err, ap, subst}
use Rattle.spl_tree.specs.declared.shape.ShapeKind.TheVariants as H
use Rattle.spl_tree.specs.Trees.{placed}
use Rattle.expr_parser.specs.Rules.{done, Took, Reads}
use Rattle.statement_parser.proofs.Readings.{finished, line_read, rule_fails, line_fails}
use Rattle.statement_parser.specs.Gives.{Gives}
use Rattle.statement_parser.specs.steps.Parts as part_rules
use Rattle.statement_parser.specs.Lines.{MoreAttributes, rule}
use Rattle.statement_parser.proofs.types.named_shape.Goals as goal

pub returns-in_err-all : goal.returns-in_err-all
returns-in_err-all c =
    rule_fails (part_rules.named_shape_rule c.args.at c.args.close c.args.first) _ c.args.ts.now c.args.ts.now _ c.in_err-all.field-0.0 c.from_residual-in_err-all.ensures.1 (λ o q. q)
    (line_fails _ (MoreAttributes c.args.close (c.args.first ∷ [])) (λ xs. done (placed c.args.at (H.Attributes xs))) _
    (subst (λ xs. Gives (MoreAttributes c.args.close xs) c.args.ts.now (Err c.in_err-all.field-0.0))
    (c.in_ok-push.ensures.ok ∙ ap (λ xs. xs ++ c.args.first ∷ []) c.new-all.ensures) c.in_err-all.ensures))

pub returns : goal.returns
returns c =
    line_read (subst (λ xs. Reads rule (MoreAttributes c.args.close xs) c.args.ts.now (Took c.in_ok-all.all c.in_ok-all.behind.now))
    (c.in_ok-push.ensures.ok ∙ ap (λ xs. xs ++ c.args.first ∷ []) c.new-all.ensures) c.in_ok-all.ensures) finished
