use Rattle.expr_parser.specs.Rules.{done}
use Rattle.spl_tree.specs.declared.shape.Attribute.{Attribute}
use Rattle.spl_tree.specs.Trees.{TypeExpr}
use Rattle.statement_parser.specs.steps.Parts as part_rules
use Rattle.statement_parser.specs.Lines.{Name, R}
use Rattle.statement_parser.proofs.Readings.{finished, name_passed, rule_fails, name_fails}
use Rattle.statement_parser.proofs.types.named_attribute.Goals as goal

-- the rule after the name
abbrev named : TypeExpr → Name → R (Attribute TypeExpr)
named k n = done (record { kind = k; name = n })

pub returns-in_err-name : goal.returns-in_err-name
returns-in_err-name c =
    rule_fails (part_rules.named_attribute_rule c.args.kind) _ c.args.ts.now c.args.ts.now _ c.in_err-name.field-0.0 c.from_residual.ensures.1 (λ o q. q)
    (name_fails _ (named c.args.kind) _ c.in_err-name.ensures)

pub returns : goal.returns
returns c = name_passed (named c.args.kind) c.in_ok-name.ensures finished
