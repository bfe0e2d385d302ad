use Rattle.std.specs.Prelude.{List, Option}
use Rattle.expr_parser.specs.Rules.{done, call}
use Rattle.spl_tree.specs.declared.shape.Attribute.{Attribute}
use Rattle.spl_tree.specs.declared.unit.FunctionDefinition.{FunctionDefinition}
use Rattle.spl_tree.specs.Trees.{TypeExpr}
use Rattle.statement_parser.proofs.Readings.{finished, reads, line_read, fails, line_fails}
use Rattle.statement_parser.proofs.StatementReadings.{part_read, part_fails}
use Rattle.unit_parser.specs.steps.GivesParts.{signature}
use Rattle.statement_parser.specs.Lines as lines
use Rattle.statement_parser.specs.Lines.{Name, R}
use Rattle.unit_parser.proofs.units.function.Goals as goal

-- the rule after the name and the parameters
abbrev bodied : Option TypeExpr → Name × List (Attribute TypeExpr) → R FunctionDefinition
bodied k h = call lines.Block (λ ss. done (record { result = k; name = h.0; parameters = h.1; body = ss }))

pub returns-in_err-name : goal.returns-in_err-name
unfolding lines.rule
returns-in_err-name c =
    fails (lines.FunctionOf c.args.kind) c.args.ts.now c.args.ts.now _ c.from_residual.result c.in_err-name.field-0.0 c.from_residual.ensures.1
    (λ o q. reads q)
    (part_fails signature (bodied c.args.kind) _ _ c.in_err-name.ensures)

pub returns-in_err-body : goal.returns-in_err-body
unfolding lines.rule
returns-in_err-body c =
    fails (lines.FunctionOf c.args.kind) c.args.ts.now c.in_ok-name.behind.now _ c.from_residual-in_err-body.result c.in_err-body.field-0.0 c.from_residual-in_err-body.ensures.1
    (λ o q. reads (part_read signature (bodied c.args.kind) c.in_ok-name.ensures q))
    (line_fails _ lines.Block _ _ c.in_err-body.ensures)

pub returns : goal.returns
unfolding lines.rule
returns c = reads (part_read signature (bodied c.args.kind) c.in_ok-name.ensures (line_read c.in_ok-body.ensures finished))
