use Rattle.std.specs.Prelude.{Some, None}
use Rattle.expr_parser.specs.Rules.{done}
use Rattle.spl_tree.specs.declared.symbol.Symbol.TheVariants as S
use Rattle.spl_tree.specs.declared.unit.CompositeParameter.{CompositeParameter}
use Rattle.spl_tree.specs.Trees.{Expr, TypeExpr}
use Rattle.statement_parser.proofs.Readings.{finished, reads, taken, skipped, fails}
use Rattle.statement_parser.proofs.StatementReadings.{part_read, part_fails}
use Rattle.statement_parser.proofs.TypeReadings.{goes}
use Rattle.statement_parser.specs.Lines as lines
use Rattle.statement_parser.specs.Lines.{Name, R, expect, expression_before, parameter_with}
use Rattle.unit_parser.proofs.composites.defaulted.Goals as goal

-- the rule after the value
abbrev made : TypeExpr → Name → Expr → R CompositeParameter
made k n e = done (parameter_with k n (Some e))

pub returns-in_default : goal.returns-in_default
unfolding lines.rule
returns-in_default c =
    goes (lines.Default c.args.kind c.args.name) c.args.ts.now c.args.ts.now (expect S.Semicolon (done (parameter_with c.args.kind c.args.name None))) c.closed.result
    (λ o q. reads (skipped c.in_default.ensures q)) c.closed.ensures

pub returns-in_err-value : goal.returns-in_err-value
unfolding lines.rule
returns-in_err-value c =
    fails (lines.Default c.args.kind c.args.name) c.args.ts.now c.in-Some.behind.now _ c.from_residual.result c.in_err-value.field-0.0 c.from_residual.ensures.1
    (λ o q. reads (taken c.in-Some.ensures q))
    (part_fails (expression_before S.Semicolon) (made c.args.kind c.args.name) _ _ c.in_err-value.ensures)

pub returns : goal.returns
unfolding lines.rule
returns c = reads (taken c.in-Some.ensures (part_read (expression_before S.Semicolon) (made c.args.kind c.args.name) c.in_ok-value.ensures finished))
