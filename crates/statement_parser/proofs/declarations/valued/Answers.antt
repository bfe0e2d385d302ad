use Rattle.std.specs.Prelude.{Bool, Some, None}
use Rattle.spl_tree.specs.declared.statement.Declaration.{Declaration}
use Rattle.spl_tree.specs.declared.symbol.Symbol.TheVariants as S
use Rattle.spl_tree.specs.declared.token.Token.{Token}
use Rattle.spl_tree.specs.Trees.{Expr, TypeExpr}
use Rattle.std.proofs.Common.{List}
use Rattle.expr_parser.specs.Rules.{done, RuleResult, RunsTo, Reads}
use Rattle.statement_parser.proofs.Readings.{finished, reads, taken, skipped, fails}
use Rattle.statement_parser.proofs.StatementReadings.{part_read, part_fails}
use Rattle.statement_parser.proofs.TypeReadings.{goes}
use Rattle.statement_parser.specs.Lines as lines
use Rattle.statement_parser.specs.Lines.{Name, R, Valued, declared, expect, rule, valued_rule}
use Rattle.statement_parser.proofs.declarations.valued.Goals as goal

valued_read : {m : Bool} {k : TypeExpr} {n : Name} {ts : List Token} {o : RuleResult Declaration} → RunsTo rule (valued_rule m k n) ts o → Reads rule (Valued m k n) ts o
unfolding rule
valued_read r = reads r

-- the rule after the value
abbrev made : Bool → TypeExpr → Name → Expr → R Declaration
made m k n e = done (declared m k n (Some e))

pub returns-in_default : goal.returns-in_default
returns-in_default c =
    goes (Valued c.args.mutable c.args.kind c.args.name) c.args.ts.now c.args.ts.now
    (expect S.Semicolon (done (declared c.args.mutable c.args.kind c.args.name None))) c.closed.result
    (λ o q. valued_read (skipped c.in_default.ensures q)) c.closed.ensures

pub returns-in_err-value : goal.returns-in_err-value
returns-in_err-value c =
    fails (Valued c.args.mutable c.args.kind c.args.name) c.args.ts.now c.in-Some.behind.now _ c.from_residual.result c.in_err-value.field-0.0 c.from_residual.ensures.1
    (λ o q. valued_read (taken c.in-Some.ensures q))
    (part_fails (lines.expression_before S.Semicolon) (made c.args.mutable c.args.kind c.args.name) _ _ c.in_err-value.ensures)

pub returns : goal.returns
returns c =
    valued_read (taken c.in-Some.ensures
    (part_read (lines.expression_before S.Semicolon) (made c.args.mutable c.args.kind c.args.name) c.in_ok-value.ensures finished))
