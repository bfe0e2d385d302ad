use Rattle.spl_tree.specs.declared.symbol.Symbol.TheVariants as S
use Rattle.spl_tree.specs.declared.unit.CompositeParameter.{CompositeParameter}
use Rattle.spl_tree.specs.Trees.{TypeExpr}
use Rattle.expr_parser.specs.Rules.{done, stop, look, call, RunsTo, Reads}
use Rattle.statement_parser.proofs.Readings.{dollar_passed, says_on, rule_fails, dollar_fails}
use Rattle.statement_parser.proofs.StatementReadings.{part_read, part_fails}
use Rattle.unit_parser.specs.steps.GivesParts.{composite_parameter}
use Rattle.statement_parser.specs.Lines.{Name, R, Default, is_dollar, dollar_at, rule, type_between}
use Rattle.unit_parser.proofs.composites.composite_parameter.Goals as goal
use Rattle.expr_parser.proofs.RuleLaws.{runs_last}

-- the rule after the name, and after the type
abbrev named : TypeExpr → Name → R CompositeParameter
named k n = call (Default k n) done

abbrev dollar : TypeExpr → R CompositeParameter
dollar k = look is_dollar (λ t. named k (dollar_at t)) stop

pub returns-in_err-kind : goal.returns-in_err-kind
returns-in_err-kind c =
    rule_fails composite_parameter _ c.args.ts.now c.args.ts.now _ c.in_err-kind.field-0.0 c.from_residual.ensures.1 (λ o q. q)
    (part_fails (type_between S.Less S.Greater) dollar _ _ c.in_err-kind.ensures)

pub returns-in_err-name : goal.returns-in_err-name
returns-in_err-name c =
    rule_fails composite_parameter _ c.args.ts.now c.in_ok-kind.behind.now _ c.in_err-name.field-0.0 c.from_residual-in_err-name.ensures.1
    (λ o q. part_read (type_between S.Less S.Greater) dollar c.in_ok-kind.ensures q)
    (dollar_fails _ (named c.in_ok-kind.kind) _ c.in_err-name.ensures)

pub returns : goal.returns
returns c =
    says_on {P = Reads rule (Default c.in_ok-kind.kind c.in_ok-name.name) c.in_ok-name.behind.now} {Q = RunsTo rule composite_parameter c.args.ts.now}
    (λ o q. part_read (type_between S.Less S.Greater) dollar c.in_ok-kind.ensures (dollar_passed (named c.in_ok-kind.kind) c.in_ok-name.ensures (runs_last q)))
    c.defaulted.result c.defaulted.ensures
