use Rattle.std.proofs.Common.{[], sym, subst}
use Rattle.expr_parser.specs.Rules.{Took, Reads}
use Rattle.statement_parser.proofs.Readings.{finished, reads, taken, skipped, says_on}
use Rattle.statement_parser.specs.Lines as lines
use Rattle.unit_parser.proofs.composites.composite_parameter_clause.Goals as goal
use Rattle.expr_parser.proofs.RuleLaws.{runs_last}

pub returns-in-Some : goal.returns-in-Some
unfolding lines.rule
returns-in-Some c =
    says_on {P = Reads lines.rule (lines.CompositeParameters []) c.in-Some.behind.now} {Q = Reads lines.rule lines.CompositeParameterClause c.args.ts.now} (λ o r. reads (taken c.in-Some.ensures (runs_last r))) c.composite_parameters.result c.composite_parameters.ensures

pub returns-in-None : goal.returns-in-None
unfolding lines.rule
returns-in-None c =
    subst (λ v. Reads lines.rule lines.CompositeParameterClause c.args.ts.now (Took v c.args.ts.now)) (sym c.new.ensures) (reads (skipped c.in-None.ensures finished))
