use Rattle.std.proofs.Common.{List, subst, [], ◌∷◌, ◌++◌}
use Rattle.spl_tree.specs.declared.symbol.Symbol.TheVariants as S
use Rattle.spl_tree.specs.declared.unit.Parameter.{Parameter}
use Rattle.expr_parser.specs.Lines as expressions
use Rattle.expr_parser.specs.Rules.{done, call, Took, RunsTo, Reads}
use Rattle.unit_parser.specs.steps.GivesParts.{parameter}
use Rattle.statement_parser.specs.Lines.{Name, R, expect}
use Rattle.statement_parser.specs.Lines as lines
use Rattle.statement_parser.proofs.Readings.{finished, reads, skipped, fails}
use Rattle.statement_parser.proofs.Sequences.{pushed, pushed_fails}
use Rattle.statement_parser.proofs.StatementReadings.{behind, part_read, part_fails}
use Rattle.unit_parser.proofs.CompositeReadings.{name_takes, passing, taken_begins}
use Rattle.unit_parser.proofs.clauses.parameters.Goals as goal
use Rattle.expr_parser.proofs.RuleLaws.{runs_last}

-- the rule after the name of one more of them, and after it
abbrev named : Name → R Parameter
named n = expect S.Colon (call (lines.Expression (expressions.Items S.Semicolon [])) (λ es. done (record { name = n; values = es })))

abbrev more : List Parameter → Parameter → R (List Parameter)
more xs x = call (lines.Parameters (xs ++ x ∷ [])) done

pub returns-in_default : goal.returns-in_default
unfolding lines.rule
returns-in_default c = c.parameters.invariant (Took c.parameters.all c.parameters.at.now) (reads (skipped c.in_default.ensures finished))

pub returns-in_err-behind : goal.returns-in_err-behind
unfolding lines.rule
returns-in_err-behind c =
    fails (lines.Parameters []) c.args.ts.now c.parameters.at.now (behind parameter (more c.parameters.all)) c.from_residual.result c.in_err-behind.field-0.0 c.from_residual.ensures.1
    (λ o q. c.parameters.invariant o (reads (passing (taken_begins c.in-Some.ensures.0) q)))
    (part_fails parameter (more c.parameters.all) _ _ (pushed_fails (RunsTo lines.rule parameter c.parameters.at.now) _ _ c.parameter.result _ c.parameter.ensures c.in_err-behind.ensures))

pub parameters-preserved : goal.parameters-preserved
unfolding lines.rule
parameters-preserved c =
    let next = pushed (RunsTo lines.rule parameter c.parameters.at.now) _ _ c.parameter.result _ c.parameter.ensures c.in_ok-behind.ensures in
    λ o r. c.parameters.invariant o (reads (passing (taken_begins c.in-Some.ensures.0) (part_read parameter (more c.parameters.all) next.said
    (runs_last (subst (λ xs. Reads lines.rule (lines.Parameters xs) c.in_ok-behind.behind.now o) next.is r)))))

pub parameters-smaller : goal.parameters-smaller
parameters-smaller c =
    let next = pushed (RunsTo lines.rule parameter c.parameters.at.now) _ _ c.parameter.result _ c.parameter.ensures c.in_ok-behind.ensures in
    name_takes named _ _ _ next.said
