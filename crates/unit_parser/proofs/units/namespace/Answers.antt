use Rattle.statement_parser.proofs.Readings.{reads, taken, skipped, name_passed, name_fails}
use Rattle.unit_parser.proofs.DefinitionReadings.{namespace_named, names_fail, names_end}
use Rattle.statement_parser.specs.Lines as lines
use Rattle.unit_parser.proofs.units.namespace.Goals as goal
use Rattle.expr_parser.proofs.RuleLaws.{runs_last}

pub returns-in_err-behind : goal.returns-in_err-behind
unfolding lines.rule
returns-in_err-behind c =
    names_fail c.args.ts.now c.names.at.now _ c.from_residual.result c.in_err-behind.field-0.0 c.from_residual.ensures.1
    (λ o q. c.names.invariant o (reads q))
    (name_fails _ namespace_named _ c.in_err-behind.ensures)

pub returns-in_default : goal.returns-in_default
unfolding lines.rule
returns-in_default c =
    names_end c.args.ts.now c.in_ok-behind.behind.now c.pass.result
    (λ o q. c.names.invariant o (reads (name_passed namespace_named c.in_ok-behind.ensures (skipped c.in_default.ensures q)))) c.pass.ensures

pub names-preserved : goal.names-preserved
unfolding lines.rule
names-preserved c = λ o r. c.names.invariant o (reads (name_passed namespace_named c.in_ok-behind.ensures (taken c.in-Some.ensures (runs_last r))))
