use Rattle.std.specs.Prelude.{Some}
use Rattle.expr_parser.specs.Rules.{done}
use Rattle.statement_parser.proofs.Readings.{finished, reads, taken, skipped, name_passed, fails, name_fails}
use Rattle.statement_parser.specs.Lines as lines
use Rattle.unit_parser.proofs.invocations.alias.Goals as goal

pub returns-in_default : goal.returns-in_default
unfolding lines.rule
returns-in_default c = reads (skipped c.in_default.ensures finished)

pub returns-in_err-name : goal.returns-in_err-name
unfolding lines.rule
returns-in_err-name c =
    fails lines.Alias c.args.ts.now c.in-Some.behind.now _ c.from_residual.result c.in_err-name.field-0.0 c.from_residual.ensures.1 (λ o q. reads (taken c.in-Some.ensures q))
    (name_fails _ (λ n. done (Some n)) _ c.in_err-name.ensures)

pub returns : goal.returns
unfolding lines.rule
returns c = reads (taken c.in-Some.ensures (name_passed (λ n. done (Some n)) c.in_ok-name.ensures finished))
