use Rattle.std.proofs.Common.{[]}
use Rattle.statement_parser.specs.Lines as lines
use Rattle.statement_parser.proofs.Readings.{finished, reads, taken, skipped, line_read, fails, line_fails}
use Rattle.unit_parser.proofs.clauses.logic.Goals as goal

pub returns-in_default : goal.returns-in_default
unfolding lines.rule
returns-in_default c = reads (skipped c.in_default.ensures finished)

pub returns-in_err-state : goal.returns-in_err-state
unfolding lines.rule
returns-in_err-state c =
    fails lines.LogicClause c.args.ts.now c.in-Some.behind.now _ c.from_residual.result c.in_err-state.field-0.0 c.from_residual.ensures.1
    (λ o q. reads (taken c.in-Some.ensures q))
    (line_fails _ lines.State _ _ c.in_err-state.ensures)

pub returns-in_err-handlers : goal.returns-in_err-handlers
unfolding lines.rule
returns-in_err-handlers c =
    fails lines.LogicClause c.args.ts.now c.in_ok-state.behind.now _ c.from_residual-in_err-handlers.result c.in_err-handlers.field-0.0 c.from_residual-in_err-handlers.ensures.1
    (λ o q. reads (taken c.in-Some.ensures (line_read c.in_ok-state.ensures q)))
    (line_fails _ (lines.Handlers []) _ _ c.in_err-handlers.ensures)

pub returns : goal.returns
unfolding lines.rule
returns c = reads (taken c.in-Some.ensures (line_read c.in_ok-state.ensures (line_read c.in_ok-handlers.ensures finished)))
