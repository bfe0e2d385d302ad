use Rattle.std.proofs.Common.{subst, sym}
use Rattle.unit_parser.specs.steps.GivesClauses.{EventFirst}
use Rattle.statement_parser.specs.Lines as lines
use Rattle.statement_parser.proofs.Readings.{finished, reads, taken, skipped}
use Rattle.unit_parser.proofs.clauses.event_first.Goals as goal
use Rattle.expr_parser.proofs.Locality.{taken_shrinks}

pub returns-in-Some : goal.returns-in-Some
unfolding lines.rule
returns-in-Some c = (taken_shrinks c.in-Some.ensures, λ hs o q. reads (taken c.in-Some.ensures q))

pub returns-in_err-word : goal.returns-in_err-word
unfolding lines.rule
returns-in_err-word c =
    subst (EventFirst c.args.ts.now) (sym c.from_residual.ensures) (λ hs. reads (skipped c.in_default.ensures (skipped c.in_err-word.ensures finished)))

pub returns : goal.returns
unfolding lines.rule
returns c = (taken_shrinks c.in_ok-word.ensures, λ hs o q. reads (skipped c.in_default.ensures (taken c.in_ok-word.ensures q)))
