use Rattle.std.proofs.Common.{[]}
use Rattle.statement_parser.specs.Lines as lines
use Rattle.statement_parser.proofs.Readings.{reads, taken, skipped}
use Rattle.unit_parser.proofs.Rows.{made}
use Rattle.unit_parser.proofs.invocations.inputs.Goals as goal
use Rattle.statement_parser.proofs.TypeReadings.{goes, tail}

pub returns-in-Some : goal.returns-in-Some
unfolding lines.rule
returns-in-Some c = reads (taken c.in-Some.ensures (made c.new.ensures))

pub returns-in-None : goal.returns-in-None
unfolding lines.rule
returns-in-None c =
    goes lines.Inputs c.args.ts.now c.args.ts.now _ c.more_inputs.result (λ o q. reads (skipped c.in-None.ensures q))
    (tail (lines.MoreInputs []) _ c.more_inputs.result c.more_inputs.ensures)
