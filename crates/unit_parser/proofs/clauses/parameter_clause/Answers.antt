use Rattle.std.proofs.Common.{[]}
use Rattle.statement_parser.specs.Lines as lines
use Rattle.statement_parser.proofs.Readings.{reads, taken, skipped}
use Rattle.unit_parser.proofs.Rows.{made}
use Rattle.unit_parser.proofs.clauses.parameter_clause.Goals as goal
use Rattle.statement_parser.proofs.TypeReadings.{goes, tail}

pub returns-in-Some : goal.returns-in-Some
unfolding lines.rule
returns-in-Some c =
    goes (lines.ParameterClause c.args.word) c.args.ts.now c.in-Some.behind.now _ c.parameters.result (λ o q. reads (taken c.in-Some.ensures q))
    (tail (lines.Parameters []) _ c.parameters.result c.parameters.ensures)

pub returns-in-None : goal.returns-in-None
unfolding lines.rule
returns-in-None c = reads (skipped c.in-None.ensures (made c.new.ensures))
