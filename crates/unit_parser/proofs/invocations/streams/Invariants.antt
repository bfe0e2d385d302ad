use Rattle.std.proofs.Common.{List, [], length}
use Rattle.spl_tree.specs.declared.unit.OutputStream.{OutputStream}
use Rattle.expr_parser.specs.Rules.{RuleResult, Reads}
use Rattle.statement_parser.specs.Lines.{Streams, rule}
use Rattle.unit_parser.proofs.invocations.streams.Given as goal

abbrev pub invariant-streams : goal.invariant-streams
invariant-streams l = (o : RuleResult (List OutputStream)) → Reads rule (Streams l.all) l.at o → Reads rule (Streams []) l.fn.ts o

abbrev pub decreases-streams : goal.decreases-streams
decreases-streams l = length l.at
