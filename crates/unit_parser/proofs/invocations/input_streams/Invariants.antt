use Rattle.std.proofs.Common.{List, [], length}
use Rattle.expr_parser.specs.Rules.{RuleResult, Reads}
use Rattle.statement_parser.specs.Lines.{InputStreams, Name, rule}
use Rattle.unit_parser.proofs.invocations.input_streams.Given as goal

abbrev pub invariant-streams : goal.invariant-streams
invariant-streams l = (o : RuleResult (List Name)) → Reads rule (InputStreams l.all) l.at o → Reads rule (InputStreams []) l.fn.ts o

abbrev pub decreases-streams : goal.decreases-streams
decreases-streams l = length l.at
