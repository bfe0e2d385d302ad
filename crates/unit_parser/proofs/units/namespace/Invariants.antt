use Rattle.std.proofs.Common.{length}
use Rattle.expr_parser.specs.Rules.{RuleResult, Reads}
use Rattle.statement_parser.specs.Lines.{Namespace, rule}
use Rattle.unit_parser.proofs.units.namespace.Given as goal

abbrev pub invariant-names : goal.invariant-names
invariant-names l = (o : RuleResult (Unit {0})) → Reads rule Namespace l.at o → Reads rule Namespace l.fn.ts o

abbrev pub decreases-names : goal.decreases-names
decreases-names l = length l.at
