use Rattle.std.proofs.Common.{List, [], length}
use Rattle.spl_tree.specs.declared.unit.Invocation.{Invocation}
use Rattle.expr_parser.specs.Rules.{RuleResult, Reads}
use Rattle.statement_parser.specs.Lines.{Graph, rule}
use Rattle.unit_parser.proofs.invocations.graph.Given as goal

abbrev pub invariant-invocations : goal.invariant-invocations
invariant-invocations l = (o : RuleResult (List Invocation)) → Reads rule (Graph l.all) l.at o → Reads rule (Graph []) l.fn.ts o

abbrev pub decreases-invocations : goal.decreases-invocations
decreases-invocations l = length l.at
