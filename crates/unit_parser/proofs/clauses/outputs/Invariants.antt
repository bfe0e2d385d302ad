use Rattle.std.proofs.Common.{List, [], length}
use Rattle.spl_tree.specs.declared.unit.OutputAssignments.{OutputAssignments}
use Rattle.expr_parser.specs.Rules.{RuleResult, Reads}
use Rattle.statement_parser.specs.Lines.{Outputs, rule}
use Rattle.unit_parser.proofs.clauses.outputs.Given as goal

abbrev pub invariant-outputs : goal.invariant-outputs
invariant-outputs l = (o : RuleResult (List OutputAssignments)) → Reads rule (Outputs l.all) l.at o → Reads rule (Outputs []) l.fn.ts o

abbrev pub decreases-outputs : goal.decreases-outputs
decreases-outputs l = length l.at
