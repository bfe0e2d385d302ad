use Rattle.std.proofs.Common.{List, [], length}
use Rattle.spl_tree.specs.declared.unit.Parameter.{Parameter}
use Rattle.expr_parser.specs.Rules.{RuleResult, Reads}
use Rattle.statement_parser.specs.Lines.{Parameters, rule}
use Rattle.unit_parser.proofs.clauses.parameters.Given as goal

abbrev pub invariant-parameters : goal.invariant-parameters
invariant-parameters l = (o : RuleResult (List Parameter)) → Reads rule (Parameters l.all) l.at o → Reads rule (Parameters []) l.fn.ts o

abbrev pub decreases-parameters : goal.decreases-parameters
decreases-parameters l = length l.at
