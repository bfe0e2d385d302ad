use Rattle.std.proofs.Common.{List, [], length}
use Rattle.spl_tree.specs.declared.expression.Field.{Field}
use Rattle.spl_tree.specs.Trees.{Expr}
use Rattle.expr_parser.specs.Rules.{RuleResult, Reads}
use Rattle.statement_parser.specs.Lines.{Assignments, rule}
use Rattle.unit_parser.proofs.clauses.assignments.Given as goal

abbrev pub invariant-assignments : goal.invariant-assignments
invariant-assignments l = (o : RuleResult (List (Field Expr))) → Reads rule (Assignments l.all) l.at o → Reads rule (Assignments []) l.fn.ts o

abbrev pub decreases-assignments : goal.decreases-assignments
decreases-assignments l = length l.at
