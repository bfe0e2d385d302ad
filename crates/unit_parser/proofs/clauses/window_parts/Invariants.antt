use Rattle.std.proofs.Common.{List, [], length}
use Rattle.spl_tree.specs.declared.unit.WindowPart.{WindowPart}
use Rattle.expr_parser.specs.Rules.{RuleResult, Reads}
use Rattle.statement_parser.specs.Lines.{WindowParts, rule}
use Rattle.unit_parser.proofs.clauses.window_parts.Given as goal

abbrev pub invariant-parts : goal.invariant-parts
invariant-parts l = (o : RuleResult (List WindowPart)) → Reads rule (WindowParts l.all) l.at o → Reads rule (WindowParts []) l.fn.ts o

abbrev pub decreases-parts : goal.decreases-parts
decreases-parts l = length l.at
