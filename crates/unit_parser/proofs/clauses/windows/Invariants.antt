use Rattle.std.proofs.Common.{List, [], length}
use Rattle.spl_tree.specs.declared.unit.PortWindow.{PortWindow}
use Rattle.expr_parser.specs.Rules.{RuleResult, Reads}
use Rattle.statement_parser.specs.Lines.{Windows, rule}
use Rattle.unit_parser.proofs.clauses.windows.Given as goal

abbrev pub invariant-windows : goal.invariant-windows
invariant-windows l = (o : RuleResult (List PortWindow)) → Reads rule (Windows l.all) l.at o → Reads rule (Windows []) l.fn.ts o

abbrev pub decreases-windows : goal.decreases-windows
decreases-windows l = length l.at
