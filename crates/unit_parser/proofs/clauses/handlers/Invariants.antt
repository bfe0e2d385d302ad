use Rattle.std.proofs.Common.{List, [], length}
use Rattle.spl_tree.specs.declared.expression.Placed.{Placed}
use Rattle.spl_tree.specs.declared.unit.Handler.{Handler}
use Rattle.expr_parser.specs.Rules.{RuleResult, Reads}
use Rattle.statement_parser.specs.Lines.{Handlers, rule}
use Rattle.unit_parser.proofs.clauses.handlers.Given as goal

abbrev pub invariant-handlers : goal.invariant-handlers
invariant-handlers l = (o : RuleResult (List (Placed Handler))) → Reads rule (Handlers l.all) l.at o → Reads rule (Handlers []) l.fn.ts o

abbrev pub decreases-handlers : goal.decreases-handlers
decreases-handlers l = length l.at
