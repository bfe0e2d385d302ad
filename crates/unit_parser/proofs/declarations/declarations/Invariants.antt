use Rattle.std.proofs.Common.{List, [], length}
use Rattle.spl_tree.specs.declared.statement.Declaration.{Declaration}
use Rattle.expr_parser.specs.Rules.{RuleResult, Reads}
use Rattle.statement_parser.specs.Lines.{Declarations, rule}
use Rattle.unit_parser.proofs.declarations.declarations.Given as goal

abbrev pub invariant-declarations : goal.invariant-declarations
invariant-declarations l = (o : RuleResult (List Declaration)) → Reads rule (Declarations l.all) l.at o → Reads rule (Declarations []) l.fn.ts o

abbrev pub decreases-declarations : goal.decreases-declarations
decreases-declarations l = length l.at
