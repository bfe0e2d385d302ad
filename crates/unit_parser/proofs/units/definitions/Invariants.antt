use Rattle.std.proofs.Common.{List, [], length}
use Rattle.spl_tree.specs.declared.unit.Definition.{Definition}
use Rattle.expr_parser.specs.Rules.{RuleResult, Reads}
use Rattle.statement_parser.specs.Lines.{Definitions, rule}
use Rattle.unit_parser.proofs.units.definitions.Given as goal

abbrev pub invariant-definitions : goal.invariant-definitions
invariant-definitions l = (o : RuleResult (List Definition)) → Reads rule (Definitions l.all) l.at o → Reads rule (Definitions []) l.fn.ts o

abbrev pub decreases-definitions : goal.decreases-definitions
decreases-definitions l = length l.at
