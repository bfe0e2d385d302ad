use Rattle.std.proofs.Common.{List, [], length}
use Rattle.spl_tree.specs.declared.unit.TypeDefinition.{TypeDefinition}
use Rattle.expr_parser.specs.Rules.{RuleResult, Reads}
use Rattle.statement_parser.specs.Lines.{Types, rule}
use Rattle.unit_parser.proofs.composites.types.Given as goal

abbrev pub invariant-types : goal.invariant-types
invariant-types l = (o : RuleResult (List TypeDefinition)) → Reads rule (Types l.all) l.at o → Reads rule (Types []) l.fn.ts o

abbrev pub decreases-types : goal.decreases-types
decreases-types l = length l.at
