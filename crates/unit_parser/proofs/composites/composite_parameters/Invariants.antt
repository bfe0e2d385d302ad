use Rattle.std.proofs.Common.{List, [], length}
use Rattle.spl_tree.specs.declared.unit.CompositeParameter.{CompositeParameter}
use Rattle.expr_parser.specs.Rules.{RuleResult, Reads}
use Rattle.statement_parser.specs.Lines.{CompositeParameters, rule}
use Rattle.unit_parser.proofs.composites.composite_parameters.Given as goal

abbrev pub invariant-parameters : goal.invariant-parameters
invariant-parameters l = (o : RuleResult (List CompositeParameter)) → Reads rule (CompositeParameters l.all) l.at o → Reads rule (CompositeParameters []) l.fn.ts o

abbrev pub decreases-parameters : goal.decreases-parameters
decreases-parameters l = length l.at
