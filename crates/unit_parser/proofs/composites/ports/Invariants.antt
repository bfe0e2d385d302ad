use Rattle.std.proofs.Common.{List, [], length}
use Rattle.spl_tree.specs.declared.unit.HeadPort.{HeadPort}
use Rattle.expr_parser.specs.Rules.{RuleResult, Reads}
use Rattle.statement_parser.specs.Lines.{Ports, rule}
use Rattle.unit_parser.proofs.composites.ports.Given as goal

abbrev pub invariant-ports : goal.invariant-ports
invariant-ports l = (o : RuleResult (List HeadPort)) → Reads rule (Ports l.all) l.at o → Reads rule (Ports []) l.fn.ts o

abbrev pub decreases-ports : goal.decreases-ports
decreases-ports l = length l.at
