use Rattle.std.proofs.Common.{List, [], length}
use Rattle.spl_tree.specs.declared.unit.InputPort.{InputPort}
use Rattle.expr_parser.specs.Rules.{RuleResult, Reads}
use Rattle.statement_parser.specs.Lines.{MoreInputs, rule}
use Rattle.unit_parser.proofs.invocations.more_inputs.Given as goal

abbrev pub invariant-inputs : goal.invariant-inputs
invariant-inputs l = (o : RuleResult (List InputPort)) → Reads rule (MoreInputs l.all) l.at o → Reads rule (MoreInputs []) l.fn.ts o

abbrev pub decreases-inputs : goal.decreases-inputs
decreases-inputs l = length l.at
