use Rattle.std.proofs.Common.{[], length}
use Rattle.spl_tree.specs.Trees.{Expr}
use Rattle.expr_parser.specs.Rules.{RuleResult, Reads}
use Rattle.expr_parser.specs.Lines.{Prefixed, rule}
use Rattle.expr_parser.proofs.prefixes.prefixes.Given as goal

abbrev pub invariant-prefixes : goal.invariant-prefixes
invariant-prefixes l = (o : RuleResult Expr) → Reads rule (Prefixed l.all) l.at o → Reads rule (Prefixed []) l.fn.ts o

abbrev pub decreases-prefixes : goal.decreases-prefixes
decreases-prefixes l = length l.at
