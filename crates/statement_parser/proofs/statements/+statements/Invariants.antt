use Rattle.std.proofs.Common.{◌+◌, ◌*◌, Bool, List, [], length}
use Rattle.spl_tree.specs.Trees.{Stmt}
use Rattle.expr_parser.specs.Rules.{RuleResult, Reads}
use Rattle.statement_parser.specs.Lines.{Arms, Statements, rule}
use Rattle.statement_parser.proofs.statements.+statements.Given as goal

abbrev pub decreases-nested : goal.decreases-nested
decreases-nested l = l.depth * 8 + 1

abbrev pub decreases-braces : goal.decreases-braces
decreases-braces l = l.depth * 8 + 2

abbrev pub decreases-while_loop : goal.decreases-while_loop
decreases-while_loop l = l.depth * 8 + 2

abbrev pub decreases-for_loop : goal.decreases-for_loop
decreases-for_loop l = l.depth * 8 + 2

abbrev pub decreases-last_branch : goal.decreases-last_branch
decreases-last_branch l = l.depth * 8 + 2

abbrev pub decreases-other : goal.decreases-other
decreases-other l = l.depth * 8 + 3

abbrev pub decreases-arms : goal.decreases-arms
decreases-arms l = l.depth * 8 + 4

abbrev pub decreases-statement : goal.decreases-statement
decreases-statement l = l.depth * 8 + 5

abbrev pub decreases-statements : goal.decreases-statements
decreases-statements l = l.depth * 8 + 6

abbrev pub invariant-statements-statements : goal.invariant-statements-statements
invariant-statements-statements l = (o : RuleResult (List Stmt)) → Reads rule (Statements l.all) l.at o → Reads rule (Statements []) l.fn.ts o

abbrev pub decreases-statements-statements : goal.decreases-statements-statements
decreases-statements-statements l = length l.at

abbrev pub invariant-arms-arms : goal.invariant-arms-arms
invariant-arms-arms l = (o : RuleResult (Stmt × Bool)) → Reads rule (Arms l.fn.at l.all) l.left o → Reads rule (Arms l.fn.at []) l.fn.ts o

abbrev pub decreases-arms-arms : goal.decreases-arms-arms
decreases-arms-arms l = length l.left
