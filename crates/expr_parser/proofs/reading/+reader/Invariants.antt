use Rattle.std.proofs.Common.{◌+◌, ◌*◌, List, [], length}
use Rattle.spl_tree.specs.Trees.{Expr}
use Rattle.expr_parser.specs.Rules.{RuleResult, Reads}
use Rattle.expr_parser.specs.Lines.{Chain, Items, Entries, Fields, Steps, rule}
use Rattle.expr_parser.proofs.reading.+reader.Given as goal

abbrev pub decreases-nested : goal.decreases-nested
decreases-nested l = l.depth * 64 + 1

abbrev pub decreases-step : goal.decreases-step
decreases-step l = l.depth * 64 + 2

abbrev pub decreases-steps : goal.decreases-steps
decreases-steps l = l.depth * 64 + 3

abbrev pub decreases-items : goal.decreases-items
decreases-items l = l.depth * 64 + 2

abbrev pub decreases-elements : goal.decreases-elements
decreases-elements l = l.depth * 64 + 3

abbrev pub decreases-list : goal.decreases-list
decreases-list l = l.depth * 64 + 4

abbrev pub decreases-named : goal.decreases-named
decreases-named l = l.depth * 64 + 4

abbrev pub decreases-entries : goal.decreases-entries
decreases-entries l = l.depth * 64 + 3

abbrev pub decreases-fields : goal.decreases-fields
decreases-fields l = l.depth * 64 + 3

abbrev pub decreases-brace : goal.decreases-brace
decreases-brace l = l.depth * 64 + 4

abbrev pub decreases-group : goal.decreases-group
decreases-group l = l.depth * 64 + 3

abbrev pub decreases-primary : goal.decreases-primary
decreases-primary l = l.depth * 64 + 5

abbrev pub decreases-prefixed : goal.decreases-prefixed
decreases-prefixed l = l.depth * 64 + 4

abbrev pub decreases-operand : goal.decreases-operand
decreases-operand l = l.depth * 64 + 6

abbrev pub decreases-expr : goal.decreases-expr
decreases-expr l = l.depth * 64 + 41

abbrev pub decreases-rest : goal.decreases-rest
decreases-rest l = l.depth * 64 + 40

abbrev pub decreases-choice : goal.decreases-choice
decreases-choice l = l.depth * 64 + 39

abbrev pub decreases-climb : goal.decreases-climb
decreases-climb l = l.depth * 64 + (10 + 2 * l.level)

abbrev pub decreases-chain : goal.decreases-chain
decreases-chain l = l.depth * 64 + (11 + 2 * l.below)

abbrev pub invariant-chain-operators : goal.invariant-chain-operators
invariant-chain-operators l = (o : RuleResult Expr) → Reads rule (Chain l.below l.left) l.at o → Reads rule (Chain l.fn.below l.fn.left) l.fn.ts o

abbrev pub decreases-chain-operators : goal.decreases-chain-operators
decreases-chain-operators l = length l.at

abbrev pub invariant-items-items : goal.invariant-items-items
invariant-items-items l = (o : RuleResult (List Expr)) → Reads rule (Items l.close l.all) l.at o → Reads rule (Items l.fn.close []) l.fn.ts o

abbrev pub decreases-items-items : goal.decreases-items-items
decreases-items-items l = length l.at

abbrev pub invariant-entries-entries : goal.invariant-entries-entries
invariant-entries-entries l = (o : RuleResult Expr) → Reads rule (Entries l.at l.all l.key) l.left o → Reads rule (Entries l.fn.at [] l.fn.key) l.fn.ts o

abbrev pub decreases-entries-entries : goal.decreases-entries-entries
decreases-entries-entries l = length l.left

abbrev pub invariant-fields-fields : goal.invariant-fields-fields
invariant-fields-fields l = (o : RuleResult Expr) → Reads rule (Fields l.at l.all l.name) l.left o → Reads rule (Fields l.fn.at [] l.fn.name) l.fn.ts o

abbrev pub decreases-fields-fields : goal.decreases-fields-fields
decreases-fields-fields l = length l.left

abbrev pub invariant-steps-steps : goal.invariant-steps-steps
invariant-steps-steps l = (o : RuleResult Expr) → Reads rule (Steps l.primary l.all) l.at o → Reads rule (Steps l.fn.primary []) l.fn.ts o

abbrev pub decreases-steps-steps : goal.decreases-steps-steps
decreases-steps-steps l = length l.at
