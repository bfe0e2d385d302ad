use Rattle.std.proofs.Common.{arith}
use Rattle.spl_tree.proofs.StmtWeights.{statement_weight, arm_weight}
use Rattle.spl_tree.proofs.ExprWeights.{item_below}
use Rattle.program_tables.proofs.mentions.+bodies.Goals as goal

pub of_statements-of_statement-requires : goal.of_statements-of_statement-requires
of_statements-of_statement-requires t c =
    (let q = item_below statement_weight c.args.statements.now c.loop-statement.statement-index c.statement-item.result c.loop-statement-test.true c.statement-item.is in omega arith, tt)

pub of_arms-of_statement-requires : goal.of_arms-of_statement-requires
of_arms-of_statement-requires t c =
    (let q = item_below arm_weight c.args.arms.now c.loop-condition.condition-index c.loop-condition-item.result c.loop-condition-test.true c.loop-condition-item.is in omega arith, tt)
