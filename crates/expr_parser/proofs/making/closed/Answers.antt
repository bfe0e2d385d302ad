use Rattle.expr_parser.proofs.Derive.{comes_pass_fail, comes_pass, comes_made}
use Rattle.spl_tree.specs.Trees.{placed}
use Rattle.expr_parser.proofs.making.closed.Goals as goal

pub returns-in-Ok : goal.returns-in-Ok
returns-in-Ok c =
    comes_pass c.args.ts.now c.args.close _ c.in-Ok.behind c.node.result c.in-Ok.ensures
    (comes_made (placed c.args.at c.args.what) c.in-Ok.behind.now c.node.result c.node.ensures)

pub returns-in-Err : goal.returns-in-Err
returns-in-Err c = comes_pass_fail c.args.ts.now c.args.close _ c.in-Err.stop c.in-Err.ensures
