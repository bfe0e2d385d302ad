use Rattle.std.proofs.Common.{Ok, sym, subst}
use Rattle.expr_parser.specs.Rules.{done}
use Rattle.spl_tree.specs.Trees.{placed}
use Rattle.statement_parser.specs.Gives.{Comes}
use Rattle.statement_parser.proofs.Readings.{finished}
use Rattle.statement_parser.proofs.simple.statement_at.Goals as goal

pub returns : goal.returns
returns c =
    subst (λ s. Comes (done (placed c.args.at c.args.what, c.args.closed)) c.args.ts.now (Ok ((s, c.args.closed), c.args.ts))) (sym c.in_ok-statement.ensures) finished
