use Rattle.std.proofs.Common.{subst}
use Rattle.expr_parser.specs.Rules.{done}
use Rattle.spl_tree.specs.declared.symbol.Symbol.TheVariants as S
use Rattle.statement_parser.specs.Gives.{Comes}
use Rattle.statement_parser.specs.Lines.{expect}
use Rattle.statement_parser.proofs.simple.statement_ended.Goals as goal

pub returns : goal.returns
returns c = subst (λ s. Comes (expect S.Semicolon (done s)) c.args.ts.now c.closed.result) c.in_ok-statement.ensures c.closed.ensures
