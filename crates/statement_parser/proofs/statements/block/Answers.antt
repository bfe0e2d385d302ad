use Rattle.std.specs.Prelude.{[]}
use Rattle.expr_parser.specs.Rules.{done, call, Reads}
use Rattle.spl_tree.specs.declared.symbol.Symbol.TheVariants as S
use Rattle.statement_parser.specs.Lines as lines
use Rattle.statement_parser.specs.Lines.{rule}
use Rattle.statement_parser.proofs.Readings.{reads, passed, says_on, fails, pass_fails}
use Rattle.statement_parser.proofs.statements.block.Goals as goal
use Rattle.expr_parser.proofs.RuleLaws.{runs_last}

pub returns-in_err-behind : goal.returns-in_err-behind
unfolding lines.rule
returns-in_err-behind c =
    fails lines.Block c.args.ts.now c.args.ts.now _ _ c.in_err-behind.field-0.0 c.from_residual.ensures.1 (λ o q. reads q)
    (pass_fails _ S.LeftBrace (call (lines.Statements []) done) _ c.in_err-behind.ensures)

pub returns : goal.returns
unfolding lines.rule
returns c =
    says_on {P = Reads rule (lines.Statements []) c.in_ok-behind.behind.now} {Q = Reads rule lines.Block c.args.ts.now} (λ o q. reads (passed S.LeftBrace c.in_ok-behind.ensures (runs_last q)))
    c.statements.result c.statements.ensures
