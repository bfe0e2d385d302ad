use Rattle.spl_tree.specs.declared.symbol.Symbol.TheVariants as S
use Rattle.spl_tree.specs.declared.unit.OutputStream.{OutputStream}
use Rattle.spl_tree.specs.Trees.{Shape}
use Rattle.expr_parser.specs.Rules.{done}
use Rattle.statement_parser.specs.Lines.{Name, R}
use Rattle.statement_parser.specs.Lines as lines
use Rattle.statement_parser.proofs.Readings.{finished, reads, passed, name_passed, line_read, fails, pass_fails, name_fails, line_fails}
use Rattle.unit_parser.proofs.invocations.stream.Goals as goal

-- after the shape of a stream
abbrev shape_behind : Shape → Name → R OutputStream
shape_behind h n = done (record { shape = h; name = n })

pub returns-in_err-behind : goal.returns-in_err-behind
unfolding lines.rule
returns-in_err-behind c =
    fails lines.Stream c.args.ts.now c.args.ts.now _ c.from_residual.result c.in_err-behind.field-0.0 c.from_residual.ensures.1 (λ o q. reads q)
    (pass_fails _ S.Less _ _ c.in_err-behind.ensures)

pub returns-in_err-shape : goal.returns-in_err-shape
unfolding lines.rule
returns-in_err-shape c =
    fails lines.Stream c.args.ts.now c.in_ok-behind.behind.now _ c.from_residual-in_err-shape.result c.in_err-shape.field-0.0 c.from_residual-in_err-shape.ensures.1
    (λ o q. reads (passed S.Less c.in_ok-behind.ensures q))
    (line_fails _ (lines.Shaped S.Greater) _ _ c.in_err-shape.ensures)

pub returns-in_err-name : goal.returns-in_err-name
unfolding lines.rule
returns-in_err-name c =
    fails lines.Stream c.args.ts.now c.in_ok-shape.behind.now _ c.from_residual-in_err-name.result c.in_err-name.field-0.0 c.from_residual-in_err-name.ensures.1
    (λ o q. reads (passed S.Less c.in_ok-behind.ensures (line_read c.in_ok-shape.ensures q)))
    (name_fails _ (shape_behind c.in_ok-shape.shape) _ c.in_err-name.ensures)

pub returns : goal.returns
unfolding lines.rule
returns c = reads (passed S.Less c.in_ok-behind.ensures (line_read c.in_ok-shape.ensures (name_passed (shape_behind c.in_ok-shape.shape) c.in_ok-name.ensures finished)))
