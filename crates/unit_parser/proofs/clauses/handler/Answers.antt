use Rattle.std.proofs.Common.{ℕ}
use Rattle.spl_tree.specs.declared.expression.Placed.{Placed}
use Rattle.spl_tree.specs.declared.symbol.Symbol.TheVariants as S
use Rattle.spl_tree.specs.declared.unit.Handler.{Handler}
use Rattle.spl_tree.specs.declared.unit.HandledEvent.{HandledEvent}
use Rattle.spl_tree.specs.Trees.{placed}
use Rattle.expr_parser.specs.Rules.{done, call}
use Rattle.statement_parser.specs.Lines.{Name, R, name_before}
use Rattle.statement_parser.specs.Lines as lines
use Rattle.statement_parser.proofs.Readings.{finished, reads, line_read, fails, line_fails}
use Rattle.statement_parser.proofs.StatementReadings.{part_read, part_fails}
use Rattle.unit_parser.proofs.clauses.handler.Goals as goal

-- after the port of the event
abbrev port_behind : ℕ → HandledEvent → Name → R (Placed Handler)
port_behind at event n = call lines.Block (λ ss. done (placed at (record { event = event; port = n; body = ss })))

pub returns-in_err-port : goal.returns-in_err-port
unfolding lines.rule
returns-in_err-port c =
    fails (lines.HandlerOf c.args.at c.args.event) c.args.ts.now c.args.ts.now _ c.from_residual.result c.in_err-port.field-0.0 c.from_residual.ensures.1 (λ o q. reads q)
    (part_fails (name_before S.Colon) (port_behind c.args.at c.args.event) _ _ c.in_err-port.ensures)

pub returns-in_err-body : goal.returns-in_err-body
unfolding lines.rule
returns-in_err-body c =
    fails (lines.HandlerOf c.args.at c.args.event) c.args.ts.now c.in_ok-port.behind.now _ c.from_residual-in_err-body.result c.in_err-body.field-0.0 c.from_residual-in_err-body.ensures.1
    (λ o q. reads (part_read (name_before S.Colon) (port_behind c.args.at c.args.event) c.in_ok-port.ensures q))
    (line_fails _ lines.Block (λ ss. done (placed c.args.at (record { event = c.args.event; port = c.in_ok-port.port; body = ss }))) _ c.in_err-body.ensures)

pub returns : goal.returns
unfolding lines.rule
returns c = reads (part_read (name_before S.Colon) (port_behind c.args.at c.args.event) c.in_ok-port.ensures (line_read c.in_ok-body.ensures finished))
