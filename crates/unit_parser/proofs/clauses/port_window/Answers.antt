use Rattle.std.specs.Prelude.{[]}
use Rattle.spl_tree.specs.declared.unit.PortWindow.{PortWindow}
use Rattle.spl_tree.specs.declared.symbol.Symbol.TheVariants as S
use Rattle.expr_parser.specs.Rules.{done, call}
use Rattle.unit_parser.specs.steps.GivesParts.{port_window}
use Rattle.statement_parser.specs.Lines.{Name, R, name_before, WindowParts}
use Rattle.statement_parser.proofs.Readings.{finished, line_read, rule_fails, line_fails}
use Rattle.statement_parser.proofs.StatementReadings.{part_read, part_fails}
use Rattle.unit_parser.proofs.clauses.port_window.Goals as goal

-- the rule after the name
abbrev named : Name → R PortWindow
named n = call (WindowParts []) (λ y. done (record { port = n; parts = y }))

pub returns-in_err-port : goal.returns-in_err-port
returns-in_err-port c =
    rule_fails port_window _ c.args.ts.now c.args.ts.now _ c.in_err-port.field-0.0 c.from_residual.ensures.1 (λ o q. q)
    (part_fails (name_before S.Colon) named _ _ c.in_err-port.ensures)

pub returns-in_err-parts : goal.returns-in_err-parts
returns-in_err-parts c =
    rule_fails port_window _ c.args.ts.now c.in_ok-port.behind.now _ c.in_err-parts.field-0.0 c.from_residual-in_err-parts.ensures.1
    (λ o q. part_read (name_before S.Colon) named c.in_ok-port.ensures q)
    (line_fails _ (WindowParts []) (λ y. done (record { port = c.in_ok-port.port; parts = y })) _ c.in_err-parts.ensures)

pub returns : goal.returns
returns c = part_read (name_before S.Colon) named c.in_ok-port.ensures (line_read c.in_ok-parts.ensures finished)
