use Rattle.std.specs.Prelude.{List, Option}
use Rattle.spl_tree.specs.declared.expression.Placed.{Placed}
use Rattle.spl_tree.specs.declared.unit.Logic.{Logic}
use Rattle.spl_tree.specs.declared.unit.PortWindow.{PortWindow}
use Rattle.expr_parser.specs.Rules.{done, call}
use Rattle.statement_parser.proofs.Readings.{finished, line_read, rule_fails, line_fails}
use Rattle.unit_parser.specs.steps.GivesParts.{logic_and_window}
use Rattle.statement_parser.specs.Lines.{R, LogicClause, WindowClause}
use Rattle.unit_parser.proofs.clauses.logic_and_window.Goals as goal

-- the rule after `logic`
abbrev windowed : Option (Placed Logic) → R (Option (Placed Logic) × Option (Placed (List PortWindow)))
windowed l = call WindowClause (λ w. done (l, w))

pub returns-in_err-logic : goal.returns-in_err-logic
returns-in_err-logic c =
    rule_fails logic_and_window _ c.args.ts.now c.args.ts.now _ c.in_err-logic.field-0.0 c.from_residual.ensures.1 (λ o q. q)
    (line_fails _ LogicClause windowed _ c.in_err-logic.ensures)

pub returns-in_err-window : goal.returns-in_err-window
returns-in_err-window c =
    rule_fails logic_and_window _ c.args.ts.now c.in_ok-logic.behind.now _ c.in_err-window.field-0.0 c.from_residual-in_err-window.ensures.1
    (λ o q. line_read c.in_ok-logic.ensures q)
    (line_fails _ WindowClause (λ w. done (c.in_ok-logic.logic, w)) _ c.in_err-window.ensures)

pub returns : goal.returns
returns c = line_read c.in_ok-logic.ensures (line_read c.in_ok-window.ensures finished)
