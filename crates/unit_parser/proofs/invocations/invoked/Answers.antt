use Rattle.std.specs.Prelude.{ℕ, List, Option}
use Rattle.spl_tree.specs.declared.unit.InputPort.{InputPort}
use Rattle.spl_tree.specs.declared.unit.Invocation.{Invocation}
use Rattle.spl_tree.specs.declared.unit.OutputStream.{OutputStream}
use Rattle.expr_parser.specs.Rules.{done, call}
use Rattle.unit_parser.specs.steps.GivesParts.{operator_and_inputs}
use Rattle.statement_parser.specs.Lines as lines
use Rattle.statement_parser.specs.Lines.{Name, R}
use Rattle.statement_parser.proofs.Readings.{finished, reads, line_read, fails, line_fails}
use Rattle.statement_parser.proofs.StatementReadings.{part_read, part_fails}
use Rattle.unit_parser.proofs.invocations.invoked.Goals as goal

-- after the operator and its inputs
abbrev applied : ℕ → List OutputStream → Option Name → Name × List InputPort → R Invocation
applied at xs l h =
    call lines.End (λ c. done (record { at = at; outputs = xs; alias = l; operator = h.0; inputs = h.1; clauses = c }))

pub returns-in_err-operator : goal.returns-in_err-operator
unfolding lines.rule
returns-in_err-operator c =
    fails (lines.Invoked c.args.at c.args.head.0 c.args.head.1) c.args.ts.now c.args.ts.now _
    c.from_residual.result c.in_err-operator.field-0.0 c.from_residual.ensures.1
    (λ o q. reads q)
    (part_fails operator_and_inputs (applied c.args.at c.args.head.0 c.args.head.1) _ _ c.in_err-operator.ensures)

pub returns-in_err-clauses : goal.returns-in_err-clauses
unfolding lines.rule
returns-in_err-clauses c =
    fails (lines.Invoked c.args.at c.args.head.0 c.args.head.1) c.args.ts.now c.in_ok-operator.behind.now _
    c.from_residual-in_err-clauses.result c.in_err-clauses.field-0.0 c.from_residual-in_err-clauses.ensures.1
    (λ o q. reads (part_read operator_and_inputs (applied c.args.at c.args.head.0 c.args.head.1) c.in_ok-operator.ensures q))
    (line_fails _ lines.End _ _ c.in_err-clauses.ensures)

pub returns : goal.returns
unfolding lines.rule
returns c =
    reads (part_read operator_and_inputs (applied c.args.at c.args.head.0 c.args.head.1) c.in_ok-operator.ensures (line_read c.in_ok-clauses.ensures finished))
