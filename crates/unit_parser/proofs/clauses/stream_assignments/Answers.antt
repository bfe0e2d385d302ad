use Rattle.std.specs.Prelude.{[]}
use Rattle.spl_tree.specs.declared.unit.OutputAssignments.{OutputAssignments}
use Rattle.spl_tree.specs.declared.symbol.Symbol.TheVariants as S
use Rattle.expr_parser.specs.Rules.{done, call}
use Rattle.unit_parser.specs.steps.GivesParts.{stream_assignments}
use Rattle.statement_parser.specs.Lines.{Name, R, name_before, Assignments}
use Rattle.statement_parser.proofs.Readings.{finished, line_read, rule_fails, line_fails}
use Rattle.statement_parser.proofs.StatementReadings.{part_read, part_fails}
use Rattle.unit_parser.proofs.clauses.stream_assignments.Goals as goal

-- the rule after the name
abbrev named : Name → R OutputAssignments
named n = call (Assignments []) (λ y. done (record { stream = n; assignments = y }))

pub returns-in_err-stream : goal.returns-in_err-stream
returns-in_err-stream c =
    rule_fails stream_assignments _ c.args.ts.now c.args.ts.now _ c.in_err-stream.field-0.0 c.from_residual.ensures.1 (λ o q. q)
    (part_fails (name_before S.Colon) named _ _ c.in_err-stream.ensures)

pub returns-in_err-assignments : goal.returns-in_err-assignments
returns-in_err-assignments c =
    rule_fails stream_assignments _ c.args.ts.now c.in_ok-stream.behind.now _ c.in_err-assignments.field-0.0 c.from_residual-in_err-assignments.ensures.1
    (λ o q. part_read (name_before S.Colon) named c.in_ok-stream.ensures q)
    (line_fails _ (Assignments []) (λ y. done (record { stream = c.in_ok-stream.stream; assignments = y })) _ c.in_err-assignments.ensures)

pub returns : goal.returns
returns c = part_read (name_before S.Colon) named c.in_ok-stream.ensures (line_read c.in_ok-assignments.ensures finished)
