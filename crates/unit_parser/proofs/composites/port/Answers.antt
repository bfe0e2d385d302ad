use Rattle.std.proofs.Common.{Some, None}
use Rattle.expr_parser.specs.Rules.{done}
use Rattle.spl_tree.specs.declared.unit.HeadPort.{HeadPort}
use Rattle.spl_tree.specs.declared.unit.OutputStream.{OutputStream}
use Rattle.statement_parser.proofs.Readings.{finished, reads, taken, skipped, name_passed, fails, name_fails}
use Rattle.statement_parser.proofs.StatementReadings.{behind, part_read, part_fails}
use Rattle.unit_parser.proofs.CompositeReadings.{by_rule, port_named, rule_comes}
use Rattle.statement_parser.specs.Lines as lines
use Rattle.statement_parser.specs.Lines.{R}
use Rattle.unit_parser.proofs.composites.port.Goals as goal

-- the port of a stream
abbrev shaped : OutputStream → R HeadPort
shaped x = done (record { shape = Some x.shape; name = x.name })

pub returns-in_err-name : goal.returns-in_err-name
unfolding lines.rule
returns-in_err-name c =
    fails lines.Port c.args.ts.now c.args.ts.now _ c.from_residual.result c.in_err-name.field-0.0 c.from_residual.ensures.1
    (λ o q. reads (skipped c.in_default.ensures q))
    (name_fails _ (port_named None) _ c.in_err-name.ensures)

pub returns-in_default : goal.returns-in_default
unfolding lines.rule
returns-in_default c = reads (skipped c.in_default.ensures (name_passed (port_named None) c.in_ok-name.ensures finished))

pub returns-in_err-one : goal.returns-in_err-one
unfolding lines.rule
returns-in_err-one c =
    fails lines.Port c.args.ts.now c.in-Some.behind.now (behind (lines.rule lines.Stream) shaped) c.from_residual-in_err-one.result c.in_err-one.field-0.0 c.from_residual-in_err-one.ensures.1
    (λ o q. reads (taken c.in-Some.ensures q))
    (part_fails (lines.rule lines.Stream) shaped _ _ (rule_comes lines.Stream _ _ c.in_err-one.ensures))

pub returns : goal.returns
unfolding lines.rule
returns c = reads (taken c.in-Some.ensures (part_read (lines.rule lines.Stream) shaped (by_rule tt c.in_ok-one.ensures) finished))
