use Rattle.std.specs.Prelude.{List, []}
use Rattle.spl_tree.specs.declared.unit.InputPort.{InputPort}
use Rattle.expr_parser.specs.Rules.{done, call}
use Rattle.unit_parser.specs.steps.GivesParts.{input_port}
use Rattle.statement_parser.specs.Lines.{Name, R, Alias, InputStreams}
use Rattle.statement_parser.proofs.Readings.{finished, line_read, rule_fails, line_fails}
use Rattle.unit_parser.proofs.invocations.input_port.Goals as goal

-- the rule after the streams
abbrev listed : List Name → R InputPort
listed ns = call Alias (λ l. done (record { streams = ns; alias = l }))

pub returns-in_err-streams : goal.returns-in_err-streams
returns-in_err-streams c =
    rule_fails input_port _ c.args.ts.now c.args.ts.now _ c.in_err-streams.field-0.0 c.from_residual.ensures.1 (λ o q. q)
    (line_fails _ (InputStreams []) listed _ c.in_err-streams.ensures)

pub returns-in_err-alias : goal.returns-in_err-alias
returns-in_err-alias c =
    rule_fails input_port _ c.args.ts.now c.in_ok-streams.behind.now _ c.in_err-alias.field-0.0 c.from_residual-in_err-alias.ensures.1
    (λ o q. line_read c.in_ok-streams.ensures q)
    (line_fails _ Alias (λ l. done (record { streams = c.in_ok-streams.streams; alias = l })) _ c.in_err-alias.ensures)

pub returns : goal.returns
returns c = line_read c.in_ok-streams.ensures (line_read c.in_ok-alias.ensures finished)
