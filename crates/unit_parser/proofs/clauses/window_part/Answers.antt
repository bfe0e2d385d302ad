use Rattle.spl_tree.specs.declared.unit.WindowPart.{WindowPart}
use Rattle.expr_parser.specs.Rules.{done, call}
use Rattle.unit_parser.specs.steps.GivesParts.{window_part}
use Rattle.statement_parser.specs.Lines.{Name, R, PartArguments}
use Rattle.statement_parser.proofs.Readings.{finished, name_passed, line_read, rule_fails, name_fails, line_fails}
use Rattle.unit_parser.proofs.clauses.window_part.Goals as goal

-- the rule after the name
abbrev named : Name → R WindowPart
named n = call PartArguments (λ es. done (record { name = n; arguments = es }))

pub returns-in_err-name : goal.returns-in_err-name
returns-in_err-name c =
    rule_fails window_part _ c.args.ts.now c.args.ts.now _ c.in_err-name.field-0.0 c.from_residual.ensures.1 (λ o q. q)
    (name_fails _ named _ c.in_err-name.ensures)

pub returns-in_err-arguments : goal.returns-in_err-arguments
returns-in_err-arguments c =
    rule_fails window_part _ c.args.ts.now c.in_ok-name.behind.now _ c.in_err-arguments.field-0.0 c.from_residual-in_err-arguments.ensures.1
    (λ o q. name_passed named c.in_ok-name.ensures q)
    (line_fails _ PartArguments (λ es. done (record { name = c.in_ok-name.name; arguments = es })) _ c.in_err-arguments.ensures)

pub returns : goal.returns
returns c = name_passed named c.in_ok-name.ensures (line_read c.in_ok-arguments.ensures finished)
