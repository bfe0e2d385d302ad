use Rattle.std.specs.Prelude.{List}
use Rattle.spl_tree.specs.declared.symbol.Symbol.TheVariants as S
use Rattle.spl_tree.specs.declared.unit.InputPort.{InputPort}
use Rattle.expr_parser.specs.Rules.{done, call}
use Rattle.unit_parser.specs.steps.GivesParts.{operator_and_inputs}
use Rattle.statement_parser.specs.Lines.{Name, R, Inputs, name_before}
use Rattle.statement_parser.proofs.Readings.{finished, passed, line_read, rule_fails, pass_fails, line_fails}
use Rattle.statement_parser.proofs.StatementReadings.{behind, part_read, part_fails}
use Rattle.unit_parser.proofs.invocations.operator_and_inputs.Goals as goal

-- the rule after the parenthesis
abbrev given : Name → R (Name × List InputPort)
given n = call Inputs (λ ps. done (n, ps))

pub returns-in_err-behind : goal.returns-in_err-behind
returns-in_err-behind c =
    rule_fails operator_and_inputs _ c.args.ts.now c.args.ts.now _ c.in_err-behind.field-0.0 c.from_residual.ensures.1 (λ o q. q)
    (pass_fails _ S.Assign (behind (name_before S.LeftParen) given) _ c.in_err-behind.ensures)

pub returns-in_err-operator : goal.returns-in_err-operator
returns-in_err-operator c =
    rule_fails operator_and_inputs _ c.args.ts.now c.in_ok-behind.behind.now _ c.in_err-operator.field-0.0 c.from_residual-in_err-operator.ensures.1
    (λ o q. passed S.Assign c.in_ok-behind.ensures q)
    (part_fails (name_before S.LeftParen) given _ _ c.in_err-operator.ensures)

pub returns-in_err-inputs : goal.returns-in_err-inputs
returns-in_err-inputs c =
    rule_fails operator_and_inputs _ c.args.ts.now c.in_ok-operator.behind.now _ c.in_err-inputs.field-0.0 c.from_residual-in_err-inputs.ensures.1
    (λ o q. passed S.Assign c.in_ok-behind.ensures (part_read (name_before S.LeftParen) given c.in_ok-operator.ensures q))
    (line_fails _ Inputs (λ ps. done (c.in_ok-operator.operator, ps)) _ c.in_err-inputs.ensures)

pub returns : goal.returns
returns c =
    passed S.Assign c.in_ok-behind.ensures (part_read (name_before S.LeftParen) given c.in_ok-operator.ensures (line_read c.in_ok-inputs.ensures finished))
