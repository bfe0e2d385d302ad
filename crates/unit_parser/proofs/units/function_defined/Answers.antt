use Rattle.statement_parser.proofs.Readings.{line_fails, line_read}
use Rattle.statement_parser.specs.Lines as lines
use Rattle.unit_parser.specs.steps.GivesComposites.{function_behind}
use Rattle.unit_parser.proofs.DefinitionReadings.{function_shrinks, defines_none}
use Rattle.unit_parser.proofs.units.function_defined.Goals as goal
use Rattle.expr_parser.proofs.RuleLaws.{runs_last}

pub returns-in_err-one : goal.returns-in_err-one
returns-in_err-one c =
    defines_none c.args.ts.now (function_behind c.args.kind) c.from_residual.result c.in_err-one.field-0.0 c.from_residual.ensures.1
    (λ xs. line_fails _ (lines.FunctionOf c.args.kind) _ _ c.in_err-one.ensures)

pub returns : goal.returns
returns c = (function_shrinks c.in_ok-one.ensures, λ xs o r. line_read c.in_ok-one.ensures (runs_last r))
