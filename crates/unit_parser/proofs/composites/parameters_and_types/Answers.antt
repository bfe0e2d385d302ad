use Rattle.std.specs.Prelude.{List}
use Rattle.expr_parser.specs.Rules.{done, call}
use Rattle.spl_tree.specs.declared.symbol.Symbol.TheVariants as S
use Rattle.spl_tree.specs.declared.unit.CompositeParameter.{CompositeParameter}
use Rattle.spl_tree.specs.declared.unit.TypeDefinition.{TypeDefinition}
use Rattle.statement_parser.proofs.Readings.{finished, passed, line_read, rule_fails, pass_fails, line_fails}
use Rattle.unit_parser.specs.steps.GivesParts.{parameters_and_types}
use Rattle.statement_parser.specs.Lines.{R, CompositeParameterClause, TypeClause}
use Rattle.unit_parser.proofs.composites.parameters_and_types.Goals as goal

-- the rule after the parameters
abbrev typed : List CompositeParameter → R (List CompositeParameter × List TypeDefinition)
typed ps = call TypeClause (λ ts. done (ps, ts))

pub returns-in_err-behind : goal.returns-in_err-behind
returns-in_err-behind c =
    rule_fails parameters_and_types _ c.args.ts.now c.args.ts.now _ c.in_err-behind.field-0.0 c.from_residual.ensures.1 (λ o q. q)
    (pass_fails _ S.LeftBrace (call CompositeParameterClause typed) _ c.in_err-behind.ensures)

pub returns-in_err-parameters : goal.returns-in_err-parameters
returns-in_err-parameters c =
    rule_fails parameters_and_types _ c.args.ts.now c.in_ok-behind.behind.now _ c.in_err-parameters.field-0.0 c.from_residual-in_err-parameters.ensures.1
    (λ o q. passed S.LeftBrace c.in_ok-behind.ensures q)
    (line_fails _ CompositeParameterClause typed _ c.in_err-parameters.ensures)

pub returns-in_err-types : goal.returns-in_err-types
returns-in_err-types c =
    rule_fails parameters_and_types _ c.args.ts.now c.in_ok-parameters.behind.now _ c.in_err-types.field-0.0 c.from_residual-in_err-types.ensures.1
    (λ o q. passed S.LeftBrace c.in_ok-behind.ensures (line_read c.in_ok-parameters.ensures q))
    (line_fails _ TypeClause (λ ts. done (c.in_ok-parameters.parameters, ts)) _ c.in_err-types.ensures)

pub returns : goal.returns
returns c = passed S.LeftBrace c.in_ok-behind.ensures (line_read c.in_ok-parameters.ensures (line_read c.in_ok-types.ensures finished))
