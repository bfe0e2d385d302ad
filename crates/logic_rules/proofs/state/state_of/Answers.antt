use Rattle.std.proofs.Common.{◌∙◌}
use Rattle.language_model.specs.LogicTyping.{state_variable}
use Rattle.language_model.specs.parts.LogicTyping.{state_typing}
use Rattle.written_types.specs.TypeScopes.{types_in}
use Rattle.type_rules.proofs.FoundRows.{row_on, row_stops}
use Rattle.logic_rules.proofs.StateTyping.{state_row}
use Rattle.logic_rules.proofs.state.state_of.Goals as goal
use Rattle.language_model.proofs.FoundAnswers.{fails, finds_by}

pub loop-declaration-preserved : goal.loop-declaration-preserved
loop-declaration-preserved c =
    let types = types_in c.args.types.now in
    let given = c.args.scope.now.dollars in
    c.loop-declaration.invariant
    ∙ row_on (state_variable types given) (state_typing types given) (state_row types given) c.args.declarations.now c.loop-declaration.declaration-index c.loop-declaration.state
    c.declaration-item.result c.loop-declaration-test.true c.declaration-item.is c.in_ok-variable.variable c.push.new.self c.in_ok-variable.ensures c.in_ok-push.ensures.ok

pub returns-in_err-variable : goal.returns-in_err-variable
returns-in_err-variable c =
    let types = types_in c.args.types.now in
    let given = c.args.scope.now.dollars in
    finds_by _ _ _ c.loop-declaration.invariant
    (fails _ _ _ c.from_residual.ensures.1
    (row_stops (state_variable types given) (state_typing types given) (state_row types given) c.args.declarations.now c.loop-declaration.declaration-index c.loop-declaration.state
    c.declaration-item.result c.loop-declaration-test.true c.declaration-item.is _ c.in_err-variable.ensures))
