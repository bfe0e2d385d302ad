use Rattle.std.proofs.Common.{List, Err, Ok, [], ap, length, map, subst, sym, ◌∙◌}
use Rattle.language_model.proofs.parts.LogicTyping.{handler_setting}
use Rattle.language_model.specs.declared.scope.Port.{Port}
use Rattle.language_model.specs.Typing.{after}
use Rattle.language_model.specs.Finds.{Finds}
use Rattle.body_rules.specs.Handling.{handlers_in}
use Rattle.logic_rules.specs.ByPorts.{made_of}
use Rattle.clause_rules.specs.steps.Logic.{surroundings}
use Rattle.clause_rules.proofs.LogicFound.{as_made, found_as, inside}
use Rattle.clause_rules.proofs.logic.with_state.Goals as goal
use Rattle.language_model.proofs.FoundAnswers.{fails, finds_by, stops}

pub returns-in_err-handled-clause-code : goal.returns-in_err-handled-clause-code
returns-in_err-handled-clause-code c =
    let around = surroundings c.args.types.now c.args.scope.now c.args.outputs.now in
    let vars = c.in_ok-scope.field-0 in
    let none = c.replace-ports.new.dest in
    let hs = c.args.handlers.now in
    let is = found_as around c.args.state hs vars none (c.in_ok-scope.ensures ∙ ap (map (λ x. x.variable)) c.as_slice.ensures) (c.replace-ports.ensures.after ∙ c.new.ensures) in
    let scope = inside around.scope vars none in
    fails _ _ _ c.from_residual-in_err-handled.ensures.1
    (finds_by _ _ (Err c.in_err-handled.field-0.0) is
    (stops (handlers_in (handler_setting around) scope around.scope.ports [] hs) (as_made (length around.scope.ports) c.args.state) c.in_err-handled.field-0.0
    (subst (λ (ps : List Port). Finds (handlers_in (handler_setting around) scope ps [] hs) (Err c.in_err-handled.field-0.0)) c.replace-ports.ensures.value c.in_err-handled.ensures.code)))

pub returns-clause-code : goal.returns-clause-code
returns-clause-code c =
    let around = surroundings c.args.types.now c.args.scope.now c.args.outputs.now in
    let vars = c.in_ok-scope.field-0 in
    let none = c.replace-ports.new.dest in
    let hs = c.args.handlers.now in
    let is = found_as around c.args.state hs vars none (c.in_ok-scope.ensures ∙ ap (map (λ x. x.variable)) c.as_slice.ensures) (c.replace-ports.ensures.after ∙ c.new.ensures) in
    let scope = inside around.scope vars none in
    is
    ∙ ap (λ ps. after (handlers_in (handler_setting around) scope ps [] hs) (as_made (length around.scope.ports) c.args.state)) (sym c.replace-ports.ensures.value)
    ∙ ap (λ o. after o (as_made (length around.scope.ports) c.args.state)) c.in_ok-handled.ensures.code
    ∙ ap Ok (ap (λ n. made_of n c.args.state c.in_ok-handled.handled) (sym c.len-count.ensures) ∙ sym c.in_ok-by_ports.ensures)
