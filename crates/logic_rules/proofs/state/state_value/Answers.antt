use Rattle.std.proofs.Common.{◌≡◌, Err, Ok, Some, false, true, ap, subst, sym, ◌∙◌}
use Rattle.std.specs.Option.{option_copied}
use Rattle.language_model.specs.declared.scope.Scope.{Scope}
use Rattle.language_model.specs.LogicTyping.{state_value}
use Rattle.language_model.specs.parts.LogicTyping.{is_state_value}
use Rattle.language_model.specs.Parameters.{constant_scope}
use Rattle.language_model.specs.Typing.{after, typing}
use Rattle.language_model.specs.Finds.{Finds}
use Rattle.logic_rules.proofs.StateTyping.{value_refused, value_typed}
use Rattle.logic_rules.proofs.state.state_value.Goals as goal
use Rattle.language_model.proofs.FoundAnswers.{fails, finds_by, stops}

pub returns-then-not-is_state_value : goal.returns-then-not-is_state_value
returns-then-not-is_state_value c =
    let given = c.args.scope.now.dollars in
    let value = c.in-Some.value.now in
    let not : false ≡ is_state_value given value = sym c.if-not-is_state_value.true ∙ c.is_state_value.ensures ∙ ap (λ d. is_state_value d value) c.as_slice.ensures in
    finds_by _ _ _ (ap (λ v. state_value given c.args.kind.now (option_copied v)) c.in-Some.is ∙ value_refused given c.args.kind.now value not) c.left_out.ensures

pub returns-in_err-type_of-in-Some : goal.returns-in_err-type_of-in-Some
returns-in_err-type_of-in-Some c =
    let given = c.args.scope.now.dollars in
    let value = c.in-Some.value.now in
    let is : true ≡ is_state_value given value = sym c.if-not-is_state_value.false ∙ c.is_state_value.ensures ∙ ap (λ d. is_state_value d value) c.as_slice.ensures in
    fails _ _ _ c.from_residual-in_err-type_of-in-Some.ensures.1
    (finds_by _ _ (Err c.in_err-type_of-in-Some.field-0.0) (ap (λ v. state_value given c.args.kind.now (option_copied v)) c.in-Some.is ∙ value_typed given c.args.kind.now value is)
    (stops (typing (constant_scope given) value (Some c.args.kind.now)) (λ x. Ok x.code) c.in_err-type_of-in-Some.field-0.0 (subst (λ (s : Scope). Finds (typing s value (Some c.args.kind.now)) (Err c.in_err-type_of-in-Some.field-0.0)) c.requires c.in_err-type_of-in-Some.ensures)))

pub returns-in_ok-type_of-in-Some : goal.returns-in_ok-type_of-in-Some
returns-in_ok-type_of-in-Some c =
    let given = c.args.scope.now.dollars in
    let value = c.in-Some.value.now in
    let is : true ≡ is_state_value given value = sym c.if-not-is_state_value.false ∙ c.is_state_value.ensures ∙ ap (λ d. is_state_value d value) c.as_slice.ensures in
    ap (λ v. state_value given c.args.kind.now (option_copied v)) c.in-Some.is
    ∙ value_typed given c.args.kind.now value is
    ∙ ap (λ s. after (typing s value (Some c.args.kind.now)) (λ x. Ok x.code)) (sym c.requires)
    ∙ ap (λ o. after o (λ x. Ok x.code)) c.in_ok-type_of-in-Some.ensures
    ∙ ap Ok (sym c.code_of.ensures)
