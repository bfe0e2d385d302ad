use Rattle.std.proofs.Common.{[], ap, sym, ◌∙◌}
use Rattle.language_model.specs.BodyFits.{OfFunction}
use Rattle.language_model.specs.BodyTyping.{body_typing}
use Rattle.language_model.specs.FunctionTyping.{FunctionTypes as Typing, function_types, if_returning}
use Rattle.language_model.specs.Typing.{after}
use Rattle.body_rules.specs.steps.Signatures.{with_parameters}
use Rattle.written_types.specs.TypeScopes.{types_in}
use Rattle.language_model.proofs.FoundAnswers.{finds_by}
use Rattle.body_rules.proofs.Signing.{types_are}
use Rattle.body_rules.proofs.functions.function_of.Goals as goal

-- its types are found, and the code of its body
pub returns-clause-code : goal.returns-clause-code
returns-clause-code c =
    let types = types_in c.args.types.now in
    let f = c.args.function.now in
    let t : Typing = record { result = c.in_ok-found.found.result; parameters = c.in_ok-found.found.parameters } in
    finds_by _ _ c.returning.result
    (ap (λ o. after o (λ t. after (body_typing (record { types = types; purpose = OfFunction t.result; outputs = [] }) (with_parameters c.args.scope.now t.parameters) f.body) (if_returning f t)))
    (types_are (function_types types f) c.in_ok-found.found c.in_ok-found.ensures)
    ∙ ap (λ ss. after (body_typing (record { types = types; purpose = OfFunction t.result; outputs = [] }) (with_parameters c.args.scope.now t.parameters) ss) (if_returning f t)) (sym c.as_slice.ensures)
    ∙ ap (λ o. after o (if_returning f t)) c.in_ok-body.ensures.code)
    c.returning.ensures
