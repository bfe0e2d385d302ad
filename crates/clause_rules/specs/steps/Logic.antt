-- Where a Custom stands, by what a call is given, and what its handlers are.
use Rattle.std.specs.Prelude.{List, [], map, Ok}
use Rattle.spl_tree.specs.declared.expression.Placed.{Placed}
use Rattle.spl_tree.specs.declared.unit.Handler.{Handler}
use Rattle.language_model.specs.declared.checked.Handlers.{Handlers}
use Rattle.language_model.specs.declared.checked.StateVariable.{StateVariable}
use Rattle.language_model.specs.declared.scope.Port.{Port}
use Rattle.language_model.specs.declared.scope.Scope.{Scope}
use Rattle.language_model.specs.LogicTyping.{Surroundings, handlers_made, handlers_typing}
use Rattle.language_model.specs.Typing.{Found, after}
use Rattle.written_types.specs.declared.finding.TypeScope.{TypeScope}
use Rattle.written_types.specs.TypeScopes.{types_in}

-- where names mean these types, in a scope with the input ports, before these output ports
abbrev pub surroundings : TypeScope → Scope → List Port → Surroundings
surroundings types scope outputs =
    record { types = types_in types; scope = scope; outputs = map (λ p. p.name) outputs; schemas = map (λ p. p.schema) outputs }

-- the result of the handlers of a Custom with a state
abbrev pub handlers_found : Surroundings → List (Placed Handler) → List StateVariable → Found Handlers
handlers_found around hs state = after (handlers_typing around state [] hs) (λ handled. Ok (handlers_made around state handled))
