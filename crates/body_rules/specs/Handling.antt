-- What the handlers of a Custom are, where the variables of the scope are those of its state.
use Rattle.std.specs.Prelude.{true, false, List, [], ◌∷◌, ◌++◌, if◌then◌else◌, Option, Some, None, Ok, is_some}
use Rattle.std.specs.Str.{bytes_eq}
use Rattle.spl_tree.specs.declared.expression.Placed.{Placed}
use Rattle.spl_tree.specs.declared.unit.HandledEvent.{HandledEvent}
use Rattle.spl_tree.specs.declared.unit.HandledEvent.TheVariants as H
use Rattle.spl_tree.specs.declared.unit.Handler.{Handler}
use Rattle.language_model.specs.declared.checked.Handled.{Handled}
use Rattle.language_model.specs.declared.scope.CheckError.TheVariants as E
use Rattle.language_model.specs.declared.scope.Port.{Port}
use Rattle.language_model.specs.declared.scope.Scope.{Scope}
use Rattle.language_model.specs.BodyTyping.{Setting, body_typing}
use Rattle.language_model.specs.LogicTyping.{event_word, handler_of}
use Rattle.language_model.specs.Scopes.{At, first_from}
use Rattle.language_model.specs.Typing.{Found, after, refused, unknown}

-- what a handler of the event on a port sees of a scope
abbrev pub seen_scope : Scope → HandledEvent → Port → Scope
seen_scope scope H.Tuple port = record scope { ports = port ∷ []; punct = false }
seen_scope scope H.Punctuation port = record scope { ports = []; punct = true }

-- a handler where the variables of the scope are those of the state
abbrev pub handled_in : Setting → Scope → List Handled → Placed Handler → Option (At Port) → Found Handled
handled_in setting scope before h None = unknown h.what.port.at h.what.port.what
handled_in setting scope before h (Some port) =
    if is_some (handler_of h.what.event port.place before) then refused E.ExtraParameter h.at (Some (event_word h.what.event))
    else after (body_typing setting (seen_scope scope h.what.event port.what) h.what.body)
    (λ row. Ok (record { event = h.what.event; port = port.place; body = row }))

-- handlers there, on these ports, after others
abbrev pub handlers_in : Setting → Scope → List Port → List Handled → List (Placed Handler) → Found (List Handled)
handlers_in setting scope ports before [] = Ok before
handlers_in setting scope ports before (h ∷ hs) =
    after (handled_in setting scope before h (first_from (λ p. bytes_eq p.name h.what.port.what) 0 ports))
    (λ x. handlers_in setting scope ports (before ++ x ∷ []) hs)
