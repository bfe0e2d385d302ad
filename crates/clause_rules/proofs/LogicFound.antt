-- What the handlers of a Custom are in its surroundings.
use Rattle.std.specs.Prelude.{◌≡◌, ℕ, List, [], ◌∷◌, ◌++◌, length, map, if◌then◌else◌, Option, Some, None, is_some, Ok, Err}
use Rattle.std.specs.Str.{bytes_eq}
use Rattle.std.proofs.Common.{Result, refl, ap, sym, ◌∙◌}
use Rattle.spl_tree.specs.declared.expression.Placed.{Placed}
use Rattle.spl_tree.specs.declared.unit.HandledEvent.{HandledEvent}
use Rattle.spl_tree.specs.declared.unit.HandledEvent.TheVariants as H
use Rattle.spl_tree.specs.declared.unit.Handler.{Handler}
use Rattle.spl_tree.specs.declared.unit.Logic.{Logic}
use Rattle.language_model.specs.declared.checked.Handled.{Handled}
use Rattle.language_model.specs.declared.checked.Handlers.{Handlers}
use Rattle.language_model.specs.declared.checked.StateVariable.{StateVariable}
use Rattle.language_model.specs.declared.scope.CheckError.TheVariants as E
use Rattle.language_model.specs.declared.scope.Port.{Port}
use Rattle.language_model.specs.declared.scope.Scope.{Scope}
use Rattle.language_model.specs.declared.scope.Variable.{Variable}
use Rattle.language_model.specs.BodyTyping.{body_typing}
use Rattle.language_model.specs.LogicTyping.{Surroundings, event_word, handler_of, handler_scope, handler_typing, handlers_typing, logic_typing}
use Rattle.language_model.proofs.parts.LogicTyping.{handler_setting}
use Rattle.language_model.specs.parts.LogicTyping.{state_typing}
use Rattle.language_model.specs.Scopes.{At, first_from}
use Rattle.language_model.specs.Typing.{Found, after, refused}
use Rattle.language_model.specs.declared.answer.TypeAnswer.{TypeAnswer}
use Rattle.language_model.specs.Finds.{Finds}
use Rattle.written_types.specs.declared.finding.TypeScope.{TypeScope}
use Rattle.written_types.specs.TypeScopes.{types_in}
use Rattle.body_rules.specs.Handling.{handled_in, handlers_in, seen_scope}
use Rattle.logic_rules.specs.ByPorts.{made_of}
use Rattle.clause_rules.specs.steps.Logic.{handlers_found, surroundings}
use Rattle.language_model.proofs.FoundAnswers.{finds_by, goes, stops}

abbrev pub as_made : ℕ → List StateVariable → List Handled → Found Handlers
as_made count state handled = Ok (made_of count state handled)

-- with these variables and ports
abbrev pub inside : Scope → List Variable → List Port → Scope
inside scope vars ports = record scope { vars = vars; ports = ports }

module _ (around : Surroundings) (state : List StateVariable) where
  abbrev pub bare : Scope
  bare = inside around.scope (map (λ x. x.variable) state) []

  scope_as : (event : HandledEvent) (p : Port) → handler_scope around state event p ≡ seen_scope bare event p
  scope_as H.Tuple p = refl
  scope_as H.Punctuation p = refl

  handler_as : (before : List Handled) (h : Placed Handler) (o : Option (At Port)) → handler_typing around state before h o ≡ handled_in (handler_setting around) bare before h o
  handler_as before h None = refl
  handler_as before h (Some p) =
      ap (λ s. if is_some (handler_of h.what.event p.place before) then refused E.ExtraParameter h.at (Some (event_word h.what.event))
      else after (body_typing (handler_setting around) s h.what.body) (λ row. Ok (record { event = h.what.event; port = p.place; body = row })))
      (scope_as h.what.event p.what)

  handlers_as : (before : List Handled) (hs : List (Placed Handler)) → handlers_typing around state before hs ≡ handlers_in (handler_setting around) bare around.scope.ports before hs
  handlers_as before [] = refl
  handlers_as before (h ∷ hs) =
      let o = first_from (λ p. bytes_eq p.name h.what.port.what) 0 around.scope.ports in
      ap (λ f. after f (λ x. handlers_typing around state (before ++ x ∷ []) hs)) (handler_as before h o)
      ∙ (λ i. after (handled_in (handler_setting around) bare before h o) (λ x. handlers_as (before ++ x ∷ []) hs i))

  pub found_as : (hs : List (Placed Handler)) (vars : List Variable) (ports : List Port) → vars ≡ map (λ x. x.variable) state → ports ≡ []
      → handlers_found around hs state
      ≡ after (handlers_in (handler_setting around) (inside around.scope vars ports) around.scope.ports [] hs) (as_made (length around.scope.ports) state)
  found_as hs vars ports v p =
      ap (λ o. after o (as_made (length around.scope.ports) state))
      (handlers_as [] hs ∙ (λ i. handlers_in (handler_setting around) (inside around.scope (sym v i) (sym p i)) around.scope.ports [] hs))

-- ---- the clause

module _ (types : TypeScope) (scope : Scope) (outputs : List Port) (l : Placed Logic) where
  abbrev found_state : Found (List StateVariable)
  found_state = state_typing (types_in types) scope.dollars l.what.state

  abbrev by_scope : Scope → List StateVariable → Found Handlers
  by_scope scope = handlers_found (surroundings types scope outputs) l.what.handlers

  pub logic_stops : (a : TypeAnswer) → Finds found_state (Err a) → Finds (logic_typing (surroundings types scope outputs) (Some l)) (Err a)
  logic_stops a h = stops found_state (by_scope scope) a h

  pub logic_goes : (state : List StateVariable) (next : Scope) (r : Result Handlers TypeAnswer) → found_state ≡ Ok state → next ≡ scope
      → Finds (by_scope next state) r → Finds (logic_typing (surroundings types scope outputs) (Some l)) r
  logic_goes state next r is same h =
      goes found_state (by_scope scope) state r is (finds_by _ _ r (ap (λ s. by_scope s state) (sym same)) h)
