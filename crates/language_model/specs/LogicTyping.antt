-- The logic of a Custom: the variables of its state, and then its handlers, in the order of the text; or the first
-- refusal.
use Rattle.std.specs.Prelude.{ℕ, zero, suc, ◌==◌, Bool, true, false, ◌&&◌, List, [], ◌∷◌, ◌++◌, map, length, if◌then◌else◌, codes, Option, Some, None, Result, Ok, is_some}
use Rattle.std.specs.List.{list_all}
use Rattle.std.specs.Str.{bytes_eq}
use Rattle.spl_value.specs.declared.types.Named.{Named}
use Rattle.spl_value.specs.declared.types.SplType.{SplType}
use Rattle.spl_tree.specs.declared.body.Statement.{Statement}
use Rattle.spl_tree.specs.declared.code.Code.{Code}
use Rattle.spl_tree.specs.declared.code.Code.TheOpen as C
use Rattle.spl_tree.specs.declared.code.Code.TheOpen.{Code-F}
use Rattle.spl_tree.specs.declared.code.Code.TheFolds.{fold-Code}
use Rattle.spl_tree.specs.declared.code.Slot.{Slot}
use Rattle.spl_tree.specs.declared.code.UnaryCode.{UnaryCode}
use Rattle.spl_tree.specs.declared.code.UnaryCode.TheVariants as U
use Rattle.spl_tree.specs.declared.expression.ExprKind.TheOpen as X
use Rattle.spl_tree.specs.declared.expression.ExprKind.TheOpen.{ExprKind-F}
use Rattle.spl_tree.specs.declared.expression.ExprKind.TheFolds.{fold-ExprKind}
use Rattle.spl_tree.specs.declared.expression.Placed.{Placed}
use Rattle.spl_tree.specs.declared.expression.PrefixOperator.{PrefixOperator}
use Rattle.spl_tree.specs.declared.expression.PrefixOperator.TheVariants as P
use Rattle.spl_tree.specs.declared.statement.Declaration.{Declaration}
use Rattle.spl_tree.specs.declared.unit.HandledEvent.{HandledEvent}
use Rattle.spl_tree.specs.declared.unit.HandledEvent.TheVariants as H
use Rattle.spl_tree.specs.declared.unit.Handler.{Handler}
use Rattle.spl_tree.specs.declared.unit.Logic.{Logic}
use Rattle.spl_tree.specs.Trees.{Expr}
use Rattle.language_model.specs.declared.checked.Handled.{Handled}
use Rattle.language_model.specs.declared.checked.Handlers.{Handlers}
use Rattle.language_model.specs.declared.checked.StateVariable.{StateVariable}
use Rattle.language_model.specs.declared.scope.CheckError.TheVariants as E
use Rattle.language_model.specs.declared.scope.CheckRefusal.{CheckRefusal}
use Rattle.language_model.specs.declared.scope.Dollar.{Dollar}
use Rattle.language_model.specs.declared.scope.Port.{Port}
use Rattle.language_model.specs.declared.scope.Scope.{Scope}
use Rattle.language_model.specs.declared.scope.Typed.{Typed}
use Rattle.language_model.specs.After.{each}
use Rattle.language_model.specs.BodyFits.{OfHandler}
use Rattle.language_model.specs.BodyTyping.{body_typing, first_value, variable}
use Rattle.language_model.specs.Parameters.{constant_scope}
use Rattle.language_model.specs.Scopes.{At, dollar_of, first_from}
use Rattle.language_model.specs.TypeNames.{Types, type_meant}
use Rattle.language_model.specs.Typing.{Found, after, refused, unknown}

-- ---- first values of the state

abbrev pub is_minus : UnaryCode → Bool
is_minus (U.Negate kind) = true
is_minus _ = false

-- a code of literals, `-`, and lists, maps and tuples of such
abbrev pub level_plain : Code-F Slot Bool → Bool
level_plain (C.Literal v) = true
level_plain (C.List xs) = list_all (λ x. x) xs
level_plain (C.Map xs) = list_all (λ x. x.0 && x.1) xs
level_plain (C.Tuple fs) = list_all (λ f. f.1) fs
level_plain (C.Unary ops x) = list_all is_minus ops && x
level_plain _ = false

-- a `$` parameter, where it means such a code. One with a refusal passes, so that the refusal is given
abbrev pub plain_parameter : Option (Result Typed CheckRefusal) → Bool
plain_parameter (Some (Ok t)) = fold-Code Slot Bool level_plain t.code
plain_parameter _ = true

abbrev pub is_negation : PrefixOperator → Bool
is_negation P.Negate = true
is_negation _ = false

-- an expression of literals, `-`, and lists, maps and tuples of such, in parentheses or not
abbrev pub level_state : List Dollar → ExprKind-F Bool → Bool
level_state given (X.Number n) = true
level_state given (X.Text bytes) = true
level_state given (X.Bool b) = true
level_state given (X.Dollar name) = plain_parameter (dollar_of given name)
level_state given (X.Group e) = e.what
level_state given (X.List es) = list_all (λ e. e.what) es
level_state given (X.Map es) = list_all (λ e. e.0.what && e.1.what) es
level_state given (X.Tuple fs) = list_all (λ f. f.value.what) fs
level_state given (X.Unary ps e) = list_all (λ p. is_negation p.what) ps && e.what
level_state given _ = false

abbrev pub state_value : List Dollar → SplType → Option Expr → Found (Code Slot)
state_value given t None = first_value (constant_scope given) t None
state_value given t (Some e) =
    if fold-ExprKind Bool (level_state given) e.what then first_value (constant_scope given) t (Some e)
    else refused E.LeftOut e.at (Some (codes "state"))

-- ---- the state

abbrev pub state_variable : Types → List Dollar → Declaration → Found StateVariable
state_variable types given d = after (type_meant types d.kind) (λ t. after (state_value given t d.value) (λ code.
    Ok (record { variable = variable d.mutable d.name.what t; first = code })))

-- ---- handlers

abbrev pub is_event : HandledEvent → HandledEvent → Bool
is_event H.Tuple H.Tuple = true
is_event H.Punctuation H.Punctuation = true
is_event _ _ = false

abbrev pub event_word : HandledEvent → List ℕ
event_word H.Tuple = codes "onTuple"
event_word H.Punctuation = codes "onPunct"

-- the handler of an event on a port
abbrev pub handler_of : HandledEvent → ℕ → List Handled → Option (List Statement)
handler_of event port [] = None
handler_of event port (h ∷ hs) =
    if is_event h.event event && (h.port == port) then Some h.body else handler_of event port hs

-- where a Custom stands: what the names of types mean, what its expressions may name besides the state, and its outputs
-- by their names and attributes
pub record Surroundings : Type 0 where
  pub types : Types
  pub scope : Scope
  pub outputs : List (List ℕ)
  pub schemas : List (List (Named SplType))

-- a handler of tuples sees the port's, and one of markers sees none but may ask for the marker
abbrev pub handler_scope : Surroundings → List StateVariable → HandledEvent → Port → Scope
handler_scope around state H.Tuple port =
    record around.scope { vars = map (λ x. x.variable) state; ports = port ∷ []; punct = false }
handler_scope around state H.Punctuation port =
    record around.scope { vars = map (λ x. x.variable) state; ports = []; punct = true }

-- on a port of the name, whose event has no handler before
abbrev pub handler_typing : Surroundings → List StateVariable → List Handled → Placed Handler → Option (At Port)
    → Found Handled
handler_typing around state before h None = unknown h.what.port.at h.what.port.what
handler_typing around state before h (Some port) =
    if is_some (handler_of h.what.event port.place before)
    then refused E.ExtraParameter h.at (Some (event_word h.what.event))
    else after (body_typing (record {
      types = around.types;
      purpose = OfHandler around.schemas;
      outputs = around.outputs;
    })
    (handler_scope around state h.what.event port.what) h.what.body) (λ row.
    Ok (record { event = h.what.event; port = port.place; body = row }))

abbrev pub handlers_typing : Surroundings → List StateVariable → List Handled → List (Placed Handler)
    → Found (List Handled)
handlers_typing around state before [] = Ok before
handlers_typing around state before (h ∷ hs) =
    after (handler_typing around state before h (first_from
    (λ p. bytes_eq p.name h.what.port.what) 0 around.scope.ports))
    (λ x. handlers_typing around state (before ++ x ∷ []) hs)

-- the handlers of an event on this number of ports, from one on
abbrev pub handlers_on : HandledEvent → List Handled → ℕ → ℕ → List (Option (List Statement))
handlers_on event handled port zero = []
handlers_on event handled port (suc count) = handler_of event port handled ∷ handlers_on event handled (suc port) count

-- ---- the clause

abbrev pub handlers_made : Surroundings → List StateVariable → List Handled → Handlers
handlers_made around state handled = record {
  state = state;
  on_tuple = handlers_on H.Tuple handled 0 (length around.scope.ports);
  on_punct = handlers_on H.Punctuation handled 0 (length around.scope.ports);
}

-- a Custom without logic does nothing
abbrev pub logic_typing : Surroundings → Option (Placed Logic) → Found Handlers
logic_typing around None = Ok (handlers_made around [] [])
logic_typing around (Some l) =
    after (each (state_variable around.types around.scope.dollars) (λ x. x) l.what.state) (λ state.
    after (handlers_typing around state [] l.what.handlers) (λ handled. Ok (handlers_made around state handled)))
