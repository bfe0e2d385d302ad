-- How far the handlers of a Custom have come, and what they come to.
use Rattle.std.specs.Prelude.{◌≡◌, ◌+◌, ◌<◌, ℕ, Bool, true, false, List, [], ◌∷◌, ◌++◌, length, drop, if◌then◌else◌, Option, Some, is_some, Ok, Err}
use Rattle.std.specs.Str.{bytes_eq}
use Rattle.std.proofs.Common.{ap, sym, ◌∙◌, get_or}
use Rattle.spl_tree.specs.declared.body.Statement.{Statement}
use Rattle.spl_tree.specs.declared.expression.Placed.{Placed}
use Rattle.spl_tree.specs.declared.unit.HandledEvent.{HandledEvent}
use Rattle.spl_tree.specs.declared.unit.Handler.{Handler}
use Rattle.language_model.specs.declared.checked.Handled.{Handled}
use Rattle.language_model.specs.declared.scope.CheckError.TheVariants as E
use Rattle.language_model.specs.declared.scope.Port.{Port}
use Rattle.language_model.specs.declared.scope.Scope.{Scope}
use Rattle.language_model.specs.BodyTyping.{Setting, body_typing}
use Rattle.language_model.specs.LogicTyping.{event_word, handler_of}
use Rattle.language_model.specs.Scopes.{At, at_place, first_from}
use Rattle.language_model.specs.Typing.{Found, after, refused}
use Rattle.language_model.specs.declared.answer.TypeAnswer.{TypeAnswer}
use Rattle.language_model.specs.Finds.{Finds}
use Rattle.body_rules.specs.Handling.{handled_in, handlers_in, seen_scope}
use Rattle.language_model.proofs.FoundAnswers.{finds_by, stops}
use Rattle.spl_value.proofs.Lists.{drop_at}

-- ---- one handler

pub port_there : (ports seen : List Port) (written name : List ℕ) (o : Option (At Port)) → seen ≡ ports → name ≡ written
    → first_from (λ p. bytes_eq p.name name) 0 seen ≡ o → first_from (λ p. bytes_eq p.name written) 0 ports ≡ o
port_there ports seen written name o same named is =
    ap (first_from (λ p. bytes_eq p.name written) 0) (sym same) ∙ ap (λ n. first_from (λ p. bytes_eq p.name n) 0 seen) (sym named) ∙ is

abbrev pub as_handled : HandledEvent → ℕ → List Statement → Found Handled
as_handled event port row = Ok (record { event = event; port = port; body = row })

module _ (setting : Setting) (scope : Scope) (before : List Handled) (h : Placed Handler) (o : Option (At Port)) (i n : ℕ) (p : Port)
    (found : o ≡ Some (at_place i p)) (narrow : n ≡ i) where
  abbrev choice : ℕ → Bool → Found Handled
  choice n b =
      if b then refused E.ExtraParameter h.at (Some (event_word h.what.event))
      else after (body_typing setting (seen_scope scope h.what.event p) h.what.body) (λ row. Ok (record { event = h.what.event; port = n; body = row }))

  chosen : (b : Bool) → b ≡ is_some (handler_of h.what.event n before) → handled_in setting scope before h o ≡ choice n b
  chosen b is =
      ap (handled_in setting scope before h) found
      ∙ ap (λ m. choice m (is_some (handler_of h.what.event m before))) (sym narrow)
      ∙ ap (choice n) (sym is)

  pub handled_before : true ≡ is_some (handler_of h.what.event n before)
      → handled_in setting scope before h o ≡ refused E.ExtraParameter h.at (Some (event_word h.what.event))
  handled_before is = chosen true is

  pub handled_first : false ≡ is_some (handler_of h.what.event n before)
      → handled_in setting scope before h o
      ≡ after (body_typing setting (seen_scope scope h.what.event p) h.what.body) (λ row. Ok (record { event = h.what.event; port = n; body = row }))
  handled_first is = chosen false is

-- ---- all handlers

-- the handlers of all are those that were found and then those of what is left, and the scope and the ports are as they were
pub record Comes (setting : Setting) (scope : Scope) (ports : List Port) (all : List (Placed Handler)) (now : Scope) (ports_now : List Port) (found : List Handled) (left : List (Placed Handler)) : Type 0 where
  pub same : handlers_in setting scope ports [] all ≡ handlers_in setting now ports_now found left
  pub same_scope : now ≡ scope
  pub same_ports : ports_now ≡ ports
  pub no_ports : now.ports ≡ []
  pub no_marker : now.punct ≡ false

module _ (setting : Setting) (first : Scope) (first_ports : List Port) (hs : List (Placed Handler)) (scope : Scope) (ports : List Port) (found : List Handled) (i : ℕ)
    (come : Comes setting first first_ports hs scope ports found (drop i hs)) (h : Placed Handler) (lt : i < length hs) (e : h ≡ get_or hs i h) where
  abbrev pub step : Found Handled
  step = handled_in setting scope found h (first_from (λ p. bytes_eq p.name h.what.port.what) 0 ports)

  unrolled : handlers_in setting first first_ports [] hs ≡ after step (λ x. handlers_in setting scope ports (found ++ x ∷ []) (drop (i + 1) hs))
  unrolled = come.same ∙ ap (handlers_in setting scope ports found) (drop_at hs i h lt e)

  pub comes_on : (x : Handled) (next : Scope) (next_ports : List Port) (more : List Handled) → step ≡ Ok x → next ≡ scope → next_ports ≡ ports → more ≡ found ++ x ∷ []
      → Comes setting first first_ports hs next next_ports more (drop (i + 1) hs)
  comes_on x next next_ports more is same_scope same_ports pushed =
      record {
        same = unrolled
            ∙ ap (λ o. after o (λ x. handlers_in setting scope ports (found ++ x ∷ []) (drop (i + 1) hs))) is
            ∙ ap (λ xs. handlers_in setting scope ports xs (drop (i + 1) hs)) (sym pushed)
            ∙ ap (λ s. handlers_in setting s ports more (drop (i + 1) hs)) (sym same_scope)
            ∙ ap (λ ps. handlers_in setting next ps more (drop (i + 1) hs)) (sym same_ports);
        same_scope = same_scope ∙ come.same_scope;
        same_ports = same_ports ∙ come.same_ports;
        no_ports = ap (λ s. s.ports) same_scope ∙ come.no_ports;
        no_marker = ap (λ s. s.punct) same_scope ∙ come.no_marker;
      }

  pub comes_out : (a : TypeAnswer) → Finds step (Err a) → Finds (handlers_in setting first first_ports [] hs) (Err a)
  comes_out a is = finds_by _ _ (Err a) unrolled (stops step (λ x. handlers_in setting scope ports (found ++ x ∷ []) (drop (i + 1) hs)) a is)
