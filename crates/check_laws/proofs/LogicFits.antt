-- The logic of a Custom fits its ports.
use Rattle.std.specs.Prelude.{◌≡◌, ◌==◌, ◌+◌, ℕ, zero, suc, Bool, true, false, ◌&&◌, IsTrue, List, [], ◌∷◌, ◌++◌, length, Option, Some, None, Ok, slice_get, is_some, if◌then◌else◌, codes}
use Rattle.std.specs.List.{AllByRecursion}
use Rattle.std.specs.Str.{bytes_eq}
use Rattle.std.specs.Cmp.{first_so, second_so}
use Rattle.std.proofs.Common.{refl, sym, ap, subst, ◌∙◌, arith}
use Rattle.std.proofs.lemmas.Bool.{eqb-true}
use Rattle.spl_value.specs.declared.types.SplType.{SplType}
use Rattle.spl_value.proofs.FitsLaws.{default_fits}
use Rattle.spl_value.specs.Values.{default_value}
use Rattle.spl_tree.specs.declared.body.Statement.{Statement}
use Rattle.spl_tree.specs.declared.code.Code.{Code}
use Rattle.spl_tree.specs.declared.code.Slot.{Slot}
use Rattle.spl_tree.specs.declared.expression.Placed.{Placed}
use Rattle.spl_tree.specs.declared.statement.Declaration.{Declaration}
use Rattle.spl_tree.specs.declared.unit.HandledEvent.{HandledEvent}
use Rattle.spl_tree.specs.declared.unit.HandledEvent.TheVariants as H
use Rattle.spl_tree.specs.declared.unit.Handler.{Handler}
use Rattle.spl_tree.specs.declared.unit.Logic.{Logic}
use Rattle.spl_tree.specs.Trees.{Expr}
use Rattle.language_model.specs.declared.checked.Handled.{Handled}
use Rattle.language_model.specs.declared.checked.StateVariable.{StateVariable}
use Rattle.language_model.specs.declared.scope.CheckError.TheVariants as E
use Rattle.language_model.specs.declared.scope.Dollar.{Dollar}
use Rattle.language_model.specs.declared.scope.Port.{Port}
use Rattle.language_model.specs.BodyFits.{OfHandler, RowFits}
use Rattle.language_model.specs.BodyTyping.{body_typing, first_value}
use Rattle.language_model.specs.CodeFits as G
use Rattle.language_model.specs.CodeFits.{CodeFits}
use Rattle.language_model.specs.FitLaws.{DollarsFit, no_names}
use Rattle.language_model.specs.Keeping.{HandlersFit, tuple_scope}
use Rattle.language_model.specs.LogicTyping.{Surroundings, event_word, handler_of, handler_scope, handler_typing, handlers_made, handlers_on, handlers_typing, is_event, logic_typing, state_value, state_variable}
use Rattle.language_model.proofs.parts.LogicTyping.{handler_setting}
use Rattle.language_model.specs.parts.LogicTyping.{is_plain, is_state_value, state_typing}
use Rattle.language_model.specs.Parameters.{constant_scope}
use Rattle.language_model.specs.Scopes.{At, first_from}
use Rattle.language_model.proofs.Standing.{Stands, first_stands}
use Rattle.language_model.specs.TypeNames.{Types, type_meant}
use Rattle.language_model.specs.Typing.{after, refused, typing}
use Rattle.check_laws.proofs.Accepting.{TypingGives, gives_if, none_at, wanted_fits}
use Rattle.check_laws.proofs.PlainStates.{state_plain}
use Rattle.language_model.proofs.FoundAnswers.{Gives, gives_after, gives_from, gives_then}

-- ---- the state

module _ (laws : TypingGives) (given : List Dollar) (fine : DollarsFit given) where
  -- a code of the type that names nothing
  abbrev Closed : SplType → Code Slot → Type 0
  Closed t code = CodeFits no_names code t

  first_fits : (t : SplType) (o : Option Expr) → Gives (Closed t) (first_value (constant_scope given) t o)
  first_fits t None = G.literal (default_value t) t (default_fits t)
  first_fits t (Some e) =
      gives_then (Closed t) (typing (constant_scope given) e (Some t)) _ (λ x is. laws.constant given x.code t (wanted_fits laws (constant_scope given) fine e t x is))

  value_fits : (t : SplType) (o : Option Expr) → Gives (Closed t) (state_value given t o)
  value_fits t None = first_fits t None
  value_fits t (Some e) =
      gives_if (Closed t) (is_state_value given e) (first_value (constant_scope given) t (Some e)) (refused E.LeftOut e.at (Some (codes "state")))
      (λ is. first_fits t (Some e)) (λ other. tt)

  abbrev pub FirstFits : StateVariable → Type 0
  FirstFits x = CodeFits no_names x.first x.variable.kind

  variable_fits : (types : Types) (d : Declaration) → Gives FirstFits (state_variable types given d)
  variable_fits types d =
      gives_then FirstFits (type_meant types d.kind) _ (λ t is.
      gives_after (Closed t) FirstFits (state_value given t d.value) _ (value_fits t d.value) (λ code h. h))

  pub state_fits : (types : Types) (ds : List Declaration) → Gives (AllByRecursion FirstFits) (state_typing types given ds)
  state_fits types [] = tt
  state_fits types (d ∷ ds) =
      gives_after FirstFits (AllByRecursion FirstFits) (state_variable types given d) _ (variable_fits types d) (λ x h.
      gives_after (AllByRecursion FirstFits) (AllByRecursion FirstFits) (state_typing types given ds) _ (state_fits types ds) (λ xs rest. (h, rest)))

-- ---- handlers

same_event : (a b : HandledEvent) → is_event a b ≡ true → a ≡ b
same_event H.Tuple H.Tuple e = refl
same_event H.Punctuation H.Punctuation e = refl
same_event a b e = absurd cc

module _ (laws : TypingGives) (around : Surroundings) (fine : DollarsFit around.scope.dollars) (state : List StateVariable) where
  same_dollars : (event : HandledEvent) (port : Port) → (handler_scope around state event port).dollars ≡ around.scope.dollars
  same_dollars H.Tuple port = refl
  same_dollars H.Punctuation port = refl

  -- a body on an event of a port
  abbrev BodyFits : HandledEvent → ℕ → List Statement → Type 0
  BodyFits event k body =
      (port : Port) × (slice_get around.scope.ports k ≡ Some port) × RowFits (OfHandler around.schemas) false (handler_scope around state event port) body

  abbrev HandledFits : Handled → Type 0
  HandledFits h = BodyFits h.event h.port h.body

  one_fits : (before : List Handled) (h : Placed Handler) (p : Port → Bool) (o : Option (At Port)) → Stands p around.scope.ports 0 o
      → Gives HandledFits (handler_typing around state before h o)
  one_fits before h p None stands = tt
  one_fits before h p (Some port) stands =
      gives_if HandledFits (is_some (handler_of h.what.event port.place before)) (refused E.ExtraParameter h.at (Some (event_word h.what.event)))
      (after (body_typing (handler_setting around) (handler_scope around state h.what.event port.what) h.what.body)
      (λ row. Ok (record { event = h.what.event; port = port.place; body = row }))) (λ twice. tt) (λ first.
      gives_then HandledFits (body_typing (handler_setting around) (handler_scope around state h.what.event port.what) h.what.body) _ (λ row is.
      let place : port.place ≡ stands.0 = omega (arith, stands.1) in (
        port.what,
        ap (slice_get around.scope.ports) place ∙ stands.2,
        laws.body (handler_setting around) (handler_scope around state h.what.event port.what) h.what.body row
            (subst DollarsFit (sym (same_dollars h.what.event port.what)) fine) is,
      )))

  all-append : (xs : List Handled) (x : Handled) → AllByRecursion HandledFits xs → HandledFits x → AllByRecursion HandledFits (xs ++ x ∷ [])
  all-append [] x h g = (g, tt)
  all-append (y ∷ xs) x h g = (h.0, all-append xs x h.1 g)

  handlers_each : (before : List Handled) → AllByRecursion HandledFits before → (hs : List (Placed Handler))
      → Gives (AllByRecursion HandledFits) (handlers_typing around state before hs)
  handlers_each before all [] = all
  handlers_each before all (h ∷ hs) =
      gives_after HandledFits (AllByRecursion HandledFits)
      (handler_typing around state before h (first_from (λ p. bytes_eq p.name h.what.port.what) 0 around.scope.ports)) _
      (one_fits before h (λ p. bytes_eq p.name h.what.port.what) (first_from (λ p. bytes_eq p.name h.what.port.what) 0 around.scope.ports)
      (first_stands (λ p. bytes_eq p.name h.what.port.what) around.scope.ports 0))
      (λ x fit. handlers_each (before ++ x ∷ []) (all-append before x all fit) hs)

  -- the one of an event on a port
  body_of : (event : HandledEvent) (k : ℕ) (handled : List Handled) (body : List Statement) → AllByRecursion HandledFits handled → handler_of event k handled ≡ Some body
      → BodyFits event k body
  body_of event k [] body h e = absurd cc
  body_of event k (x ∷ handled) body h e =
      elim (is_event x.event event && (x.port == k)) as (λ b. (is_event x.event event && (x.port == k)) ≡ b
      → (if b then Some x.body else handler_of event k handled) ≡ Some body → BodyFits event k body) [
        | true ↦ λ is e.
            let event_is : x.event ≡ event = same_event x.event event (first_so (is_event x.event event) (x.port == k) is) in
            let port_is : x.port ≡ k = eqb-true x.port k (second_so (is_event x.event event) (x.port == k) is) in
            let body_is : x.body ≡ body = cc in
            subst (BodyFits event k) body_is (subst (λ j. BodyFits event j x.body) port_is (subst (λ v. BodyFits v x.port x.body) event_is h.0))
        | false ↦ λ other e. body_of event k handled body h.1 e
      ] refl e

  on_length : (event : HandledEvent) (handled : List Handled) (k count : ℕ) → length (handlers_on event handled k count) ≡ count
  on_length event handled k zero = refl
  on_length event handled k (suc count) = ap suc (on_length event handled (suc k) count)

  on_at : (event : HandledEvent) (handled : List Handled) (from count k : ℕ) (o : Option (List Statement)) → slice_get (handlers_on event handled from count) k ≡ Some o
      → handler_of event (from + k) handled ≡ o
  on_at event handled from zero k o e = absurd (none_at k o e)
  on_at event handled from (suc count) zero o e =
      let same : from + 0 ≡ from = omega arith in ap (λ j. handler_of event j handled) same ∙ (let is : handler_of event from handled ≡ o = cc in is)
  on_at event handled from (suc count) (suc k) o e =
      let same : from + suc k ≡ suc from + k = omega arith in ap (λ j. handler_of event j handled) same ∙ on_at event handled (suc from) count k o e

  on_first : (event : HandledEvent) (handled : List Handled) (k : ℕ) (body : List Statement) → AllByRecursion HandledFits handled
      → slice_get (handlers_on event handled 0 (length around.scope.ports)) k ≡ Some (Some body) → BodyFits event k body
  on_first event handled k body h e =
      let same : k ≡ 0 + k = omega arith in
      body_of event k handled body h (ap (λ j. handler_of event j handled) same ∙ on_at event handled 0 (length around.scope.ports) k (Some body) e)

  of_state : (xs : List StateVariable) → AllByRecursion (λ x. CodeFits no_names x.first x.variable.kind) xs → (k : ℕ) (x : StateVariable) → slice_get xs k ≡ Some x
      → CodeFits no_names x.first x.variable.kind
  of_state [] h k x e = absurd (none_at k x e)
  of_state (y ∷ xs) h zero x e = let same : y ≡ x = cc in subst (λ (z : StateVariable). CodeFits no_names z.first z.variable.kind) same h.0
  of_state (y ∷ xs) h (suc k) x e = of_state xs h.1 k x e

  abbrev ArePlain : Type 0
  ArePlain = (k : ℕ) (x : StateVariable) → slice_get state k ≡ Some x → IsTrue (is_plain x.first)

  made_fit : (handled : List Handled) → AllByRecursion (λ x. CodeFits no_names x.first x.variable.kind) state → ArePlain → AllByRecursion HandledFits handled
      → HandlersFit around.scope around.schemas (handlers_made around state handled)
  made_fit handled firsts plain all = record {
    state = of_state state firsts;
    plain = plain;
    tuples = on_length H.Tuple handled 0 (length around.scope.ports);
    markers = on_length H.Punctuation handled 0 (length around.scope.ports);
    on_tuple = λ k port body there is.
        let found : BodyFits H.Tuple k body = on_first H.Tuple handled k body all is in
        let equal : Some found.0 ≡ Some port = sym found.1 ∙ there in
        let same : found.0 ≡ port = cc in
        subst (λ p. RowFits (OfHandler around.schemas) false (tuple_scope around.scope state p) body) same found.2;
    on_punct = λ k body is. (on_first H.Punctuation handled k body all is).2;
  }

-- ---- the clause

pub logic_fits : TypingGives → (around : Surroundings) → DollarsFit around.scope.dollars → (o : Option (Placed Logic))
    → Gives (HandlersFit around.scope around.schemas) (logic_typing around o)
logic_fits laws around fine None = made_fit laws around fine [] [] tt (λ k x e. absurd (none_at k x e)) tt
logic_fits laws around fine (Some l) =
    gives_then (HandlersFit around.scope around.schemas) (state_typing around.types around.scope.dollars l.what.state) _ (λ state is.
    let firsts = gives_from (AllByRecursion (λ x. CodeFits no_names x.first x.variable.kind)) (state_typing around.types around.scope.dollars l.what.state) state
    (state_fits laws around.scope.dollars fine around.types l.what.state) is in
    let plain = state_plain around.types around.scope.dollars l.what.state state is in
    gives_after (AllByRecursion (HandledFits laws around fine state)) (HandlersFit around.scope around.schemas) (handlers_typing around state [] l.what.handlers) _
    (handlers_each laws around fine state [] tt l.what.handlers) (λ handled all. made_fit laws around fine state handled firsts plain all))
