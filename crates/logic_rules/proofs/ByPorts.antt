-- Handlers by their ports, filled in from the last one on.
use Rattle.std.specs.Prelude.{◌≡◌, ◌+◌, ◌<◌, ◌==◌, ℕ, zero, suc, Bool, true, false, ◌&&◌, List, [], ◌∷◌, ◌++◌, if◌then◌else◌, slice_set, Option, Some, None}
use Rattle.std.proofs.Common.{refl, ap, sym, ◌∙◌, arith, append_assoc, add-one, append-nil, eq-eqb}
use Rattle.std.proofs.lemmas.Bool.{ne_eqb}
use Rattle.spl_tree.specs.declared.body.Statement.{Statement}
use Rattle.spl_tree.specs.declared.unit.HandledEvent.{HandledEvent}
use Rattle.spl_tree.specs.declared.unit.HandledEvent.TheVariants as H
use Rattle.language_model.specs.declared.checked.Handled.{Handled}
use Rattle.language_model.specs.declared.checked.StateVariable.{StateVariable}
use Rattle.language_model.specs.LogicTyping.{handler_of, handlers_on, is_event}
use Rattle.logic_rules.specs.ByPorts.{made_of}
use Rattle.spl_value.proofs.Bools.{and_false as false_behind}

-- ---- ports without handlers

pub none_more : (event : HandledEvent) (port n : ℕ) → handlers_on event [] port (n + 1) ≡ handlers_on event [] port n ++ None ∷ []
none_more event port n = ap (handlers_on event [] port) (add-one n) ∙ more event port n
  where
    more : (event : HandledEvent) (port n : ℕ) → handlers_on event [] port (suc n) ≡ handlers_on event [] port n ++ None ∷ []
    more event port zero = refl
    more event port (suc n) = ap (λ xs. None ∷ xs) (more event (suc port) n)

pub none_each : (event other : HandledEvent) (port n : ℕ) → handlers_on event [] port n ≡ handlers_on other [] port n
none_each event other port zero = refl
none_each event other port (suc n) = ap (λ xs. None ∷ xs) (none_each event other (suc port) n)

-- ---- one handler in front of others

set_nothing : {A : Type 0} (d : ℕ) (y : A) → slice_set [] d y ≡ []
set_nothing zero y = refl
set_nothing (suc d) y = refl

module _ (event : HandledEvent) (h : Handled) (hs : List Handled) where
  abbrev one : ℕ → Bool → Option (List Statement)
  one port b = if b then Some h.body else handler_of event port hs

  here : (port : ℕ) → is_event h.event event ≡ true → h.port ≡ port → handler_of event port (h ∷ hs) ≡ Some h.body
  here port same at = ap (λ b. one port (b && (h.port == port))) same ∙ ap (one port) (eq-eqb h.port port at)

  elsewhere : (port : ℕ) → (h.port ≡ port → ⊥) → handler_of event port (h ∷ hs) ≡ handler_of event port hs
  elsewhere port other =
      ap (λ b. one port (is_event h.event event && b)) (ne_eqb h.port port other) ∙ ap (one port) (false_behind (is_event h.event event))

  behind : (port n : ℕ) → h.port < port → handlers_on event (h ∷ hs) port n ≡ handlers_on event hs port n
  behind port zero past = refl
  behind port (suc n) past =
      let first = elsewhere port (λ e. omega arith) in
      let rest = behind (suc port) n (omega arith) in
      λ i. first i ∷ rest i

  from_port : (port d n : ℕ) → h.port ≡ port + d → is_event h.event event ≡ true
      → handlers_on event (h ∷ hs) port n ≡ slice_set (handlers_on event hs port n) d (Some h.body)
  from_port port d zero at same = sym (set_nothing d (Some h.body))
  from_port port zero (suc n) at same =
      let first = here port same (omega arith) in
      let rest = behind (suc port) n (omega arith) in
      λ i. first i ∷ rest i
  from_port port (suc d) (suc n) at same =
      let first = elsewhere port (λ e. omega arith) in
      let rest = from_port (suc port) d n (omega arith) same in
      λ i. first i ∷ rest i

  -- one of the event counts before the others
  pub of_event : (n : ℕ) → is_event h.event event ≡ true → handlers_on event (h ∷ hs) 0 n ≡ slice_set (handlers_on event hs 0 n) h.port (Some h.body)
  of_event n same = from_port 0 h.port n (omega arith) same

  -- and one of the other event doesn't count
  pub of_other : (port n : ℕ) → is_event h.event event ≡ false → handlers_on event (h ∷ hs) port n ≡ handlers_on event hs port n
  of_other port zero other = refl
  of_other port (suc n) other =
      let first = ap (λ b. one port (b && (h.port == port))) other in
      let rest = of_other (suc port) n other in
      λ i. first i ∷ rest i

-- ---- the loop

-- the handlers after those that are left are at their ports
pub record Reaches (all left : List Handled) (count : ℕ) (on_tuple on_punct : List (Option (List Statement))) : Type 0 where
  pub rest : List Handled
  pub joined : all ≡ left ++ rest
  pub tuples : on_tuple ≡ handlers_on H.Tuple rest 0 count
  pub markers : on_punct ≡ handlers_on H.Punctuation rest 0 count

module _ (all left : List Handled) (count : ℕ) (on_tuple on_punct : List (Option (List Statement))) where
  pub none_reached : left ≡ all → on_tuple ≡ handlers_on H.Tuple [] 0 count → on_punct ≡ handlers_on H.Punctuation [] 0 count
      → Reaches all left count on_tuple on_punct
  none_reached same tuples markers = record { rest = []; joined = sym same ∙ sym (append-nil left); tuples = tuples; markers = markers }

  pub all_reached : Reaches all left count on_tuple on_punct → left ≡ [] → (state : List StateVariable)
      → record { state = state; on_tuple = on_tuple; on_punct = on_punct } ≡ made_of count state all
  all_reached r none state =
      let whole : all ≡ r.rest = r.joined ∙ ap (λ xs. xs ++ r.rest) none in
      let tuples = r.tuples ∙ ap (λ hs. handlers_on H.Tuple hs 0 count) (sym whole) in
      let markers = r.markers ∙ ap (λ hs. handlers_on H.Punctuation hs 0 count) (sym whole) in
      λ i. record { state = state; on_tuple = tuples i; on_punct = markers i }

  module _ (r : Reaches all left count on_tuple on_punct) (fewer : List Handled) (h : Handled) (is : left ≡ fewer ++ h ∷ []) where
    longer : all ≡ fewer ++ h ∷ r.rest
    longer = r.joined ∙ ap (λ xs. xs ++ r.rest) is ∙ append_assoc fewer (h ∷ []) r.rest

    pub tuple_reached : (bodies : List (Option (List Statement))) → h.event ≡ H.Tuple → bodies ≡ slice_set on_tuple h.port (Some h.body)
        → Reaches all fewer count bodies on_punct
    tuple_reached bodies event put =
        record {
          rest = h ∷ r.rest;
          joined = longer;
          tuples = put ∙ ap (λ xs. slice_set xs h.port (Some h.body)) r.tuples ∙ sym (of_event H.Tuple h r.rest count (ap (λ e. is_event e H.Tuple) event));
          markers = r.markers ∙ sym (of_other H.Punctuation h r.rest 0 count (ap (λ e. is_event e H.Punctuation) event));
        }

    pub marker_reached : (bodies : List (Option (List Statement))) → h.event ≡ H.Punctuation → bodies ≡ slice_set on_punct h.port (Some h.body)
        → Reaches all fewer count on_tuple bodies
    marker_reached bodies event put =
        record {
          rest = h ∷ r.rest;
          joined = longer;
          tuples = r.tuples ∙ sym (of_other H.Tuple h r.rest 0 count (ap (λ e. is_event e H.Tuple) event));
          markers = put ∙ ap (λ xs. slice_set xs h.port (Some h.body)) r.markers ∙ sym (of_event H.Punctuation h r.rest count (ap (λ e. is_event e H.Punctuation) event));
        }
