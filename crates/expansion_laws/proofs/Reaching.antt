-- Whether a caller leads to another is decided, and so is which is the first that leads back to itself.
use Rattle.std.specs.Prelude.{◌≡◌, ◌<◌, ◌⊎◌, ℕ, zero, suc, List, filter_map, length, Option, Some, None, slice_get}
use Rattle.std.specs.List.{Contains}
use Rattle.std.specs.Option.{option_map}
use Rattle.std.proofs.Common.{refl, sym, ap, ◌∙◌, subst, arith, inl, inr}
use Rattle.std.proofs.lemmas.Bool.{cases_lt}
use Rattle.std.proofs.Math.Decide.{ℕ_discrete}
use Rattle.std.proofs.lemmas.Option.{same_Some, slice_get-get_or, slice_get-map, slice_get_within}
use Rattle.spl_value.proofs.Decided.{both_decided, either_decided}
use Rattle.spl_tree.specs.declared.expression.Placed.{Placed}
use Rattle.spl_tree.specs.Trees.{placed}
use Rattle.graph_laws.proofs.OneFlat.{there}
use Rattle.language_model.specs.Recursion.{Caller, Calls, calls_among, IsCall, Leads, directly, through, IsBack, IsFirstIn, HasNoRecursion}
use Rattle.language_model.proofs.parts.Recursion.{call_among}

-- ---- what is decided

-- ---- the least number

-- the least number of which it holds
record Least (P : ℕ → Type 0) : Type 0 where
  number : ℕ
  holds : P number
  first : (i : ℕ) → i < number → P i → ⊥

-- it is found among those below a bound, or there it holds of none
least : (P : ℕ → Type 0) → ((n : ℕ) → Dec (P n)) → (bound : ℕ) → Least P ⊎ ((i : ℕ) → i < bound → P i → ⊥)
least P decided zero = inr (λ i less is. omega (arith, less))
least P decided (suc bound) = by (least P decided bound)
  where
    by_next : ((i : ℕ) → i < bound → P i → ⊥) → Dec (P bound) → Least P ⊎ ((i : ℕ) → i < suc bound → P i → ⊥)
    by_next none (yes is) = inl (record { number = bound; holds = is; first = none })
    by_next none (no never) = inr all
      where
        all : (i : ℕ) → i < suc bound → P i → ⊥
        all i less is = elim (cases_lt i bound) [
          | inl below ↦ none i below is
          | inr above ↦ (let same : i ≡ bound = omega (arith, less, above) in never (subst P same is))
        ]

    by : Least P ⊎ ((i : ℕ) → i < bound → P i → ⊥) → Least P ⊎ ((i : ℕ) → i < suc bound → P i → ⊥)
    by (inl found) = inl found
    by (inr none) = by_next none (decided bound)

-- ---- elements

-- an element at a number
abbrev Stands : {A : Type 0} → (A → Type 0) → List A → ℕ → Type 0
Stands {A} P xs i = (x : A) × (slice_get xs i ≡ Some x) × P x

stands_decided : {A : Type 0} (P : A → Type 0) → ((x : A) → Dec (P x)) → (xs : List A) (i : ℕ) → Dec (Stands P xs i)
stands_decided {A} P decided xs i = by (slice_get xs i) refl
  where
    by_element : (x : A) → slice_get xs i ≡ Some x → Dec (P x) → Dec (Stands P xs i)
    by_element x at (yes is) = yes (x, at, is)
    by_element x at (no none) = no (λ h. none (subst P (same_Some h.0 x (sym h.1 ∙ at)) h.2))

    by : (o : Option A) → slice_get xs i ≡ o → Dec (Stands P xs i)
    by None at = no (λ h. (let clash = sym at ∙ h.1 in cc))
    by (Some x) at = by_element x at (decided x)

numbered : {A : Type 0} (xs : List A) (x : A) → Contains xs x → (i : ℕ) × (slice_get xs i ≡ Some x)
numbered xs x h = (h.0, slice_get-get_or xs h.0 x h.1 ∙ ap (λ y. Some y) h.2)

-- the first element of which it holds, or it holds of none
first_of : {A : Type 0} (P : A → Type 0) → ((x : A) → Dec (P x)) → (xs : List A) → Least (Stands P xs) ⊎ ((x : A) → Contains xs x → P x → ⊥)
first_of {A} P decided xs = by (least (Stands P xs) (stands_decided P decided xs) (length xs))
  where
    by : Least (Stands P xs) ⊎ ((i : ℕ) → i < length xs → Stands P xs i → ⊥) → Least (Stands P xs) ⊎ ((x : A) → Contains xs x → P x → ⊥)
    by (inl found) = inl found
    by (inr none) = inr (λ x among is. let at = numbered xs x among in none at.0 (slice_get_within xs at.0 x at.1) (x, at.1, is))

-- ---- ways from caller to caller

module _ (calls : Calls) where
  call_decided : (from to : ℕ) → Dec (IsCall calls from to)
  call_decided from to = by (slice_get calls from) refl
    where
      by_list : (list : List (Placed ℕ)) → slice_get calls from ≡ Some list
          → Least (Stands (λ (c : Placed ℕ). c.what ≡ to) list) ⊎ ((c : Placed ℕ) → Contains list c → c.what ≡ to → ⊥) → Dec (IsCall calls from to)
      by_list list at (inl f) = yes (record { list = list; call = f.holds.0; of_caller = at; among = there list f.number f.holds.0 f.holds.1; callee = f.holds.2 })
      by_list list at (inr none) = no (λ c.
          let same : c.list ≡ list = same_Some c.list list (sym c.of_caller ∙ at) in
          none c.call (subst (λ (xs : List (Placed ℕ)). Contains xs c.call) same c.among) c.callee)

      by : (o : Option (List (Placed ℕ))) → slice_get calls from ≡ o → Dec (IsCall calls from to)
      by None at = no (λ c. (let clash = sym at ∙ c.of_caller in cc))
      by (Some list) at = by_list list at (first_of (λ (c : Placed ℕ). c.what ≡ to) (λ c. ℕ_discrete c.what to) list)

  -- a way that leads through callers below a place alone
  abbrev Way : ℕ → ℕ → ℕ → Type 0
  Way zero from to = IsCall calls from to
  Way (suc k) from to = Way k from to ⊎ (Way k from k × Way k k to)

  way_decided : (k from to : ℕ) → Dec (Way k from to)
  way_decided zero from to = call_decided from to
  way_decided (suc k) from to = either_decided (way_decided k from to) (both_decided (way_decided k from k) (way_decided k k to))

  leads_on : (from mid to : ℕ) → Leads calls from mid → Leads calls mid to → Leads calls from to
  leads_on from mid to (directly _ _ call) further = through from mid to call further
  leads_on from mid to (through _ next _ call leads) further = through from next to call (leads_on next mid to leads further)

  way_leads : (k from to : ℕ) → Way k from to → Leads calls from to
  way_leads zero from to call = directly from to call
  way_leads (suc k) from to (inl way) = way_leads k from to way
  way_leads (suc k) from to (inr ways) = leads_on from k to (way_leads k from k ways.0) (way_leads k k to ways.1)

  -- a way to the place itself, or from it, doesn't lead through it
  way_to : (k from : ℕ) → Way (suc k) from k → Way k from k
  way_to k from (inl way) = way
  way_to k from (inr ways) = ways.0

  way_from : (k to : ℕ) → Way (suc k) k to → Way k k to
  way_from k to (inl way) = way
  way_from k to (inr ways) = ways.1

  -- two ways that meet below the place are one
  way_on : (k from mid to : ℕ) → mid < k → Way k from mid → Way k mid to → Way k from to
  way_on zero from mid to less first second = absurd (omega (arith, less))
  way_on (suc k) from mid to less first second = elim (cases_lt mid k) [
    | inl below ↦ lower (way_on k) below first second
    | inr above ↦
        (let same : mid ≡ k = omega (arith, less, above) in
        inr (way_to k from (subst (λ (i : ℕ). Way (suc k) from i) same first), way_from k to (subst (λ (i : ℕ). Way (suc k) i to) same second)))
  ]
    where
      lower : ((a b c : ℕ) → b < k → Way k a b → Way k b c → Way k a c) → mid < k → Way (suc k) from mid → Way (suc k) mid to → Way (suc k) from to
      lower on below (inl first) (inl second) = inl (on from mid to below first second)
      lower on below (inl first) (inr second) = inr (on from mid k below first second.0, second.1)
      lower on below (inr first) (inl second) = inr (first.0, on k mid to below first.1 second)
      lower on below (inr first) (inr second) = inr (first.0, second.1)

  one_call : (k from to : ℕ) → IsCall calls from to → Way k from to
  one_call zero from to call = call
  one_call (suc k) from to call = inl (one_call k from to call)

  caller_within : (from to : ℕ) → IsCall calls from to → from < length calls
  caller_within from to call = slice_get_within calls from call.list call.of_caller

  leads_within : (from to : ℕ) → Leads calls from to → from < length calls
  leads_within from to (directly _ _ call) = caller_within from to call
  leads_within from to (through _ mid _ call leads) = caller_within from mid call

  leads_way : (from to : ℕ) → Leads calls from to → Way (length calls) from to
  leads_way from to (directly _ _ call) = one_call (length calls) from to call
  leads_way from to (through _ mid _ call leads) =
      way_on (length calls) from mid to (leads_within mid to leads) (one_call (length calls) from mid call) (leads_way mid to leads)

  leads_decided : (from to : ℕ) → Dec (Leads calls from to)
  leads_decided from to = by (way_decided (length calls) from to)
    where
      by : Dec (Way (length calls) from to) → Dec (Leads calls from to)
      by (yes way) = yes (way_leads (length calls) from to way)
      by (no none) = no (λ leads. none (leads_way from to leads))

  back_decided : (place : ℕ) (c : Placed ℕ) → Dec (IsBack calls place c)
  back_decided place c = either_decided (ℕ_discrete c.what place) (leads_decided c.what place)

-- ---- recursion

-- the first call on a way
record FirstCall (calls : Calls) (from to : ℕ) : Type 0 where
  mid : ℕ
  call : IsCall calls from mid
  on : (mid ≡ to) ⊎ Leads calls mid to

first_call : (calls : Calls) (from to : ℕ) → Leads calls from to → FirstCall calls from to
first_call calls from to (directly _ _ call) = record { mid = to; call = call; on = inl refl }
first_call calls from to (through _ mid _ call leads) = record { mid = mid; call = call; on = inr leads }

-- it leads back where the way does
is_back : (calls : Calls) (place : ℕ) (f : FirstCall calls place place) → IsBack calls place f.call.call
is_back calls place f = elim f.on [
  | inl same ↦ inl (f.call.callee ∙ same)
  | inr leads ↦ inr (subst (λ i. Leads calls i place) (sym f.call.callee) leads)
]

called_at : (callers : List Caller) (place : ℕ) (list : List (Placed ℕ)) → slice_get (calls_among callers) place ≡ Some list
    → (c : Caller) × (slice_get callers place ≡ Some c)
called_at callers place list is = by (slice_get callers place) refl (sym (slice_get-map (λ (c : Caller). filter_map (call_among callers) c.called) callers place) ∙ is)
  where
    by : (o : Option Caller) → slice_get callers place ≡ o → option_map (λ (c : Caller). filter_map (call_among callers) c.called) o ≡ Some list
        → (c : Caller) × (slice_get callers place ≡ Some c)
    by None at there = absurd cc
    by (Some c) at there = (c, at)

-- the first caller that reaches itself, at its first call that leads back
abbrev pub Recursion : List Caller → Type 0
Recursion callers = (n : Placed (List ℕ)) × IsFirstIn callers n

pub recursion_decided : (callers : List Caller) → Recursion callers ⊎ HasNoRecursion callers
recursion_decided callers = by (least (λ place. Leads (calls_among callers) place place) (λ place. leads_decided (calls_among callers) place place) (length (calls_among callers)))
  where
    at_place : (f : Least (λ place. Leads (calls_among callers) place place)) (first : FirstCall (calls_among callers) f.number f.number)
        → Least (Stands (IsBack (calls_among callers) f.number) first.call.list)
        ⊎ ((c : Placed ℕ) → Contains first.call.list c → IsBack (calls_among callers) f.number c → ⊥)
        → Recursion callers
    at_place f first (inl back) =
        let caller = called_at callers f.number first.call.list first.call.of_caller in (
          placed back.holds.0.at caller.0.name,
          record {
            place = f.number;
            caller = caller.0;
            found = caller.1;
            is_first = record {
              before = f.first;
              list = first.call.list;
              of_caller = first.call.of_caller;
              number = back.number;
              call = back.holds.0;
              is_call = back.holds.1;
              back = back.holds.2;
              first = λ j c less is leads. back.first j less (c, is, leads);
              place_of = refl;
            };
            name = refl;
          },
        )
    at_place f first (inr none) = absurd (none first.call.call first.call.among (is_back (calls_among callers) f.number first))

    found : Least (λ place. Leads (calls_among callers) place place) → Recursion callers
    found f =
        let first = first_call (calls_among callers) f.number f.number f.holds in
        at_place f first (first_of (IsBack (calls_among callers) f.number) (back_decided (calls_among callers) f.number) first.call.list)

    by : Least (λ place. Leads (calls_among callers) place place) ⊎ ((i : ℕ) → i < length (calls_among callers) → Leads (calls_among callers) i i → ⊥)
        → Recursion callers ⊎ HasNoRecursion callers
    by (inl f) = inl (found f)
    by (inr none) = inr (λ i leads. none i (leads_within (calls_among callers) i i leads) leads)
