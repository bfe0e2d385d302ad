-- Who leads to whom, by lists of callers and by the order in which callers are taken.
use Rattle.std.proofs.Common.{◌≡◌, ◌<◌, ◌≤◌, ◌↔◌, ℕ, suc, List, length, Some, ap, sym, inl, inr, subst, arith}
use Rattle.std.specs.Prelude.{slice_get}
use Rattle.spl_tree.specs.declared.expression.Placed.{Placed}
use Rattle.language_model.specs.Recursion.{Calls, IsCall, Leads, directly, through, IsBack, IsFirstRecursion}
use Rattle.language_model.specs.parts.Recursion.{IsAcyclic}
use Rattle.place_sets.specs.declared.place_set.PlaceSet.{PlaceSet}
use Rattle.place_sets.specs.Places.{HasPlace}
use Rattle.cycle_rules.specs.steps.Callers.{Lists, Reached, near, far, AreCallers}
use Rattle.cycle_rules.specs.steps.Taking.{Before, IsTaken}
use Rattle.cycle_rules.specs.steps.Backs.{BackBy, NoneBack, FirstBack, IsRecursionAt}
use Rattle.cycle_rules.proofs.Calling.{calling_of, lt_split}
use Rattle.spl_value.proofs.Lists.{get_within}

leads_from : (calls : Calls) (i j : ℕ) → Leads calls i j → i < length calls
leads_from calls i j (directly a b c) = get_within calls i c.list c.of_caller
leads_from calls i j (through a m b c l) = get_within calls i c.list c.of_caller

-- ---- lists of callers

pub callers_within : (calls : Calls) (callers : List (List ℕ)) → AreCallers calls callers → (at of : ℕ) → Lists callers at of → of < length callers
callers_within calls callers h at of l =
    let c = h.sound at of l in
    let b = get_within calls of c.list c.of_caller in
    let s = h.size in
    omega arith

reached_leads : (calls : Calls) (callers : List (List ℕ)) → AreCallers calls callers → (place i : ℕ) → Reached callers place i → Leads calls i place
reached_leads calls callers h place i (near i' l) = directly i place (h.sound place i l)
reached_leads calls callers h place i (far j i' r l) = through i j place (h.sound j i l) (reached_leads calls callers h place j r)

leads_reached : (calls : Calls) (callers : List (List ℕ)) → AreCallers calls callers → (i place : ℕ) → place < length calls → Leads calls i place → Reached callers place i
leads_reached calls callers h i place below (directly a b c) = near i (h.whole place i below c)
leads_reached calls callers h i place below (through a m b c l) =
    far m i (leads_reached calls callers h m place below l) (h.whole m i (leads_from calls m place l) c)

-- ---- what was taken

falls : (calls : Calls) (s : PlaceSet) → IsTaken calls s → (k i j : ℕ) → slice_get s.places.items k ≡ Some i → Leads calls i j → Before s.places.items k j
falls calls s h k i j e (directly a b c) = h.callees k i j e c
falls calls s h k i j e (through a m b c l) =
    let first = h.callees k i m e c in
    let then_on = falls calls s h first.front m j first.is l in
    record { front = then_on.front; lower = let p = first.lower in let q = then_on.lower in omega arith; is = then_on.is }

pub taken_not : (calls : Calls) (s : PlaceSet) → IsTaken calls s → (i : ℕ) → HasPlace s.places.items i → Leads calls i i → ⊥
taken_not calls s h i st l =
    let b = falls calls s h st.at i i st.is l in
    let same : b.front ≡ st.at = h.set.once b.front st.at i b.is st.is in
    let low = b.lower in
    absurd (omega arith)

-- ---- the first call that leads back

module _ (calls : Calls) (callers : List (List ℕ)) (are : AreCallers calls callers) (place : ℕ) (below : place < length calls)
    (leading : List ℕ) (tells : (i : ℕ) → HasPlace leading i ↔ Reached callers place i)
    (list : List (Placed ℕ)) (its : slice_get calls place ≡ Some list) where
  back_of : (c : Placed ℕ) → BackBy leading place c → IsBack calls place c
  back_of c (inl e) = inl e
  back_of c (inr s) = inr (reached_leads calls callers are place c.what ((tells c.what).0 s))

  by_back : (c : Placed ℕ) → IsBack calls place c → BackBy leading place c
  by_back c (inl e) = inl e
  by_back c (inr l) = inr ((tells c.what).1 (leads_reached calls callers are c.what place below l))

  pub recursion_from : (at : ℕ) → FirstBack leading place list at → IsRecursionAt calls place at
  recursion_from at f = record {
    list = list;
    of_caller = its;
    number = f.number;
    call = f.call;
    is_call = f.is_call;
    back = back_of f.call f.back;
    first = λ i c lower e b. f.first i c lower e (by_back c b);
    place_of = f.place_of;
  }

  same_call : (to : ℕ) (c : IsCall calls place to) → slice_get list (calling_of calls place to c).at ≡ Some (calling_of calls place to c).call
  same_call to c =
      let q = calling_of calls place to c in
      let same : c.list ≡ list = let o = c.of_caller in cc in
      subst (λ l. slice_get l q.at ≡ Some q.call) same q.is

  pub none_from : NoneBack leading place list → Leads calls place place → ⊥
  none_from n (directly a b c) = let q = calling_of calls place place c in n q.at q.call (same_call place c) (inl q.callee)
  none_from n (through a m b c l) =
      let q = calling_of calls place m c in
      n q.at q.call (same_call m c) (by_back q.call (inr (subst (λ x. Leads calls x place) (sym q.callee) l)))

pub none_more : (leading : List ℕ) (place : ℕ) (calls : List (Placed ℕ)) (n : ℕ) (call : Placed ℕ) → slice_get calls n ≡ Some call
    → ((i : ℕ) (c : Placed ℕ) → i < n → slice_get calls i ≡ Some c → BackBy leading place c → ⊥) → (BackBy leading place call → ⊥)
    → (i : ℕ) (c : Placed ℕ) → i < suc n → slice_get calls i ≡ Some c → BackBy leading place c → ⊥
none_more leading place calls n call at_n h none i c below e b = elim (lt_split i n below) [
  | inl l ↦ h i c l e b
  | inr same ↦
      let is : c ≡ call = let f = ap (λ k. slice_get calls k) same in cc in
      none (subst (λ x. BackBy leading place x) is b)
]

pub none_all : (leading : List ℕ) (place : ℕ) (calls : List (Placed ℕ)) (n : ℕ) → length calls ≤ n
    → ((i : ℕ) (c : Placed ℕ) → i < n → slice_get calls i ≡ Some c → BackBy leading place c → ⊥) → NoneBack leading place calls
none_all leading place calls n past h i c e b = let w = get_within calls i c e in h i c (omega arith) e b

-- ---- the first caller

pub first_of : (calls : Calls) (place at : ℕ) → ((i : ℕ) → i < place → Leads calls i i → ⊥) → IsRecursionAt calls place at → IsFirstRecursion calls place at
first_of calls place at before r = record {
  before = before;
  list = r.list;
  of_caller = r.of_caller;
  number = r.number;
  call = r.call;
  is_call = r.is_call;
  back = r.back;
  first = r.first;
  place_of = r.place_of;
}

pub all_acyclic : (calls : Calls) (n : ℕ) → length calls ≤ n → ((i : ℕ) → i < n → Leads calls i i → ⊥) → IsAcyclic calls
all_acyclic calls n past h i l = let b = leads_from calls i i l in h i (omega arith) l
