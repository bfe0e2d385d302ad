-- From the definition's words on calls to those of lists of callers.
use Rattle.std.proofs.Common.{◌≡◌, ◌<◌, ◌≤◌, ◌⊎◌, ◌∙◌, ℕ, zero, suc, List, [], ◌∷◌, ◌++◌, length, Some, refl, ap, sym, inl, inr, subst, arith, ◌+◌, add-one, length-append}
use Rattle.std.specs.Prelude.{slice_get}
use Rattle.std.proofs.lemmas.Option.{slice_get-get_or}
use Rattle.spl_tree.specs.declared.expression.Placed.{Placed}
use Rattle.language_model.specs.Recursion.{Calls, IsCall}
use Rattle.cycle_rules.specs.steps.Callers.{Lists, AreEmpty, AreCallers, NotesAll, Calling}
use Rattle.spl_value.proofs.Lists.{append_cases, get_within}
use Rattle.graph_laws.proofs.OneFlat.{there}

pub call_at : (calls : Calls) (from to : ℕ) (list : List (Placed ℕ)) → slice_get calls from ≡ Some list → Calling list to → IsCall calls from to
call_at calls from to list e h = record { list = list; call = h.call; of_caller = e; among = there list h.at h.call h.is; callee = h.callee }

pub calling_of : (calls : Calls) (from to : ℕ) (h : IsCall calls from to) → Calling h.list to
calling_of calls from to h = record {
  at = h.among.0;
  call = h.call;
  is = slice_get-get_or h.list h.among.0 h.call h.among.1 ∙ ap Some h.among.2;
  callee = h.callee;
}

nothing_in : (x : ℕ) (k : ℕ) → slice_get {X = ℕ} [] k ≡ Some x → ⊥
nothing_in x k e = cc

pub empty_more : (n : ℕ) (s : List (List ℕ)) → AreEmpty n s → AreEmpty (suc n) (s ++ [] ∷ [])
empty_more n s h = record {
  size = length-append s ([] ∷ []) ∙ ap (λ m. m + 1) h.size ∙ add-one n;
  nothing = λ at of l. elim (append_cases s [] at l.list l.at_place) [
    | inl e ↦ h.nothing at of (record { list = l.list; at_place = e; stands = l.stands })
    | inr e ↦ nothing_in of l.stands.at (ap (λ xs. slice_get xs l.stands.at) e.1 ∙ l.stands.is)
  ];
}

-- the calls of the first n callers are noted
pub record Noted (calls : Calls) (callers : List (List ℕ)) (n : ℕ) : Type 0 where
  pub size : length callers ≡ length calls
  pub sound : (to from : ℕ) → Lists callers to from → IsCall calls from to
  pub whole : (to from : ℕ) → to < length calls → from < n → IsCall calls from to → Lists callers to from

pub noted_none : (calls : Calls) (callers : List (List ℕ)) → AreEmpty (length calls) callers → Noted calls callers 0
noted_none calls callers h = record {
  size = h.size;
  sound = λ to from l. absurd (h.nothing to from l);
  whole = λ to from a b c. absurd (omega arith);
}

pub lt_split : (k n : ℕ) → k < suc n → (k < n) ⊎ (k ≡ n)
lt_split zero zero h = inr refl
lt_split zero (suc n) h = inl (omega arith)
lt_split (suc k) zero h = absurd (omega arith)
lt_split (suc k) (suc n) h = elim (lt_split k n (omega arith)) [ inl l ↦ inl (omega arith) | inr e ↦ inr (ap suc e) ]

pub noted_more : (calls : Calls) (s t : List (List ℕ)) (n : ℕ) (list : List (Placed ℕ)) → slice_get calls n ≡ Some list
    → Noted calls s n → NotesAll s t list n → Noted calls t (suc n)
noted_more calls s t n list at_n w v = record {
  size = v.size ∙ w.size;
  sound = λ to from l. elim (v.only to from l) [
    | inl g ↦ w.sound to from g
    | inr g ↦ subst (λ m. IsCall calls m to) (sym g.1) (call_at calls n to list at_n g.0)
  ];
  whole = λ to from h below call. elim (lt_split from n below) [
    | inl l ↦ v.kept to from (w.whole to from h l call)
    | inr e ↦
        let same : call.list ≡ list = let p = call.of_caller in let q : slice_get calls from ≡ slice_get calls n = ap (λ m. slice_get calls m) e in cc in
        let within : to < length s = subst (λ m. to < m) (sym w.size) h in
        subst (λ m. Lists t to m) (sym e) (v.noted to within (subst (λ l. Calling l to) same (calling_of calls from to call)))
  ];
}

pub noted_all : (calls : Calls) (callers : List (List ℕ)) (n : ℕ) → length calls ≤ n → Noted calls callers n → AreCallers calls callers
noted_all calls callers n past h = record {
  size = h.size;
  sound = h.sound;
  whole = λ to from within call. let b = get_within calls from call.list call.of_caller in h.whole to from within (omega arith) call;
}
