-- How lists of callers grow.
use Rattle.std.proofs.Common.{◌≡◌, ◌<◌, ◌⊎◌, ◌∙◌, ℕ, suc, List, [], length, take, Some, refl, ap, sym, inl, inr, subst}
use Rattle.std.specs.Prelude.{slice_get}
use Rattle.spl_tree.specs.declared.expression.Placed.{Placed}
use Rattle.cycle_rules.specs.steps.Callers.{Lists, Notes, NotesAll, Calling}
use Rattle.spl_value.proofs.Lists.{take_cases, take_last, take_more}

pub calling_more : (n : ℕ) (cs : List (Placed ℕ)) (to : ℕ) → Calling (take n cs) to → Calling (take (suc n) cs) to
calling_more n cs to h = record { at = h.at; call = h.call; is = take_more n cs h.at h.call h.is; callee = h.callee }

pub calling_last : (n : ℕ) (cs : List (Placed ℕ)) (call : Placed ℕ) → slice_get cs n ≡ Some call → Calling (take (suc n) cs) call.what
calling_last n cs call e = record { at = n; call = call; is = take_last n cs call e; callee = refl }

pub notes_none : (s : List (List ℕ)) (from : ℕ) → NotesAll s s [] from
notes_none s from = record {
  size = refl;
  kept = λ at of h. h;
  noted = λ to h calling. let e = calling.is in cc;
  only = λ at of h. inl h;
}

pub notes_more : (s t u : List (List ℕ)) (n : ℕ) (cs : List (Placed ℕ)) (call : Placed ℕ) (from : ℕ) → slice_get cs n ≡ Some call
    → NotesAll s t (take n cs) from → Notes t u call.what from → NotesAll s u (take (suc n) cs) from
notes_more s t u n cs call from at_n w v = record {
  size = v.size ∙ w.size;
  kept = λ at of h. v.kept at of (w.kept at of h);
  noted = λ to h calling. elim (take_cases n cs calling.at calling.call calling.is) [
    | inl e ↦ v.kept to from (w.noted to h (record { at = calling.at; call = calling.call; is = e; callee = calling.callee }))
    | inr e ↦
        let same : calling.call ≡ call = cc in
        let is : call.what ≡ to = ap (λ c. c.what) (sym same) ∙ calling.callee in
        let h' : to < length t = subst (λ m. to < m) (sym w.size) h in
        subst (λ m. Lists u m from) is (v.noted (subst (λ m. m < length t) (sym is) h'))
  ];
  only = λ at of h. elim (v.only at of h) [
    | inl g ↦ elim (w.only at of g) [ inl f ↦ inl f | inr f ↦ inr (calling_more n cs at f.0, f.1) ]
    | inr g ↦ inr (subst (λ m. Calling (take (suc n) cs) m) (sym g.0) (calling_last n cs call at_n), g.1)
  ];
}

pub calling_cases : (n : ℕ) (cs : List (Placed ℕ)) (call : Placed ℕ) (to : ℕ) → slice_get cs n ≡ Some call → Calling (take (suc n) cs) to
    → Calling (take n cs) to ⊎ (call.what ≡ to)
calling_cases n cs call to e h = elim (take_cases n cs h.at h.call h.is) [
  | inl f ↦ inl (record { at = h.at; call = h.call; is = f; callee = h.callee })
  | inr f ↦ let same : call ≡ h.call = cc in inr (ap (λ c. c.what) same ∙ h.callee)
]
