-- What stands under a name after a change of one entry.
use Rattle.std.proofs.Common.{◌≡◌, ◌≢◌, ℕ, ◌+◌, ◌<◌, ◌≤◌, List, [], ◌∷◌, ◌++◌, length, get_or, Bool, true, false, if◌then◌else◌, cond, not, Option, Some, None, refl, sym, ◌∙◌, ap, suc, zero, arith, position, subst, inl, inr, Result, Ok, Err}
use Rattle.std.proofs.Math.ListN.{set}
use Rattle.std.specs.Prelude.{IsSome, OnOk, OnErr}
use Rattle.std.specs.Bool.{Decides}
use Rattle.std.specs.Str.{bytes_eq}
use Rattle.std.specs.List.{prefix_len}
use Rattle.std.proofs.lemmas.Slice.Eq.{bytes_eq-Decides}
use Rattle.feed_pour.specs.declared.table.Entry.{Entry}
use Rattle.feed_pour.specs.Table.{under, Puts}
use Rattle.feed_pour.specs.Files.{counts_of, counts_in}
use Rattle.feed_pour.specs.declared.tallies.Tallies.{Tallies}
use Rattle.spl_value.proofs.Lists.{same_name, same_or_not}

pub other_name : (a b : List ℕ) → b ≢ a → bytes_eq a b ≡ false
other_name a b differs = elim (bytes_eq a b) as (λ r. Decides r (a ≡ b) → r ≡ false) [
  | true ↦ λ d. absurd (differs (sym (d.0 refl)))
  | false ↦ λ d. refl
] (bytes_eq-Decides a b)

abbrev pub hits : {T : Type 0} → List ℕ → Entry T → Bool
hits name entry = bytes_eq entry.name name

-- how many entries stand before the one of this name
abbrev pub before : {T : Type 0} → List (Entry T) → List ℕ → ℕ
before t name = prefix_len (λ entry. not (hits name entry)) t

value_at : {T : Type 0} (b : Bool) (e : Entry T) (r : List (Entry T)) (name : List ℕ) (d : Entry T) →
    (before r name < length r → under r name ≡ Some (get_or r (before r name) d).value) →
    cond (not b) (1 + before r name) 0 < length (e ∷ r) →
    (if b then Some e.value else under r name) ≡ Some (get_or (e ∷ r) (cond (not b) (1 + before r name) 0) d).value
value_at true e r name d ih within = refl
value_at false e r name d ih within =
    let one : suc (before r name) ≡ 1 + before r name = omega arith in
    ih (omega arith) ∙ ap (λ (n : ℕ). Some (get_or (e ∷ r) n d).value) one

pub under_found : {T : Type 0} (t : List (Entry T)) (name : List ℕ) (d : Entry T) → before t name < length t → under t name ≡ Some (get_or t (before t name) d).value
under_found [] name d within = absurd (omega arith)
under_found (e ∷ r) name d within = value_at (hits name e) e r name d (under_found r name d) within

hit_at : {T : Type 0} (b : Bool) (e : Entry T) (r : List (Entry T)) (name : List ℕ) (d : Entry T) → hits name e ≡ b →
    (before r name < length r → hits name (get_or r (before r name) d) ≡ true) →
    cond (not b) (1 + before r name) 0 < length (e ∷ r) →
    hits name (get_or (e ∷ r) (cond (not b) (1 + before r name) 0) d) ≡ true
hit_at true e r name d is ih within = is
hit_at false e r name d is ih within =
    let one : 1 + before r name ≡ suc (before r name) = omega arith in
    ap (λ (n : ℕ). hits name (get_or (e ∷ r) n d)) one ∙ ih (omega arith)

pub hit_found : {T : Type 0} (t : List (Entry T)) (name : List ℕ) (d : Entry T) → before t name < length t → hits name (get_or t (before t name) d) ≡ true
hit_found [] name d within = absurd (omega arith)
hit_found (e ∷ r) name d within = hit_at (hits name e) e r name d refl (hit_found r name d) within

none_at : {T : Type 0} (b : Bool) (e : Entry T) (r : List (Entry T)) (name : List ℕ) →
    (length r ≤ before r name → under r name ≡ None) → length (e ∷ r) ≤ cond (not b) (1 + before r name) 0 →
    (if b then Some e.value else under r name) ≡ None
none_at true e r name ih past = absurd (omega arith)
none_at false e r name ih past = ih (omega arith)

pub under_none : {T : Type 0} (t : List (Entry T)) (name : List ℕ) → length t ≤ before t name → under t name ≡ None
under_none [] name past = refl
under_none (e ∷ r) name past = none_at (hits name e) e r name (under_none r name) past

set_here_at : {T : Type 0} (b : Bool) (e x : Entry T) (r : List (Entry T)) (name : List ℕ) → hits name e ≡ b → hits name x ≡ true →
    (before r name < length r → under (set r (before r name) x) name ≡ Some x.value) →
    cond (not b) (1 + before r name) 0 < length (e ∷ r) →
    under (set (e ∷ r) (cond (not b) (1 + before r name) 0) x) name ≡ Some x.value
set_here_at true e x r name is hit ih within = ap (λ (h : Bool). if h then Some x.value else under r name) hit
set_here_at false e x r name is hit ih within =
    let one : 1 + before r name ≡ suc (before r name) = omega arith in
    ap (λ (n : ℕ). under (set (e ∷ r) n x) name) one
    ∙ ap (λ (h : Bool). if h then Some e.value else under (set r (before r name) x) name) is
    ∙ ih (omega arith)

pub set_here : {T : Type 0} (t : List (Entry T)) (x : Entry T) (name : List ℕ) → hits name x ≡ true → before t name < length t → under (set t (before t name) x) name ≡ Some x.value
set_here [] x name hit within = absurd (omega arith)
set_here (e ∷ r) x name hit within = set_here_at (hits name e) e x r name refl hit (set_here r x name hit) within

pub set_others : {T : Type 0} (t : List (Entry T)) (i : ℕ) (x d : Entry T) (m : List ℕ) → hits m x ≡ false → hits m (get_or t i d) ≡ false → under (set t i x) m ≡ under t m
set_others [] i x d m new old = refl
set_others (e ∷ r) zero x d m new old =
    ap (λ (h : Bool). if h then Some x.value else under r m) new ∙ sym (ap (λ (h : Bool). if h then Some e.value else under r m) old)
set_others (e ∷ r) (suc i) x d m new old = ap (λ (o : Option _). if hits m e then Some e.value else o) (set_others r i x d m new old)

pub push_here : {T : Type 0} (t : List (Entry T)) (x : Entry T) (name : List ℕ) → hits name x ≡ true → under t name ≡ None → under (t ++ x ∷ []) name ≡ Some x.value
push_here [] x name hit none = ap (λ (h : Bool). if h then Some x.value else None) hit
push_here (e ∷ r) x name hit none = push_at (hits name e) e x r name none (push_here r x name hit) where
  push_at : {T : Type 0} (b : Bool) (e x : Entry T) (r : List (Entry T)) (name : List ℕ) → (if b then Some e.value else under r name) ≡ None →
      (under r name ≡ None → under (r ++ x ∷ []) name ≡ Some x.value) → (if b then Some e.value else under (r ++ x ∷ []) name) ≡ Some x.value
  push_at true e x r name none ih = cc
  push_at false e x r name none ih = ih none

pub push_others : {T : Type 0} (t : List (Entry T)) (x : Entry T) (m : List ℕ) → hits m x ≡ false → under (t ++ x ∷ []) m ≡ under t m
push_others [] x m new = ap (λ (h : Bool). if h then Some x.value else None) new
push_others (e ∷ r) x m new = ap (λ (o : Option _). if hits m e then Some e.value else o) (push_others r x m new)

-- from the place that was found
pub place_within : {T : Type 0} (t : List (Entry T)) (name : List ℕ) (i : ℕ) → position (hits name) t ≡ Some i → (before t name ≡ i) × (before t name < length t)
place_within t name i found = (grind arith, grind arith)

pub place_past : {T : Type 0} (t : List (Entry T)) (name : List ℕ) → position (hits name) t ≡ None → length t ≤ before t name
place_past t name none = grind arith

pub puts_at : {T : Type 0} (t : List (Entry T)) (name : List ℕ) (i : ℕ) (x d : Entry T) → position (hits name) t ≡ Some i →
    x.name ≡ (get_or t i d).name → Puts (under t) (under (set t i x)) name x.value
puts_at t name i x d found is =
    let p = place_within t name i found in
    let hit : hits name x ≡ true = ap (λ (n : List ℕ). bytes_eq n name) (is ∙ ap (λ (k : ℕ). (get_or t k d).name) (sym p.0)) ∙ hit_found t name d p.1 in
    let named : x.name ≡ name = (bytes_eq-Decides x.name name).0 hit in
    record {
      here = ap (λ (k : ℕ). under (set t k x) name) (sym p.0) ∙ set_here t x name hit p.1;
      others = λ m differs. set_others t i x d m (ap (λ (n : List ℕ). bytes_eq n m) named ∙ other_name name m differs)
          (ap (λ (n : List ℕ). bytes_eq n m) (sym is ∙ named) ∙ other_name name m differs);
    }

pub puts_end : {T : Type 0} (t : List (Entry T)) (name : List ℕ) (x : Entry T) → position (hits name) t ≡ None → x.name ≡ name → Puts (under t) (under (t ++ x ∷ [])) name x.value
puts_end t name x none named = record {
  here = push_here t x name (ap (λ (n : List ℕ). bytes_eq n name) named ∙ same_name name) (under_none t name (place_past t name none));
  others = λ m differs. push_others t x m (ap (λ (n : List ℕ). bytes_eq n m) named ∙ other_name name m differs);
}

pub not_known : {T : Type 0} (t : List (Entry T)) (name : List ℕ) → position (hits name) t ≡ None → IsSome (under t name) → ⊥
not_known {T} t name none some =
    let e : under t name ≡ None = under_none t name (place_past t name none) in
    let h : IsSome {T = T} None = subst (λ (o : Option T). IsSome o) e some in cc

pub counts_stay : (old new : List (Entry Tallies)) (name : List ℕ) (value : Tallies) → Puts (under old) (under new) name value →
    counts_of (Some value) ≡ counts_in old name → (n : List ℕ) → counts_in new n ≡ counts_in old n
counts_stay old new name value puts is n = elim (same_or_not n name) as (λ _. counts_in new n ≡ counts_in old n) [
  | inl e ↦ ap (counts_in new) e ∙ ap counts_of puts.here ∙ is ∙ sym (ap (counts_in old) e)
  | inr differs ↦ ap counts_of (puts.others n differs)
]

pub know_same : {E : Type 0} (r : Result (Unit {0}) E) (old new : List (Entry Tallies)) (name : List ℕ) (value : Tallies) →
    OnOk r (Puts (under old) (under new) name value) → OnErr r (new ≡ old) →
    counts_of (Some value) ≡ counts_in old name → (n : List ℕ) → counts_in new n ≡ counts_in old n
know_same (Ok u) old new name value ok err is n = counts_stay old new name value ok is n
know_same (Err e) old new name value ok err is n = ap (λ (t : List (Entry Tallies)). counts_in t n) err
