-- The first place of a function's name in a list, and in the list with one more function.
use Rattle.std.specs.Prelude.{◌≡◌, ℕ, suc, ◌+◌, Bool, true, false, List, [], ◌∷◌, ◌++◌, if◌then◌else◌, length, slice_get, Option, Some, None, is_some, Result, Ok, Err, OnOk}
use Rattle.std.specs.Option.{option_map}
use Rattle.std.specs.Result.{is_err}
use Rattle.std.specs.Str.{bytes_eq}
use Rattle.std.proofs.Common.{refl, ap, sym, ◌∙◌, add-zero, arith}
use Rattle.std.proofs.lemmas.Slice.Eq.{bytes_eq-Decides}
use Rattle.language_model.specs.Scopes.{At, at_place, first_from}
use Rattle.language_model.specs.declared.scope.Signature.{Signature}
use Rattle.language_model.specs.steps.Signatures.{placed_from}

-- ---- the function at the place

abbrev first : List ℕ → ℕ → List Signature → Option (At Signature)
first name i list = first_from (λ f. bytes_eq f.name name) i list

unplaced_from : (name : List ℕ) (i : ℕ) (list : List Signature) → placed_from name i list ≡ None → first name i list ≡ None
unplaced_from name i [] e = refl
unplaced_from name i (f ∷ fs) e = go (bytes_eq f.name name) (unplaced_from name (suc i) fs) e
  where
    go : (b : Bool) → (placed_from name (suc i) fs ≡ None → first name (suc i) fs ≡ None) → (if b then Some i else placed_from name (suc i) fs) ≡ None
        → (if b then Some (at_place i f) else first name (suc i) fs) ≡ None
    go true rest e = cc
    go false rest e = rest e

pub unplaced : (name : List ℕ) (list : List Signature) → placed_from name 0 list ≡ None → first name 0 list ≡ None
unplaced name list e = unplaced_from name 0 list e

-- the place lies in the list, and what stands there is the first
record Stands (name : List ℕ) (i k : ℕ) (list : List Signature) : Type 0 where
  offset : ℕ
  sum : i + offset ≡ k
  what : Signature
  here : slice_get list offset ≡ Some what
  is : first name i list ≡ Some (at_place k what)

stands_from : (name : List ℕ) (i k : ℕ) (list : List Signature) → placed_from name i list ≡ Some k → Stands name i k list
stands_from name i k [] e = cc
stands_from name i k (f ∷ fs) e = go (bytes_eq f.name name) refl (stands_from name (suc i) k fs) e
  where
    go : (b : Bool) → bytes_eq f.name name ≡ b → (placed_from name (suc i) fs ≡ Some k → Stands name (suc i) k fs)
        → (if b then Some i else placed_from name (suc i) fs) ≡ Some k → Stands name i k (f ∷ fs)
    go true d rest e =
        let same : i ≡ k = cc in
        record {
          offset = 0;
          sum = add-zero i ∙ same;
          what = f;
          here = refl;
          is = ap (λ b. if b then Some (at_place i f) else first name (suc i) fs) d ∙ ap (λ n. Some (at_place n f)) same;
        }
    go false d rest e =
        let s = rest e in
        let sum : suc i + s.offset ≡ k = s.sum in
        record {
          offset = suc s.offset;
          sum = omega arith;
          what = s.what;
          here = s.here;
          is = ap (λ b. if b then Some (at_place i f) else first name (suc i) fs) d ∙ s.is;
        }

pub placed_here : (name : List ℕ) (k : ℕ) (list : List Signature) (found : Signature) → placed_from name 0 list ≡ Some k
    → slice_get list k ≡ Some found → first name 0 list ≡ Some (at_place k found)
placed_here name k list found e here =
    let s = stands_from name 0 k list e in
    let sum : 0 + s.offset ≡ k = s.sum in
    let offset : s.offset ≡ k = omega arith in
    let same : Some s.what ≡ Some found = sym s.here ∙ ap (slice_get list) offset ∙ here in
    s.is ∙ ap (option_map (at_place k)) same

pub placed_there : (name : List ℕ) (k : ℕ) (list : List Signature) → placed_from name 0 list ≡ Some k → slice_get list k ≡ None → {A : Type 0} → A
placed_there name k list e here =
    let s = stands_from name 0 k list e in
    let sum : 0 + s.offset ≡ k = s.sum in
    let offset : s.offset ≡ k = omega arith in
    let none : Some s.what ≡ None = sym s.here ∙ ap (slice_get list) offset ∙ here in
    cc

-- ---- one more function

abbrev or_last : Option ℕ → Option ℕ → Option ℕ
or_last None last = last
or_last (Some k) last = Some k

abbrev last_place : Bool → ℕ → Option ℕ
last_place b k = if b then Some k else None

grown_from : (q : List ℕ) (i : ℕ) (list : List Signature) (f : Signature)
    → placed_from q i (list ++ f ∷ []) ≡ or_last (placed_from q i list) (last_place (bytes_eq f.name q) (i + length list))
grown_from q i [] f =
    elim (bytes_eq f.name q) as (λ b. (if b then Some i else None) ≡ last_place b (i + 0)) [
      | true ↦ ap Some (sym (add-zero i))
      | false ↦ refl
    ]
grown_from q i (g ∷ gs) f =
    elim (bytes_eq g.name q) as (λ b. (if b then Some i else placed_from q (suc i) (gs ++ f ∷ []))
    ≡ or_last (if b then Some i else placed_from q (suc i) gs) (last_place (bytes_eq f.name q) (i + suc (length gs)))) [
      | true ↦ refl
      | false ↦
          let shifted : suc i + length gs ≡ i + suc (length gs) = omega arith in
          grown_from q (suc i) gs f ∙ ap (λ k. or_last (placed_from q (suc i) gs) (last_place (bytes_eq f.name q) k)) shifted
    ]

grown : (q : List ℕ) (list : List Signature) (f : Signature)
    → placed_from q 0 (list ++ f ∷ []) ≡ or_last (placed_from q 0 list) (last_place (bytes_eq f.name q) (length list))
grown q list f =
    let from_none : 0 + length list ≡ length list = omega arith in
    grown_from q 0 list f ∙ ap (λ k. or_last (placed_from q 0 list) (last_place (bytes_eq f.name q) k)) from_none

-- a name that has a place keeps it
pub keeps_place : (list : List Signature) (f : Signature) → is_some (placed_from f.name 0 list) ≡ true → (q : List ℕ)
    → placed_from q 0 list ≡ placed_from q 0 (list ++ f ∷ [])
keeps_place list f there q = stays (placed_from q 0 list) (bytes_eq f.name q) refl refl ∙ sym (grown q list f)
  where
    stays : (o : Option ℕ) (b : Bool) → placed_from q 0 list ≡ o → bytes_eq f.name q ≡ b → o ≡ or_last o (last_place b (length list))
    stays (Some k) b e d = refl
    stays None false e d = refl
    stays None true e d =
        let same : f.name ≡ q = (bytes_eq-Decides f.name q).0 d in
        let none = sym there ∙ ap (λ n. is_some (placed_from n 0 list)) same ∙ ap is_some e in
        cc

-- a new one gets the place at the end
pub gets_place : (list : List Signature) (f : Signature) → is_some (placed_from f.name 0 list) ≡ false → (q : List ℕ)
    → (if bytes_eq f.name q then Some (length list) else placed_from q 0 list) ≡ placed_from q 0 (list ++ f ∷ [])
gets_place list f absent q = comes (placed_from q 0 list) (bytes_eq f.name q) refl refl ∙ sym (grown q list f)
  where
    comes : (o : Option ℕ) (b : Bool) → placed_from q 0 list ≡ o → bytes_eq f.name q ≡ b
        → (if b then Some (length list) else o) ≡ or_last o (last_place b (length list))
    comes None true e d = refl
    comes None false e d = refl
    comes (Some k) false e d = refl
    comes (Some k) true e d =
        let same : f.name ≡ q = (bytes_eq-Decides f.name q).0 d in
        let some = sym absent ∙ ap (λ n. is_some (placed_from n 0 list)) same ∙ ap is_some e in
        cc

-- ---- an answer that is no error

pub ok_holds : {A E P : Type 0} (r : Result A E) → is_err r ≡ false → OnOk r P → P
ok_holds (Ok x) e p = p
ok_holds (Err y) e p = cc
