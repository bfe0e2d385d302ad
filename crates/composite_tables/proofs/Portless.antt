-- The composites without ports, the first of them and those after it.
use Rattle.std.specs.Prelude.{◌≡◌, ℕ, suc, ◌+◌, true, false, List, [], ◌∷◌, if◌then◌else◌, codes, slice_get, Option, Some, None}
use Rattle.std.specs.List.{cons_option}
use Rattle.std.proofs.Common.{refl, ap, ◌∙◌, drop, add-one, subst, arith}
use Rattle.spl_tree.specs.declared.unit.Composite.{Composite}
use Rattle.spl_tree.specs.declared.unit.Definition.{Definition}
use Rattle.language_model.specs.Composites.{composites, composite_named, has_no_ports, if_main, main_of}
use Rattle.language_model.proofs.parts.Composites.{portless, behind_first, only_one, named_or_only}
use Rattle.language_model.specs.Scopes.{At, at_place, first_from}
use Rattle.spl_value.proofs.Lists.{next_rest as drop_at}

-- ---- one composite more

module _ (cs : List Composite) (k : ℕ) (c : Composite) (there : slice_get cs k ≡ Some c) where
  here : first_from has_no_ports k (drop k cs) ≡ (if has_no_ports c then Some (at_place k c) else first_from has_no_ports (suc k) (drop (suc k) cs))
  here = ap (first_from has_no_ports k) (drop_at cs k c there)

  pub first_here : has_no_ports c ≡ true → first_from has_no_ports k (drop k cs) ≡ Some (at_place k c)
  first_here none = here ∙ ap (λ b. if b then Some (at_place k c) else first_from has_no_ports (suc k) (drop (suc k) cs)) none

  pub first_later : has_no_ports c ≡ false → first_from has_no_ports k (drop k cs) ≡ first_from has_no_ports (k + 1) (drop (k + 1) cs)
  first_later some = rw add-one (here ∙ ap (λ b. if b then Some (at_place k c) else first_from has_no_ports (suc k) (drop (suc k) cs)) some)

-- ---- those after the first

abbrev Firsts : ℕ → List Composite → Option (At Composite) → Type 0
Firsts i cs None = portless cs ≡ []
Firsts i cs (Some a) = (k : ℕ) × (a.place ≡ i + k) × (portless cs ≡ a.what ∷ portless (drop (suc k) cs))

later : (i : ℕ) (c : Composite) (cs : List Composite) → has_no_ports c ≡ false → (o : Option (At Composite)) → Firsts (suc i) cs o → Firsts i (c ∷ cs) o
later i c cs some None h = ap (λ b. cons_option (if b then Some c else None) (portless cs)) some ∙ h
later i c cs some (Some a) h =
    let place : a.place ≡ suc i + h.0 = h.1 in
    (suc h.0, omega arith, ap (λ b. cons_option (if b then Some c else None) (portless cs)) some ∙ h.2)

firsts : (i : ℕ) (cs : List Composite) → Firsts i cs (first_from has_no_ports i cs)
firsts i [] = refl
firsts i (c ∷ cs) =
    elim (has_no_ports c) as (λ b. has_no_ports c ≡ b → Firsts i (c ∷ cs) (if b then Some (at_place i c) else first_from has_no_ports (suc i) cs)) [
      | true ↦ λ none. (0, omega arith, ap (λ b. cons_option (if b then Some c else None) (portless cs)) none)
      | false ↦ λ some. later i c cs some (first_from has_no_ports (suc i) cs) (firsts (suc i) cs)
    ] refl

module _ (cs : List Composite) (k : ℕ) (c : Composite) (first : first_from has_no_ports 0 cs ≡ Some (at_place k c)) where
  behind : behind_first (portless cs) ≡ portless (drop (k + 1) cs)
  behind =
      let h = subst (Firsts 0 cs) first (firsts 0 cs) in
      let place : k ≡ 0 + h.0 = h.1 in
      let next : suc h.0 ≡ k + 1 = omega arith in
      ap behind_first h.2 ∙ ap (λ j. portless (drop j cs)) next

  none_behind : first_from has_no_ports (k + 1) (drop (k + 1) cs) ≡ None → behind_first (portless cs) ≡ []
  none_behind none = behind ∙ subst (Firsts (k + 1) (drop (k + 1) cs)) none (firsts (k + 1) (drop (k + 1) cs))

  one_behind : (a : At Composite) → first_from has_no_ports (k + 1) (drop (k + 1) cs) ≡ Some a
      → (rest : List Composite) × (behind_first (portless cs) ≡ a.what ∷ rest)
  one_behind a some =
      let h = subst (Firsts (k + 1) (drop (k + 1) cs)) some (firsts (k + 1) (drop (k + 1) cs)) in
      (portless (drop (suc h.0) (drop (k + 1) cs)), behind ∙ h.2)

module _ (unit : List Definition) (unnamed : composite_named unit (codes "Main") ≡ None) where
  pub main_unnamed : main_of unit ≡ only_one (first_from has_no_ports 0 (composites unit)) (behind_first (portless (composites unit)))
  main_unnamed = ap (named_or_only unit) unnamed

  pub main_none : first_from has_no_ports 0 (composites unit) ≡ None → main_of unit ≡ None
  main_none none = main_unnamed ∙ ap (λ o. only_one o (behind_first (portless (composites unit)))) none

  module _ (k : ℕ) (c : Composite) (first : first_from has_no_ports 0 (composites unit) ≡ Some (at_place k c)) where
    pub main_only : first_from has_no_ports (k + 1) (drop (k + 1) (composites unit)) ≡ None → main_of unit ≡ if_main (at_place k c)
    main_only none = main_unnamed ∙ (λ i. only_one (first i) (none_behind (composites unit) k c first none i))

    pub main_several : (a : At Composite) → first_from has_no_ports (k + 1) (drop (k + 1) (composites unit)) ≡ Some a → main_of unit ≡ None
    main_several a some =
        let more = one_behind (composites unit) k c first a some in
        main_unnamed ∙ (λ i. only_one (first i) (more.1 i))
