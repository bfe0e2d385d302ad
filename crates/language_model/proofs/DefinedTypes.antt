-- A row of definitions none of which leads back to itself is no longer than there are, so that what a name means is what its
-- definition says, in which names mean the same.
use Rattle.std.specs.Prelude.{◌≡◌, ◌<◌, ◌≤◌, ℕ, zero, suc, ◌+◌, ◌==◌, Bool, true, false, ◌||◌, List, [], ◌∷◌, if◌then◌else◌, filter_map, length, ◌⊎◌, Option, Some, None, slice_get}
use Rattle.std.specs.Option.{option_map}
use Rattle.std.specs.List.{AllByRecursion, IsDistinct, cons_option, list_any}
use Rattle.std.specs.Str.{bytes_eq}
use Rattle.std.proofs.Common.{refl, ap, sym, subst, ◌∙◌, arith, eqb, inl, inr}
use Rattle.std.proofs.lemmas.Bool.{eqb-true, eq-eqb, false_from_ne_true}
use Rattle.std.proofs.lemmas.Map.Steps.{length-le_from_distinct_below}
use Rattle.std.proofs.lemmas.Option.{same_Some, slice_get_within}
use Rattle.spl_tree.specs.declared.unit.TypeDefinition.{TypeDefinition}
use Rattle.language_model.specs.Leading.{leads}
use Rattle.language_model.specs.Scopes.{At}
use Rattle.language_model.specs.TypeNames.{Types, shape_meant, definition_of, leads_to, types_within, types_of}
use Rattle.language_model.specs.parts.TypeNames.{Names, shape_names, is_circular, defined_type}
use Rattle.language_model.specs.TypeNameLaws.{NamesLaw}
use Rattle.language_model.specs.Typing.{unknown}
use Rattle.language_model.proofs.Standing.{Stands, first_stands}
use Rattle.language_model.proofs.TypeInduction.{same_shape}
use Rattle.spl_value.proofs.Bools.{or_last as or_right, or_left, neither}

-- ---- ways from place to place

abbrev pub Among : {A : Type 0} → List A → A → Type 0
Among [] x = ⊥
Among (y ∷ ys) x = (y ≡ x) ⊎ Among ys x

all_of : {A : Type 0} (P : A → Type 0) (xs : List A) → ((x : A) → Among xs x → P x) → AllByRecursion P xs
all_of P [] h = tt
all_of P (x ∷ xs) h = (h x (inl refl), all_of P xs (λ y a. h y (inr a)))

each : {A B C D : Type 0} → (A → C) → (B → D) → A ⊎ B → C ⊎ D
each f g (inl a) = inl (f a)
each f g (inr b) = inr (g b)

one : {A B C : Type 0} → (A → C) → (B → C) → A ⊎ B → C
one f g (inl a) = f a
one f g (inr b) = g b

either : (a b : Bool) → (a || b) ≡ true → (a ≡ true) ⊎ (b ≡ true)
either true b e = inl refl
either false b e = inr e

any_is : (p : ℕ → Bool) (row : List ℕ) → list_any p row ≡ true → (n : ℕ) × Among row n × (p n ≡ true)
any_is p [] e = absurd cc
any_is p (x ∷ row) e =
    one (λ here. (x, inl refl, here)) (λ later. let rest = any_is p row later in (rest.0, inr rest.1, rest.2)) (either (p x) (list_any p row) e)

is_any : (p : ℕ → Bool) (row : List ℕ) (n : ℕ) → Among row n → p n ≡ true → list_any p row ≡ true
is_any p [] n among e = elim among [ ]
is_any p (x ∷ row) n (inl here) e = or_left (p x) (list_any p row) (ap p here ∙ e)
is_any p (x ∷ row) n (inr later) e = or_right (p x) (list_any p row) (is_any p row n later e)

none_is : (p : ℕ → Bool) (row : List ℕ) → list_any p row ≡ false → AllByRecursion (λ n. p n ≡ false) row
none_is p [] e = tt
none_is p (x ∷ row) e = let both = neither (p x) (list_any p row) e in (both.0, none_is p row both.1)

module _ (next : ℕ → List ℕ) where
  -- in at most `count` steps
  abbrev Way : ℕ → ℕ → ℕ → Type 0
  Way zero from to = ⊥
  Way (suc count) from to = (n : ℕ) × Among (next from) n × ((n ≡ to) ⊎ Way count n to)

  way_of : (count from to : ℕ) → leads count next from to ≡ true → Way count from to
  way_of zero from to e = absurd cc
  way_of (suc count) from to e =
      let step = any_is (λ n. (n == to) || leads count next n to) (next from) e in
      (step.0, step.1, each (λ here. eqb-true step.0 to here) (λ later. way_of count step.0 to later) (either (step.0 == to) (leads count next step.0 to) step.2))

  by_way : (count from to : ℕ) → Way count from to → leads count next from to ≡ true
  by_way zero from to w = elim w [ ]
  by_way (suc count) from to w =
      is_any (λ n. (n == to) || leads count next n to) (next from) w.0 w.1
      (one (λ here. or_left (w.0 == to) (leads count next w.0 to) (eq-eqb w.0 to here)) (λ later. or_right (w.0 == to) (leads count next w.0 to) (by_way count w.0 to later)) w.2)

  longer : (count more from to : ℕ) → count ≤ more → Way count from to → Way more from to
  longer zero more from to le w = elim w [ ]
  longer (suc count) zero from to le w = absurd (omega (arith, le))
  longer (suc count) (suc more) from to le w =
      let less : count ≤ more = omega (arith, le) in
      (w.0, w.1, each (λ here. here) (λ later. longer count more w.0 to less later) w.2)

  -- with one step more at the end
  onward : (count from mid to : ℕ) → Way count from mid → Among (next mid) to → Way (suc count) from to
  onward zero from mid to w step = elim w [ ]
  onward (suc count) from mid to w step =
      (w.0, w.1, inr (one (λ here. (to, subst (λ m. Among (next m) to) (sym here) step, inl refl)) (λ later. onward count w.0 mid to later step) w.2))

-- ---- definitions that lead to each other

module _ (definitions : List TypeDefinition) where
  abbrev next : ℕ → List ℕ
  next = leads_to definitions

  abbrev place_in : List ℕ → Option ℕ
  place_in name = option_map (λ e. e.place) (definition_of definitions name)

  among_places : (names : Names) (name : List ℕ) (d : At TypeDefinition) → Among names name → definition_of definitions name ≡ Some d
      → Among (filter_map place_in names) d.place
  among_places [] name d among e = elim among [ ]
  among_places (n ∷ rest) name d (inl here) e = rw (here, e) (inl refl)
  among_places (n ∷ rest) name d (inr later) e =
      elim (place_in n) as (λ o. Among (filter_map place_in rest) d.place → Among (cons_option o (filter_map place_in rest)) d.place) [
        | None ↦ λ h. h
        | Some m ↦ λ h. inr h
      ] (among_places rest name d later e)

  found_there : (name : List ℕ) (o : Option (At TypeDefinition)) → Stands (λ t. bytes_eq t.name.what name) definitions 0 o
      → (d : At TypeDefinition) → o ≡ Some d → slice_get definitions d.place ≡ Some d.what
  found_there name None stands d e = absurd cc
  found_there name (Some a) stands d e =
      let same : a ≡ d = same_Some _ _ e in
      let counted : a.place ≡ 0 + stands.0 = stands.1 in
      let at : stands.0 ≡ a.place = omega (arith, counted) in
      subst (λ (b : At TypeDefinition). slice_get definitions b.place ≡ Some b.what) same (subst (λ k. slice_get definitions k ≡ Some a.what) at stands.2)

  pub there : (name : List ℕ) (d : At TypeDefinition) → definition_of definitions name ≡ Some d → slice_get definitions d.place ≡ Some d.what
  there name d e = found_there name (definition_of definitions name) (first_stands (λ t. bytes_eq t.name.what name) definitions 0) d e

  step_to : (d e : At TypeDefinition) (name other : List ℕ) → definition_of definitions name ≡ Some d → Among (shape_names d.what.shape) other
      → definition_of definitions other ≡ Some e → Among (next d.place) e.place
  step_to d e name other is among other_is = rw (there name d is) (among_places (shape_names d.what.shape) other e among other_is)

  -- places that lead on to each other and at last to what the name means, each at most once
  record Passed (path : List ℕ) (name : List ℕ) : Type 0 where
    once : IsDistinct eqb path
    below : (q : ℕ) → list_any (eqb q) path ≡ true → q < length definitions
    lead : (d : At TypeDefinition) → definition_of definitions name ≡ Some d → (q : ℕ) → list_any (eqb q) path ≡ true → Way next (length path) q d.place

  short : (path : List ℕ) (name : List ℕ) → Passed path name → length path ≤ length definitions
  short path name p = length-le_from_distinct_below path (length definitions) p.once p.below

  new_place : (path : List ℕ) (name : List ℕ) (d : At TypeDefinition) → Passed path name → definition_of definitions name ≡ Some d
      → is_circular definitions d.place ≡ false → list_any (eqb d.place) path ≡ false
  new_place path name d p is circle = false_from_ne_true (list_any (eqb d.place) path) (λ e.
      let round = longer next (length path) (length definitions) d.place d.place (short path name p) (p.lead d is d.place e) in
      let back = by_way next (length definitions) d.place d.place round in
      let h = sym circle ∙ back in cc)

  -- the place of a name's definition, and what stands in it, after the others
  passed_on : (path : List ℕ) (name other : List ℕ) (d : At TypeDefinition) → Passed path name → definition_of definitions name ≡ Some d
      → is_circular definitions d.place ≡ false → Among (shape_names d.what.shape) other → Passed (d.place ∷ path) other
  unfolding IsDistinct
  passed_on path name other d p is circle among = record {
    once = (none_is (eqb d.place) path (new_place path name d p is circle), p.once);
    below = λ q e.
        one (λ here. subst (λ k. k < length definitions) (sym (eqb-true q d.place here)) (slice_get_within definitions d.place d.what (there name d is)))
        (λ later. p.below q later) (either (eqb q d.place) (list_any (eqb q) path) e);
    lead = λ o other_is q e.
        let step : Among (next d.place) o.place = step_to d o name other is among other_is in
        one (λ here. subst (λ k. Way next (suc (length path)) k o.place) (sym (eqb-true q d.place here)) (o.place, step, inl refl))
        (λ later. onward next (length path) q d.place o.place (p.lead d is q later) step) (either (eqb q d.place) (list_any (eqb q) path) e);
  }

  start : (name : List ℕ) → Passed [] name
  unfolding IsDistinct
  start name = record {
    once = tt;
    below = λ q e. absurd cc;
    lead = λ d is q e. absurd cc;
  }

module _ (definitions : List TypeDefinition) (outside : Types) where
  -- what names mean doesn't depend on how often definitions are followed, where that is often enough
  same_within : (count more : ℕ) (path : List ℕ) (name : List ℕ) → length definitions < count + length path → length definitions < more + length path → Passed definitions path name
      → (at : ℕ) → types_within count definitions outside at name ≡ types_within more definitions outside at name
  same_within zero more path name enough also p at = absurd (omega (arith, enough, short definitions path name p))
  same_within (suc count) zero path name enough also p at = absurd (omega (arith, also, short definitions path name p))
  same_within (suc count) (suc more) path name enough also p at =
      elim (definition_of definitions name) as (λ o. definition_of definitions name ≡ o
      → defined_type definitions outside (types_within count definitions outside) at name o ≡ defined_type definitions outside (types_within more definitions outside) at name o) [
        | None ↦ λ is. refl
        | Some d ↦ λ is. elim (is_circular definitions d.place) as (λ b. is_circular definitions d.place ≡ b
            → (if b then unknown at name else shape_meant (types_within count definitions outside) d.what.shape)
            ≡ (if b then unknown at name else shape_meant (types_within more definitions outside) d.what.shape)) [
              | true ↦ λ circle. refl
              | false ↦ λ circle.
                  let fewer : length definitions < count + length (d.place ∷ path) = omega (arith, enough) in
                  let fewer_more : length definitions < more + length (d.place ∷ path) = omega (arith, also) in
                  same_shape (types_within count definitions outside) (types_within more definitions outside) d.what.shape
                  (all_of (λ other. (place : ℕ) → types_within count definitions outside place other ≡ types_within more definitions outside place other)
                  (shape_names d.what.shape) (λ other among.
                  same_within count more (d.place ∷ path) other fewer fewer_more (passed_on definitions path name other d p is circle among)))
            ] refl
      ] refl

  one_more : (name : List ℕ) (at : ℕ) → types_of definitions outside at name ≡ types_within (suc (suc (length definitions))) definitions outside at name
  one_more name at =
      let enough : length definitions < suc (length definitions) + 0 = omega arith in
      let also : length definitions < suc (suc (length definitions)) + 0 = omega arith in
      same_within (suc (length definitions)) (suc (suc (length definitions))) [] name enough also (start definitions name) at

pub names_law : NamesLaw
names_law definitions outside at name = one_more definitions outside name at
