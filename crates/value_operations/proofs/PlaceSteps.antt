-- What the steps of a change, and the change itself, ask of the value in which it is made.
use Rattle.std.specs.Prelude.{◌≡◌, ℕ, ◌-◌, ◌≤◌, IsTrue, List, [], ◌∷◌, length, drop, take, Some, slice_get}
use Rattle.std.proofs.Common.{refl, sym, ap, subst, ◌∙◌, arith, get_or}
use Rattle.std.proofs.Math.Seq.{take-length}
use Rattle.std.specs.List.{list_all}
use Rattle.spl_value.specs.declared.types.IntKind.{IntKind}
use Rattle.spl_value.specs.declared.types.Named.{Named}
use Rattle.spl_value.specs.declared.types.SplType.{SplType}
use Rattle.spl_value.specs.declared.types.SplType.TheVariants as S
use Rattle.spl_value.specs.declared.value.Value.{Value}
use Rattle.spl_value.specs.declared.value.Value.TheVariants as V
use Rattle.spl_value.specs.Calls.{FitsCollection}
use Rattle.spl_value.proofs.FitsLaws.{pair_fits, fits_list, fits_map, fits_tuple, all_at, get_fits, list_from_fits, map_from_fits, part_fits}
use Rattle.spl_value.specs.Pairs.{are_pairs, pairs_get}
use Rattle.spl_value.specs.Values.{fits, tuple_fits}
use Rattle.std.specs.Cmp.{second_so}
use Rattle.spl_tree.specs.declared.body.Change.{Change}
use Rattle.spl_tree.specs.declared.body.Change.TheVariants as H
use Rattle.spl_tree.specs.declared.code.Selector.{Selector}
use Rattle.spl_tree.specs.declared.code.Selector.TheVariants as K
use Rattle.value_operations.specs.Changing as C
use Rattle.value_operations.specs.Changing.{StepsLeadTo, ArgumentFits, CanChange}
use Rattle.value_operations.specs.steps.Places.{IsIndex}
use Rattle.value_operations.specs.Taking.{HasMember, HasElements, HasKeys}
use Rattle.value_operations.proofs.Parts.{pairs_of}

-- the steps after the first
abbrev pub rest_of : List (Selector Value) → List (Selector Value)
rest_of steps = take (length steps - 1) (drop 1 steps)

pub first_and_rest : (steps : List (Selector Value)) (first step : Selector Value) → 1 ≤ length steps → first ≡ get_or steps 0 first → first ≡ step
    → steps ≡ step ∷ rest_of steps
first_and_rest [] first step le e is = absurd (omega arith)
first_and_rest (s ∷ steps) first step le e is =
    let n : length (s ∷ steps) - 1 ≡ length steps = omega arith in
    (λ i. (sym e ∙ is) i ∷ steps) ∙ ap (λ l. step ∷ l) (sym (ap (λ k. take k steps) n ∙ take-length steps))

-- what the first step asks for, and where the others lead from there
abbrev Steps : List (Selector Value) → SplType → SplType → Type 0
Steps [] t u = t ≡ u
Steps (K.Member i ∷ rest) t u = (schema : List (Named SplType)) × (a : Named SplType) × (t ≡ S.Tuple schema) × (slice_get schema i ≡ Some a) × StepsLeadTo rest a.kind u
Steps (K.Element n ∷ rest) t u = (k : IntKind) × (v : SplType) × (t ≡ S.List v) × IsTrue (fits (S.Int k) n) × StepsLeadTo rest v u
Steps (K.AtKey q ∷ rest) t u = (k : SplType) × (v : SplType) × (t ≡ S.Map k v) × IsTrue (fits k q) × StepsLeadTo rest v u

steps_ask : (steps : List (Selector Value)) (t u : SplType) → StepsLeadTo steps t u → Steps steps t u
steps_ask _ _ _ (C.here t) = refl
steps_ask _ _ _ (C.member i rest schema a u at h) = (schema, a, refl, at, h)
steps_ask _ _ _ (C.index n rest k t u f h) = (k, t, refl, f, h)
steps_ask _ _ _ (C.at_key q rest k t u f h) = (k, t, refl, f, h)

-- ---- one step

module _ (steps : List (Selector Value)) (change : Change Value) (v : Value) (h : CanChange steps change v) (rest : List (Selector Value)) where
  step_at : (step : Selector Value) → steps ≡ step ∷ rest → Steps (step ∷ rest) h.0 h.1
  step_at step is = subst (λ steps. Steps steps h.0 h.1) is (steps_ask steps h.0 h.1 h.3)

  of_kind : (t : SplType) → h.0 ≡ t → IsTrue (fits t v)
  of_kind t e = subst (λ t. IsTrue (fits t v)) e h.2

  module _ (i : ℕ) (is : steps ≡ K.Member i ∷ rest) where
    at_member : Steps (K.Member i ∷ rest) h.0 h.1
    at_member = step_at (K.Member i) is

    pub tuple_has_member : HasMember i v
    tuple_has_member = let p = at_member in (p.0, p.1, p.3, of_kind (S.Tuple p.0) p.2)

    pub member_can_change : (vs : List Value) (w : Value) → v ≡ V.Tuple vs → slice_get vs i ≡ Some w → CanChange rest change w
    member_can_change vs w e at =
        let p = at_member in
        let all : IsTrue (tuple_fits p.0 vs) = sym (fits_tuple p.0 vs) ∙ subst (λ (w : Value). IsTrue (fits (S.Tuple p.0) w)) e (of_kind (S.Tuple p.0) p.2) in
        (p.1.kind, h.1, part_fits p.0 vs i p.1 w all p.3 at, p.4, h.4)

  module _ (n : Value) (is : steps ≡ K.Element n ∷ rest) where
    at_element : Steps (K.Element n ∷ rest) h.0 h.1
    at_element = step_at (K.Element n) is

    pub list_has_elements : HasElements v n
    list_has_elements = let p = at_element in (p.1, p.0, of_kind (S.List p.1) p.2, p.3)

    pub is_index : IsIndex n
    is_index = let p = at_element in (p.0, p.3)

    pub element_can_change : (vs : List Value) (at : ℕ) (w : Value) → v ≡ V.List vs → slice_get vs at ≡ Some w → CanChange rest change w
    element_can_change vs at w e there =
        let p = at_element in
        let all : IsTrue (list_all (fits p.1) vs) = sym (fits_list p.1 vs) ∙ subst (λ (w : Value). IsTrue (fits (S.List p.1) w)) e (of_kind (S.List p.1) p.2) in
        (p.1, h.1, all_at (fits p.1) vs at w all there, p.4, h.4)

  module _ (q : Value) (is : steps ≡ K.AtKey q ∷ rest) where
    at_key : Steps (K.AtKey q ∷ rest) h.0 h.1
    at_key = step_at (K.AtKey q) is

    pub map_has_keys : HasKeys v q
    map_has_keys = let p = at_key in (p.0, p.1, of_kind (S.Map p.0 p.1) p.2, p.3)

    pub value_can_change : (ps : List (Value × Value)) (w : Value) → v ≡ V.Map ps → pairs_get ps q ≡ Some w → CanChange rest change w
    value_can_change ps w e there =
        let p = at_key in
        let all = second_so (are_pairs ps) (list_all (pair_fits p.0 p.1) ps)
        (sym (fits_map p.0 p.1 ps) ∙ subst (λ (w : Value). IsTrue (fits (S.Map p.0 p.1) w)) e (of_kind (S.Map p.0 p.1) p.2)) in
        (p.1, h.1, get_fits p.0 p.1 ps q w all there, p.4, h.4)

-- ---- no more steps

module _ (change : Change Value) (v : Value) (h : CanChange [] change v) where
  -- the value is one of the type of what is changed
  of_changed : (t : SplType) → h.1 ≡ t → IsTrue (fits t v)
  of_changed t e = subst (λ t. IsTrue (fits t v)) (steps_ask [] h.0 h.1 h.3 ∙ e) h.2

  argument : (x : Change Value) → change ≡ x → ArgumentFits x h.1
  argument x is = subst (λ x. ArgumentFits x h.1) is h.4

  pub appended_is_list : (w : Value) → change ≡ H.Append w → ((vs : List Value) → v ≡ V.List vs → ⊥) → ⊥
  appended_is_list w is never =
      let p : ArgumentFits (H.Append w) h.1 = argument (H.Append w) is in
      let l = list_from_fits p.0 v (of_changed (S.List p.0) p.1) in never l.0 l.1

  pub removed_is_map : (q : Value) → change ≡ H.Remove q → ((ps : List (Value × Value)) → v ≡ V.Map ps → ⊥) → ⊥
  removed_is_map q is never =
      let p : ArgumentFits (H.Remove q) h.1 = argument (H.Remove q) is in
      let m = map_from_fits p.0 p.1 v (of_changed (S.Map p.0 p.1) p.2) in never m.0 m.1

  pub removed_are_pairs : (q : Value) (ps : List (Value × Value)) → change ≡ H.Remove q → v ≡ V.Map ps → IsTrue (are_pairs ps)
  removed_are_pairs q ps is e =
      let p : ArgumentFits (H.Remove q) h.1 = argument (H.Remove q) is in
      pairs_of p.0 p.1 v ps (of_changed (S.Map p.0 p.1) p.2) e

  pub cleared_is_collection : change ≡ H.Clear → FitsCollection v
  cleared_is_collection is = (h.1, argument H.Clear is, of_changed h.1 refl)
