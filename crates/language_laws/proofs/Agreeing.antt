-- When two codes have the same result, form by form.
use Rattle.std.specs.Prelude.{◌≡◌, ℕ, Bool, true, false, not, List, ◌∷◌, if◌then◌else◌}
use Rattle.std.proofs.Common.{refl, sym, ap, ◌∙◌}
use Rattle.spl_value.specs.declared.value.Value.{Value}
use Rattle.spl_value.specs.declared.value.Value.TheVariants as V
use Rattle.spl_value.specs.declared.value.Value.TheViews.{out-Value}
use Rattle.spl_tree.specs.declared.code.Code.{Code}
use Rattle.spl_tree.specs.declared.code.Code.TheVariants as C
use Rattle.spl_tree.specs.declared.code.Selector.{Selector}
use Rattle.spl_tree.specs.declared.code.Selector.TheVariants as K
use Rattle.spl_tree.specs.declared.code.UnaryCode.{UnaryCode}
use Rattle.spl_tree.specs.declared.code.BinaryCode.{BinaryCode}
use Rattle.spl_tree.specs.declared.code.BinaryCode.TheVariants as D
use Rattle.spl_tree.specs.declared.code.BuiltIn.{BuiltIn}
use Rattle.spl_tree.specs.declared.code.Marker.{Marker}
use Rattle.language_model.specs.Evaluation.{World, Meaning, Calls, truth, binary, same_marker, code_value}
use Rattle.language_model.specs.EvaluationLaws.{values_of, pair_values, field_values, takings_value, literal_is, name_is, list_is, map_is, tuple_is, select_is, unary_is, binary_is, conditional_is, built_in_is, call_is, is_marker_is, is_not_marker_is}
use Rattle.language_model.specs.Operators.{level_member}
use Rattle.language_model.specs.Outcomes.{Outcome, Done, Faulted, Stuck, followed, need, settled}

-- ---- outcomes

followed_on : {A B : Type 0} (o : Outcome A) (f g : A → ℕ → Outcome B) → ((x : A) (turns : ℕ) → f x turns ≡ g x turns) → followed o f ≡ followed o g
followed_on (Done x turns) f g h = h x turns
followed_on (Faulted kind) f g h = refl
followed_on Stuck f g h = refl

both_followed : {A B : Type 0} (o p : Outcome A) (f g : A → ℕ → Outcome B) → o ≡ p → ((x : A) (turns : ℕ) → f x turns ≡ g x turns) → followed o f ≡ followed p g
both_followed o p f g e h = ap (λ o. followed o f) e ∙ followed_on p f g h

-- the same follows
first_followed : {A B : Type 0} (o p : Outcome A) (f : A → ℕ → Outcome B) → o ≡ p → followed o f ≡ followed p f
first_followed o p f e = ap (λ o. followed o f) e

either : {A : Type 0} (b : Bool) (o p q r : Outcome A) → o ≡ q → p ≡ r → (if b then o else p) ≡ (if b then q else r)
either true o p q r e f = e
either false o p q r e f = f

module _ {M N : Type 0} (w : World M) (v : World N) where
  -- meanings with the same result, each in its own world
  abbrev pub Same : Meaning M → Meaning N → Type 0
  Same m n = (turns : ℕ) → m w turns ≡ n v turns

  truth_same : (m : Meaning M) (n : Meaning N) → Same m n → (turns : ℕ) → truth m w turns ≡ truth n v turns
  truth_same m n h turns = first_followed (m w turns) (n v turns) _ (h turns)

  binary_same : (op : BinaryCode) (m k : Meaning M) (n l : Meaning N) → Same m n → Same k l → Same (binary op m k) (binary op n l)
  binary_same D.And m k n l f g turns =
      both_followed (truth m w turns) (truth n v turns) _ _ (truth_same m n f turns) (λ b turns. either b _ _ _ _ (g turns) refl)
  binary_same D.Or m k n l f g turns =
      both_followed (truth m w turns) (truth n v turns) _ _ (truth_same m n f turns) (λ b turns. either b _ _ _ _ refl (g turns))
  binary_same op m k n l f g turns =
      both_followed (m w turns) (n v turns) _ _ (f turns) (λ x turns. first_followed (k w turns) (l v turns) _ (g turns))

-- ---- forms of codes

module _ {M N : Type 0} (calls : Calls) (w : World M) (v : World N) where
  abbrev pub Agree : Code M → Code N → Type 0
  Agree x y = Same w v (code_value calls x) (code_value calls y)

  abbrev pub ValuesAgree : List (Code M) → List (Code N) → Type 0
  ValuesAgree xs ys = (turns : ℕ) → values_of calls xs w turns ≡ values_of calls ys v turns

  abbrev pub PairsAgree : List (Code M × Code M) → List (Code N × Code N) → Type 0
  PairsAgree xs ys = (turns : ℕ) → pair_values calls xs w turns ≡ pair_values calls ys v turns

  abbrev pub FieldsAgree : List (ℕ × Code M) → List (ℕ × Code N) → Type 0
  FieldsAgree fs gs = (turns : ℕ) → field_values calls fs w turns ≡ field_values calls gs v turns

  abbrev pub StepsAgree : List (Selector (Code M)) → List (Selector (Code N)) → Type 0
  StepsAgree ss ts = (u : Value) (turns : ℕ) → takings_value calls ss u w turns ≡ takings_value calls ts u v turns

  pub literals_agree : (u : Value) → Agree (C.Literal u) (C.Literal u)
  literals_agree u turns = literal_is calls u w turns ∙ sym (literal_is calls u v turns)

  pub names_agree : (m : M) (n : N) → w.value_of m ≡ v.value_of n → Agree (C.Name m) (C.Name n)
  names_agree m n e turns = name_is calls m w turns ∙ ap (λ o. need o (λ u. Done u turns)) e ∙ sym (name_is calls n v turns)

  pub lists_agree : (xs : List (Code M)) (ys : List (Code N)) → ValuesAgree xs ys → Agree (C.List xs) (C.List ys)
  lists_agree xs ys h turns = list_is calls xs w turns ∙ first_followed (values_of calls xs w turns) (values_of calls ys v turns) _ (h turns) ∙ sym (list_is calls ys v turns)

  pub maps_agree : (xs : List (Code M × Code M)) (ys : List (Code N × Code N)) → PairsAgree xs ys → Agree (C.Map xs) (C.Map ys)
  maps_agree xs ys h turns = map_is calls xs w turns ∙ first_followed (pair_values calls xs w turns) (pair_values calls ys v turns) _ (h turns) ∙ sym (map_is calls ys v turns)

  pub tuples_agree : (fs : List (ℕ × Code M)) (gs : List (ℕ × Code N)) → FieldsAgree fs gs → Agree (C.Tuple fs) (C.Tuple gs)
  tuples_agree fs gs h turns = tuple_is calls fs w turns ∙ first_followed (field_values calls fs w turns) (field_values calls gs v turns) _ (h turns) ∙ sym (tuple_is calls gs v turns)

  pub selects_agree : (x : Code M) (y : Code N) (ss : List (Selector (Code M))) (ts : List (Selector (Code N))) → Agree x y → StepsAgree ss ts → Agree (C.Select x ss) (C.Select y ts)
  selects_agree x y ss ts f g turns =
      select_is calls x ss w turns ∙ both_followed (code_value calls x w turns) (code_value calls y v turns) _ _ (f turns) (λ u turns. g u turns) ∙ sym (select_is calls y ts v turns)

  pub unaries_agree : (ops : List UnaryCode) (x : Code M) (y : Code N) → Agree x y → Agree (C.Unary ops x) (C.Unary ops y)
  unaries_agree ops x y f turns =
      unary_is calls ops x w turns ∙ first_followed (code_value calls x w turns) (code_value calls y v turns) _ (f turns) ∙ sym (unary_is calls ops y v turns)

  pub binaries_agree : (op : BinaryCode) (x y : Code M) (z u : Code N) → Agree x z → Agree y u → Agree (C.Binary op x y) (C.Binary op z u)
  binaries_agree op x y z u f g turns =
      binary_is calls op x y w turns
      ∙ binary_same w v op (code_value calls x) (code_value calls y) (code_value calls z) (code_value calls u) f g turns
      ∙ sym (binary_is calls op z u v turns)

  pub conditionals_agree : (c x y : Code M) (d z u : Code N) → Agree c d → Agree x z → Agree y u → Agree (C.Conditional c x y) (C.Conditional d z u)
  conditionals_agree c x y d z u e f g turns =
      conditional_is calls c x y w turns
      ∙ both_followed _ _ _ _ (truth_same w v (code_value calls c) (code_value calls d) e turns) (λ b turns. either b _ _ _ _ (f turns) (g turns))
      ∙ sym (conditional_is calls d z u v turns)

  pub built_ins_agree : (call : BuiltIn) (xs : List (Code M)) (ys : List (Code N)) → ValuesAgree xs ys → Agree (C.BuiltIn call xs) (C.BuiltIn call ys)
  built_ins_agree call xs ys h turns =
      built_in_is calls call xs w turns ∙ first_followed (values_of calls xs w turns) (values_of calls ys v turns) _ (h turns) ∙ sym (built_in_is calls call ys v turns)

  pub calls_agree : (i : ℕ) (xs : List (Code M)) (ys : List (Code N)) → ValuesAgree xs ys → Agree (C.Call i xs) (C.Call i ys)
  calls_agree i xs ys h turns = call_is calls i xs w turns ∙ first_followed (values_of calls xs w turns) (values_of calls ys v turns) _ (h turns) ∙ sym (call_is calls i ys v turns)

  pub markers_agree : (m : Marker) → w.marker ≡ v.marker → Agree (C.IsMarker m) (C.IsMarker m)
  markers_agree m e turns =
      is_marker_is calls m w turns ∙ ap (λ o. need o (λ n. Done (V.Bool (same_marker m n)) turns)) e ∙ sym (is_marker_is calls m v turns)

  pub not_markers_agree : (m : Marker) → w.marker ≡ v.marker → Agree (C.IsNotMarker m) (C.IsNotMarker m)
  not_markers_agree m e turns =
      is_not_marker_is calls m w turns ∙ ap (λ o. need o (λ n. Done (V.Bool (not (same_marker m n))) turns)) e ∙ sym (is_not_marker_is calls m v turns)

  -- ---- rows of codes

  pub more_values : (x : Code M) (y : Code N) (xs : List (Code M)) (ys : List (Code N)) → Agree x y → ValuesAgree xs ys → ValuesAgree (x ∷ xs) (y ∷ ys)
  more_values x y xs ys f g turns =
      both_followed (code_value calls x w turns) (code_value calls y v turns) _ _ (f turns) (λ u turns.
      first_followed (values_of calls xs w turns) (values_of calls ys v turns) _ (g turns))

  pub more_pairs : (x z : Code M) (y u : Code N) (xs : List (Code M × Code M)) (ys : List (Code N × Code N)) → Agree x y → Agree z u → PairsAgree xs ys
      → PairsAgree ((x, z) ∷ xs) ((y, u) ∷ ys)
  more_pairs x z y u xs ys e f g turns =
      both_followed (code_value calls x w turns) (code_value calls y v turns) _ _ (e turns) (λ k turns.
      both_followed (code_value calls z w turns) (code_value calls u v turns) _ _ (f turns) (λ l turns.
      first_followed (pair_values calls xs w turns) (pair_values calls ys v turns) _ (g turns)))

  pub more_fields : (i : ℕ) (x : Code M) (y : Code N) (fs : List (ℕ × Code M)) (gs : List (ℕ × Code N)) → Agree x y → FieldsAgree fs gs
      → FieldsAgree ((i, x) ∷ fs) ((i, y) ∷ gs)
  more_fields i x y fs gs f g turns =
      both_followed (code_value calls x w turns) (code_value calls y v turns) _ _ (f turns) (λ u turns.
      first_followed (field_values calls fs w turns) (field_values calls gs v turns) _ (g turns))

  -- ---- what is taken

  pub members_agree : (i : ℕ) (ss : List (Selector (Code M))) (ts : List (Selector (Code N))) → StepsAgree ss ts → StepsAgree (K.Member i ∷ ss) (K.Member i ∷ ts)
  members_agree i ss ts h u turns = followed_on (settled (level_member i (out-Value u)) turns) _ _ (λ u turns. h u turns)

  pub elements_agree : (x : Code M) (y : Code N) (ss : List (Selector (Code M))) (ts : List (Selector (Code N))) → Agree x y → StepsAgree ss ts
      → StepsAgree (K.Element x ∷ ss) (K.Element y ∷ ts)
  elements_agree x y ss ts f h u turns =
      both_followed _ _ _ _ (first_followed (code_value calls x w turns) (code_value calls y v turns) _ (f turns)) (λ u turns. h u turns)

  pub keys_agree : (x : Code M) (y : Code N) (ss : List (Selector (Code M))) (ts : List (Selector (Code N))) → Agree x y → StepsAgree ss ts
      → StepsAgree (K.AtKey x ∷ ss) (K.AtKey y ∷ ts)
  keys_agree x y ss ts f h u turns =
      both_followed _ _ _ _ (first_followed (code_value calls x w turns) (code_value calls y v turns) _ (f turns)) (λ u turns. h u turns)
