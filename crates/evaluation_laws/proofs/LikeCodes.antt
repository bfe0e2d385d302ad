-- A code has the same result in worlds that agree on its names, where calls do.
use Rattle.std.specs.Prelude.{◌≡◌, ◌+◌, ℕ, true, false, not, List, [], ◌∷◌, ◌++◌}
use Rattle.std.specs.List.{AllByRecursion, flat_map}
use Rattle.std.proofs.Common.{refl, sym, subst}
use Rattle.spl_value.specs.declared.value.Value.{Value}
use Rattle.spl_value.specs.declared.value.Value.TheVariants as V
use Rattle.spl_value.specs.declared.value.Value.TheViews.{out-Value}
use Rattle.spl_tree.specs.declared.code.BinaryCode.{BinaryCode}
use Rattle.spl_tree.specs.declared.code.BinaryCode.TheVariants as D
use Rattle.spl_tree.specs.declared.code.BuiltIn.{BuiltIn}
use Rattle.spl_tree.specs.declared.code.Code.{Code}
use Rattle.spl_tree.specs.declared.code.Code.TheVariants as S
use Rattle.spl_tree.specs.declared.code.Marker.{Marker}
use Rattle.spl_tree.specs.declared.code.Selector.{Selector}
use Rattle.spl_tree.specs.declared.code.Selector.TheVariants as K
use Rattle.spl_tree.specs.declared.code.UnaryCode.{UnaryCode}
use Rattle.language_model.specs.Evaluation.{World, Meaning, Calls, tuple_of, unaries_of, truth, binary, same_marker, code_value}
use Rattle.language_model.specs.parts.Evaluation.{map_of}
use Rattle.language_model.specs.EvaluationLaws.{values_of, pair_values, field_values, takings_value, literal_is, name_is, list_is, map_is, tuple_is, select_is, unary_is, binary_is, conditional_is, built_in_is, call_is, is_marker_is, is_not_marker_is}
use Rattle.language_model.specs.parts.BuiltInCalls.{built_in_of}
use Rattle.language_model.specs.Operators.{binary_of, level_member, level_element, level_at_key}
use Rattle.language_model.specs.parts.Operators.{unary_of, truth_of}
use Rattle.language_model.specs.Outcomes.{Outcome, followed, settled}
use Rattle.language_model.specs.Slots.{names_of}
use Rattle.language_model.proofs.CodeInduction.{CodeSteps, OfPair, OfField, OfTaking, code_ind}
use Rattle.evaluation_laws.proofs.Extending.{Extends, Same, same_followed, need_extends, settled_extends, either_extends, enter_extends}
use Rattle.evaluation_laws.proofs.NamedSlots.{All, all_front, all_behind}
use Rattle.evaluation_laws.proofs.NamesInCodes.{pair_names, field_names, step_names, name_names, list_names, map_names, tuple_names, select_names, unary_names, binary_names, conditional_names, built_in_names, call_names}

module _ (more : ℕ) {N : Type 0} (w v : World N) where
  -- the one gives what the other gives
  abbrev Follows : Meaning N → Meaning N → Type 0
  Follows m n = (turns : ℕ) → Extends more Same (m w turns) (n v (turns + more))

  unaries_follow : (ops : List UnaryCode) (u : Value) (turns : ℕ) → Extends more Same (unaries_of ops u turns) (unaries_of ops u (turns + more))
  unaries_follow [] u turns = (u, refl, refl)
  unaries_follow (op ∷ ops) u turns =
      same_followed more Same (unaries_of ops u turns) (unaries_of ops u (turns + more)) _ _ (unaries_follow ops u turns) (λ x turns.
      settled_extends more (unary_of op x) turns)

  truth_follows : (m n : Meaning N) → Follows m n → (turns : ℕ) → Extends more Same (truth m w turns) (truth n v (turns + more))
  truth_follows m n h turns =
      same_followed more Same (m w turns) (n v (turns + more)) _ _ (h turns) (λ x turns.
      need_extends more Same (truth_of x) (truth_of x) _ _ refl (λ b. (b, refl, refl)))

  both_follow : (op : BinaryCode) (m k n l : Meaning N) → Follows m n → Follows k l → (turns : ℕ)
      → Extends more Same (followed (m w turns) (λ x turns. followed (k w turns) (λ y turns. settled (binary_of op x y) turns)))
      (followed (n v (turns + more)) (λ x turns. followed (l v turns) (λ y turns. settled (binary_of op x y) turns)))
  both_follow op m k n l f g turns =
      same_followed more Same (m w turns) (n v (turns + more)) _ _ (f turns) (λ x turns.
      same_followed more Same (k w turns) (l v (turns + more)) _ _ (g turns) (λ y turns. settled_extends more (binary_of op x y) turns))

  binary_follows : (op : BinaryCode) (m k n l : Meaning N) → Follows m n → Follows k l → Follows (binary op m k) (binary op n l)
  binary_follows D.And m k n l f g turns =
      same_followed more Same (truth m w turns) (truth n v (turns + more)) _ _ (truth_follows m n f turns) (λ b turns.
      either_extends more Same b _ _ _ _ (g turns) (V.Bool false, refl, refl))
  binary_follows D.Or m k n l f g turns =
      same_followed more Same (truth m w turns) (truth n v (turns + more)) _ _ (truth_follows m n f turns) (λ b turns.
      either_extends more Same b _ _ _ _ (V.Bool true, refl, refl) (g turns))
  binary_follows op m k n l f g turns = both_follow op m k n l f g turns

module _ (more : ℕ) (calls others : Calls) (c : (i : ℕ) (values : List Value) (turns : ℕ) → Extends more Same (calls i values turns) (others i values (turns + more)))
    {N : Type 0} (Named : N → Type 0) (w v : World N) (agree : (n : N) → Named n → w.value_of n ≡ v.value_of n) (marker : w.marker ≡ v.marker) where
  abbrev Comes : Code N → Type 0
  Comes x = Follows more w v (code_value calls x) (code_value others x)

  abbrev Kept : Code N → Type 0
  Kept x = All Named (names_of x) → Comes x

  -- by the equations of a form
  comes_by : (x : Code N) (o p : ℕ → Outcome Value) → ((turns : ℕ) → code_value calls x w turns ≡ o turns) → ((turns : ℕ) → code_value others x v turns ≡ p turns)
      → ((turns : ℕ) → Extends more Same (o turns) (p (turns + more))) → Comes x
  comes_by x o p e f h turns =
      subst (λ q. Extends more Same q (code_value others x v (turns + more))) (sym (e turns)) (subst (λ q. Extends more Same (o turns) q) (sym (f (turns + more))) (h turns))

  -- of the names of a form
  of_form : (x : Code N) (names : List N) → names_of x ≡ names → All Named (names_of x) → All Named names
  of_form x names e h = subst (All Named) e h

  -- ---- rows of codes

  values_follow : (xs : List (Code N)) → AllByRecursion Kept xs → All Named (flat_map names_of xs) → (turns : ℕ)
      → Extends more Same (values_of calls xs w turns) (values_of others xs v (turns + more))
  values_follow [] h named turns = ([], refl, refl)
  values_follow (x ∷ xs) h named turns =
      let rest = all_behind Named (names_of x) (flat_map names_of xs) named in
      same_followed more Same (code_value calls x w turns) (code_value others x v (turns + more)) _ _
      (h.0 (all_front Named (names_of x) (flat_map names_of xs) named) turns) (λ y turns.
      same_followed more Same (values_of calls xs w turns) (values_of others xs v (turns + more)) _ _ (values_follow xs h.1 rest turns) (λ ys turns. (y ∷ ys, refl, refl)))

  pairs_follow : (ps : List (Code N × Code N)) → AllByRecursion (OfPair Kept) ps → All Named (flat_map pair_names ps) → (turns : ℕ)
      → Extends more Same (pair_values calls ps w turns) (pair_values others ps v (turns + more))
  pairs_follow [] h named turns = ([], refl, refl)
  pairs_follow (p ∷ ps) h named turns =
      let first = all_front Named (pair_names p) (flat_map pair_names ps) named in
      let rest = all_behind Named (pair_names p) (flat_map pair_names ps) named in
      same_followed more Same (code_value calls p.0 w turns) (code_value others p.0 v (turns + more)) _ _
      (h.0.0 (all_front Named (names_of p.0) (names_of p.1) first) turns) (λ k turns.
      same_followed more Same (code_value calls p.1 w turns) (code_value others p.1 v (turns + more)) _ _
      (h.0.1 (all_behind Named (names_of p.0) (names_of p.1) first) turns) (λ y turns.
      same_followed more Same (pair_values calls ps w turns) (pair_values others ps v (turns + more)) _ _ (pairs_follow ps h.1 rest turns) (λ qs turns.
      ((k, y) ∷ qs, refl, refl))))

  fields_follow : (fs : List (ℕ × Code N)) → AllByRecursion (OfField Kept) fs → All Named (flat_map field_names fs) → (turns : ℕ)
      → Extends more Same (field_values calls fs w turns) (field_values others fs v (turns + more))
  fields_follow [] h named turns = ([], refl, refl)
  fields_follow (f ∷ fs) h named turns =
      let rest = all_behind Named (field_names f) (flat_map field_names fs) named in
      same_followed more Same (code_value calls f.1 w turns) (code_value others f.1 v (turns + more)) _ _
      (h.0 (all_front Named (field_names f) (flat_map field_names fs) named) turns) (λ y turns.
      same_followed more Same (field_values calls fs w turns) (field_values others fs v (turns + more)) _ _ (fields_follow fs h.1 rest turns) (λ gs turns.
      ((f.0, y) ∷ gs, refl, refl)))

  takings_follow : (ts : List (Selector (Code N))) → AllByRecursion (OfTaking Kept) ts → All Named (flat_map step_names ts) → (u : Value) (turns : ℕ)
      → Extends more Same (takings_value calls ts u w turns) (takings_value others ts u v (turns + more))
  takings_follow [] h named u turns = (u, refl, refl)
  takings_follow (K.Member i ∷ ts) h named u turns =
      same_followed more Same _ _ _ _ (settled_extends more (level_member i (out-Value u)) turns) (λ y turns. takings_follow ts h.1 named y turns)
  takings_follow (K.Element x ∷ ts) h named u turns =
      let rest = all_behind Named (names_of x) (flat_map step_names ts) named in
      same_followed more Same _ _ _ _
      (same_followed more Same (code_value calls x w turns) (code_value others x v (turns + more)) _ _
      (h.0 (all_front Named (names_of x) (flat_map step_names ts) named) turns) (λ n turns. settled_extends more (level_element (out-Value u) (out-Value n)) turns))
      (λ y turns. takings_follow ts h.1 rest y turns)
  takings_follow (K.AtKey x ∷ ts) h named u turns =
      let rest = all_behind Named (names_of x) (flat_map step_names ts) named in
      same_followed more Same _ _ _ _
      (same_followed more Same (code_value calls x w turns) (code_value others x v (turns + more)) _ _
      (h.0 (all_front Named (names_of x) (flat_map step_names ts) named) turns) (λ k turns. settled_extends more (level_at_key (out-Value u) k) turns))
      (λ y turns. takings_follow ts h.1 rest y turns)

  -- ---- forms of codes

  literal_kept : (u : Value) → Kept (S.Literal u)
  literal_kept u named = comes_by (S.Literal u) _ _ (literal_is calls u w) (literal_is others u v) (λ turns. (u, refl, refl))

  name_kept : (n : N) → Kept (S.Name n)
  name_kept n named =
      let all = of_form (S.Name n) _ (name_names n) named in
      comes_by (S.Name n) _ _ (name_is calls n w) (name_is others n v) (λ turns. need_extends more Same (w.value_of n) (v.value_of n) _ _ (agree n all.0) (λ u. (u, refl, refl)))

  list_kept : (xs : List (Code N)) → AllByRecursion Kept xs → Kept (S.List xs)
  list_kept xs h named =
      comes_by (S.List xs) _ _ (list_is calls xs w) (list_is others xs v) (λ turns.
      same_followed more Same (values_of calls xs w turns) (values_of others xs v (turns + more)) _ _
      (values_follow xs h (of_form (S.List xs) _ (list_names xs) named) turns) (λ us turns. (V.List us, refl, refl)))

  map_kept : (ps : List (Code N × Code N)) → AllByRecursion (OfPair Kept) ps → Kept (S.Map ps)
  map_kept ps h named =
      comes_by (S.Map ps) _ _ (map_is calls ps w) (map_is others ps v) (λ turns.
      same_followed more Same (pair_values calls ps w turns) (pair_values others ps v (turns + more)) _ _
      (pairs_follow ps h (of_form (S.Map ps) _ (map_names ps) named) turns) (λ qs turns. (V.Map (map_of qs), refl, refl)))

  tuple_kept : (fs : List (ℕ × Code N)) → AllByRecursion (OfField Kept) fs → Kept (S.Tuple fs)
  tuple_kept fs h named =
      comes_by (S.Tuple fs) _ _ (tuple_is calls fs w) (tuple_is others fs v) (λ turns.
      same_followed more Same (field_values calls fs w turns) (field_values others fs v (turns + more)) _ _
      (fields_follow fs h (of_form (S.Tuple fs) _ (tuple_names fs) named) turns) (λ gs turns.
      need_extends more Same (tuple_of gs) (tuple_of gs) _ _ refl (λ us. (V.Tuple us, refl, refl))))

  select_kept : (x : Code N) (ts : List (Selector (Code N))) → Kept x → AllByRecursion (OfTaking Kept) ts → Kept (S.Select x ts)
  select_kept x ts f h named =
      let all = of_form (S.Select x ts) _ (select_names x ts) named in
      comes_by (S.Select x ts) _ _ (select_is calls x ts w) (select_is others x ts v) (λ turns.
      same_followed more Same (code_value calls x w turns) (code_value others x v (turns + more)) _ _
      (f (all_front Named (names_of x) (flat_map step_names ts) all) turns) (λ u turns.
      takings_follow ts h (all_behind Named (names_of x) (flat_map step_names ts) all) u turns))

  unary_kept : (ops : List UnaryCode) (x : Code N) → Kept x → Kept (S.Unary ops x)
  unary_kept ops x f named =
      comes_by (S.Unary ops x) _ _ (unary_is calls ops x w) (unary_is others ops x v) (λ turns.
      same_followed more Same (code_value calls x w turns) (code_value others x v (turns + more)) _ _
      (f (of_form (S.Unary ops x) _ (unary_names ops x) named) turns) (λ u turns. unaries_follow more w v ops u turns))

  binary_kept : (op : BinaryCode) (x y : Code N) → Kept x → Kept y → Kept (S.Binary op x y)
  binary_kept op x y f g named =
      let all = of_form (S.Binary op x y) _ (binary_names op x y) named in
      comes_by (S.Binary op x y) _ _ (binary_is calls op x y w) (binary_is others op x y v)
      (binary_follows more w v op (code_value calls x) (code_value calls y) (code_value others x) (code_value others y)
      (f (all_front Named (names_of x) (names_of y) all)) (g (all_behind Named (names_of x) (names_of y) all)))

  conditional_kept : (b x y : Code N) → Kept b → Kept x → Kept y → Kept (S.Conditional b x y)
  conditional_kept b x y e f g named =
      let all = of_form (S.Conditional b x y) _ (conditional_names b x y) named in
      let first = all_front Named (names_of b ++ names_of x) (names_of y) all in
      comes_by (S.Conditional b x y) _ _ (conditional_is calls b x y w) (conditional_is others b x y v) (λ turns.
      same_followed more Same _ _ _ _ (truth_follows more w v (code_value calls b) (code_value others b) (e (all_front Named (names_of b) (names_of x) first)) turns) (λ t turns.
      either_extends more Same t _ _ _ _ (f (all_behind Named (names_of b) (names_of x) first) turns) (g (all_behind Named (names_of b ++ names_of x) (names_of y) all) turns)))

  built_in_kept : (call : BuiltIn) (xs : List (Code N)) → AllByRecursion Kept xs → Kept (S.BuiltIn call xs)
  built_in_kept call xs h named =
      comes_by (S.BuiltIn call xs) _ _ (built_in_is calls call xs w) (built_in_is others call xs v) (λ turns.
      same_followed more Same (values_of calls xs w turns) (values_of others xs v (turns + more)) _ _
      (values_follow xs h (of_form (S.BuiltIn call xs) _ (built_in_names call xs) named) turns) (λ us turns. settled_extends more (built_in_of call us) turns))

  call_kept : (i : ℕ) (xs : List (Code N)) → AllByRecursion Kept xs → Kept (S.Call i xs)
  call_kept i xs h named =
      comes_by (S.Call i xs) _ _ (call_is calls i xs w) (call_is others i xs v) (λ turns.
      same_followed more Same (values_of calls xs w turns) (values_of others xs v (turns + more)) _ _
      (values_follow xs h (of_form (S.Call i xs) _ (call_names i xs) named) turns) (λ us turns. enter_extends more Same turns _ _ (λ turns. c i us turns)))

  is_marker_kept : (m : Marker) → Kept (S.IsMarker m)
  is_marker_kept m named =
      comes_by (S.IsMarker m) _ _ (is_marker_is calls m w) (is_marker_is others m v) (λ turns.
      need_extends more Same w.marker v.marker _ _ marker (λ n. (V.Bool (same_marker m n), refl, refl)))

  is_not_marker_kept : (m : Marker) → Kept (S.IsNotMarker m)
  is_not_marker_kept m named =
      comes_by (S.IsNotMarker m) _ _ (is_not_marker_is calls m w) (is_not_marker_is others m v) (λ turns.
      need_extends more Same w.marker v.marker _ _ marker (λ n. (V.Bool (not (same_marker m n)), refl, refl)))

  -- ---- all codes

  kept_steps : CodeSteps Kept
  kept_steps = record {
    literal = literal_kept;
    name = name_kept;
    list = list_kept;
    map_of = map_kept;
    tuple = tuple_kept;
    select = select_kept;
    unary = unary_kept;
    binary = binary_kept;
    conditional = conditional_kept;
    built_in = built_in_kept;
    call = call_kept;
    is_marker = is_marker_kept;
    is_not_marker = is_not_marker_kept;
  }

  pub codes_follow : (x : Code N) → All Named (names_of x) → (turns : ℕ) → Extends more Same (code_value calls x w turns) (code_value others x v (turns + more))
  codes_follow = code_ind Kept kept_steps
