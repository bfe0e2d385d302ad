-- Codes take as many turns however many there are, where calls do.
use Rattle.std.specs.Prelude.{◌≡◌, ℕ, suc, true, false, not, List, [], ◌∷◌}
use Rattle.std.specs.List.{AllByRecursion}
use Rattle.spl_value.specs.declared.value.Value.{Value}
use Rattle.spl_value.specs.declared.value.Value.TheVariants as V
use Rattle.spl_value.specs.declared.value.Value.TheViews.{out-Value}
use Rattle.spl_tree.specs.declared.code.BinaryCode.{BinaryCode}
use Rattle.spl_tree.specs.declared.code.BinaryCode.TheVariants as D
use Rattle.spl_tree.specs.declared.code.Code.{Code}
use Rattle.spl_tree.specs.declared.code.Code.TheVariants as S
use Rattle.spl_tree.specs.declared.code.Selector.{Selector}
use Rattle.spl_tree.specs.declared.code.Selector.TheVariants as K
use Rattle.spl_tree.specs.declared.code.UnaryCode.{UnaryCode}
use Rattle.language_model.specs.Evaluation.{World, Meaning, Calls, tuple_of, unaries_of, truth, binary, same_marker, code_value}
use Rattle.language_model.specs.parts.Evaluation.{map_of}
use Rattle.language_model.specs.EvaluationLaws.{values_of, pair_values, field_values, takings_value, truth_value, literal_is, name_is, list_is, map_is, tuple_is, select_is, unary_is, binary_is, conditional_is, built_in_is, call_is, is_marker_is, is_not_marker_is}
use Rattle.language_model.specs.parts.BuiltInCalls.{built_in_of}
use Rattle.language_model.specs.Operators.{binary_of, level_member, level_element, level_at_key}
use Rattle.language_model.specs.parts.Operators.{unary_of, truth_of}
use Rattle.language_model.specs.Outcomes.{Outcome, followed, settled}
use Rattle.language_model.proofs.CodeInduction.{CodeSteps, OfPair, OfField, OfTaking, code_ind}
use Rattle.evaluation_laws.proofs.Taking.{Takes, takes_none, takes_followed, takes_need, takes_settled, takes_either, takes_by, takes_enter}

module _ (most : ℕ) {N : Type 0} (w : World N) where
  -- the one takes what the other takes
  abbrev Alike : Meaning N → Meaning N → Type 0
  Alike m n = (turns : ℕ) → Takes most turns (m w turns) (n w)

  unaries_take : (ops : List UnaryCode) (u : Value) (turns : ℕ) → Takes most turns (unaries_of ops u turns) (unaries_of ops u)
  unaries_take [] u turns = takes_none most u turns
  unaries_take (op ∷ ops) u turns = takes_followed most turns (unaries_of ops u turns) _ _ _ (unaries_take ops u turns) (λ x turns. takes_settled most (unary_of op x) turns)

  truth_takes : (m n : Meaning N) → Alike m n → (turns : ℕ) → Takes most turns (truth m w turns) (truth n w)
  truth_takes m n h turns =
      takes_followed most turns (m w turns) _ _ _ (h turns) (λ x turns. takes_need most turns (truth_of x) _ _ (λ b. takes_none most b turns))

  both_take : (op : BinaryCode) (m k n l : Meaning N) → Alike m n → Alike k l → (turns : ℕ)
      → Takes most turns (followed (m w turns) (λ x turns. followed (k w turns) (λ y turns. settled (binary_of op x y) turns)))
      (λ turns. followed (n w turns) (λ x turns. followed (l w turns) (λ y turns. settled (binary_of op x y) turns)))
  both_take op m k n l f g turns =
      takes_followed most turns (m w turns) _ _ _ (f turns) (λ x turns.
      takes_followed most turns (k w turns) _ _ _ (g turns) (λ y turns. takes_settled most (binary_of op x y) turns))

  binary_takes : (op : BinaryCode) (m k n l : Meaning N) → Alike m n → Alike k l → Alike (binary op m k) (binary op n l)
  binary_takes D.And m k n l f g turns =
      takes_followed most turns (truth m w turns) _ _ _ (truth_takes m n f turns) (λ b turns.
      takes_either most turns b _ _ _ _ (g turns) (takes_none most (V.Bool false) turns))
  binary_takes D.Or m k n l f g turns =
      takes_followed most turns (truth m w turns) _ _ _ (truth_takes m n f turns) (λ b turns.
      takes_either most turns b _ _ _ _ (takes_none most (V.Bool true) turns) (g turns))
  binary_takes op m k n l f g turns = both_take op m k n l f g turns

module _ (most : ℕ) (calls others : Calls) (c : (i : ℕ) (values : List Value) (turns : ℕ) → Takes most turns (calls i values turns) (others i values))
    {N : Type 0} (w : World N) where
  abbrev Comes : Code N → Type 0
  Comes x = Alike (suc most) w (code_value calls x) (code_value others x)

  -- by the equations of a form
  comes_by : (x : Code N) (o p : ℕ → Outcome Value) → ((turns : ℕ) → code_value calls x w turns ≡ o turns) → ((turns : ℕ) → code_value others x w turns ≡ p turns)
      → ((turns : ℕ) → Takes (suc most) turns (o turns) p) → Comes x
  comes_by x o p e f h turns = takes_by (suc most) turns (code_value calls x w turns) (o turns) (code_value others x w) p (e turns) f (h turns)

  -- ---- rows of codes

  values_take : (xs : List (Code N)) → AllByRecursion Comes xs → (turns : ℕ) → Takes (suc most) turns (values_of calls xs w turns) (values_of others xs w)
  values_take [] h turns = takes_none (suc most) [] turns
  values_take (x ∷ xs) h turns =
      takes_followed (suc most) turns (code_value calls x w turns) _ _ _ (h.0 turns) (λ y turns.
      takes_followed (suc most) turns (values_of calls xs w turns) _ _ _ (values_take xs h.1 turns) (λ ys turns. takes_none (suc most) (y ∷ ys) turns))

  pairs_take : (ps : List (Code N × Code N)) → AllByRecursion (OfPair Comes) ps → (turns : ℕ)
      → Takes (suc most) turns (pair_values calls ps w turns) (pair_values others ps w)
  pairs_take [] h turns = takes_none (suc most) [] turns
  pairs_take (p ∷ ps) h turns =
      takes_followed (suc most) turns (code_value calls p.0 w turns) _ _ _ (h.0.0 turns) (λ k turns.
      takes_followed (suc most) turns (code_value calls p.1 w turns) _ _ _ (h.0.1 turns) (λ y turns.
      takes_followed (suc most) turns (pair_values calls ps w turns) _ _ _ (pairs_take ps h.1 turns) (λ qs turns. takes_none (suc most) ((k, y) ∷ qs) turns)))

  fields_take : (fs : List (ℕ × Code N)) → AllByRecursion (OfField Comes) fs → (turns : ℕ)
      → Takes (suc most) turns (field_values calls fs w turns) (field_values others fs w)
  fields_take [] h turns = takes_none (suc most) [] turns
  fields_take (f ∷ fs) h turns =
      takes_followed (suc most) turns (code_value calls f.1 w turns) _ _ _ (h.0 turns) (λ y turns.
      takes_followed (suc most) turns (field_values calls fs w turns) _ _ _ (fields_take fs h.1 turns) (λ gs turns. takes_none (suc most) ((f.0, y) ∷ gs) turns))

  takings_take : (ts : List (Selector (Code N))) → AllByRecursion (OfTaking Comes) ts → (u : Value) (turns : ℕ)
      → Takes (suc most) turns (takings_value calls ts u w turns) (takings_value others ts u w)
  takings_take [] h u turns = takes_none (suc most) u turns
  takings_take (K.Member i ∷ ts) h u turns =
      takes_followed (suc most) turns _ _ _ _ (takes_settled (suc most) (level_member i (out-Value u)) turns) (λ y turns. takings_take ts h.1 y turns)
  takings_take (K.Element x ∷ ts) h u turns =
      takes_followed (suc most) turns _ _ _ _
      (takes_followed (suc most) turns (code_value calls x w turns) _ _ _ (h.0 turns) (λ n turns. takes_settled (suc most) (level_element (out-Value u) (out-Value n)) turns))
      (λ y turns. takings_take ts h.1 y turns)
  takings_take (K.AtKey x ∷ ts) h u turns =
      takes_followed (suc most) turns _ _ _ _
      (takes_followed (suc most) turns (code_value calls x w turns) _ _ _ (h.0 turns) (λ k turns. takes_settled (suc most) (level_at_key (out-Value u) k) turns))
      (λ y turns. takings_take ts h.1 y turns)

  -- ---- all codes

  code_steps : CodeSteps Comes
  code_steps = record {
    literal = λ u. comes_by (S.Literal u) _ _ (literal_is calls u w) (literal_is others u w) (takes_none (suc most) u);
    name = λ n. comes_by (S.Name n) _ _ (name_is calls n w) (name_is others n w) (λ turns. takes_need (suc most) turns (w.value_of n) _ _ (λ u. takes_none (suc most) u turns));
    list = λ xs h. comes_by (S.List xs) _ _ (list_is calls xs w) (list_is others xs w) (λ turns.
        takes_followed (suc most) turns (values_of calls xs w turns) _ _ _ (values_take xs h turns) (λ us turns. takes_none (suc most) (V.List us) turns));
    map_of = λ ps h. comes_by (S.Map ps) _ _ (map_is calls ps w) (map_is others ps w) (λ turns.
        takes_followed (suc most) turns (pair_values calls ps w turns) _ _ _ (pairs_take ps h turns) (λ qs turns. takes_none (suc most) (V.Map (map_of qs)) turns));
    tuple = λ fs h. comes_by (S.Tuple fs) _ _ (tuple_is calls fs w) (tuple_is others fs w) (λ turns.
        takes_followed (suc most) turns (field_values calls fs w turns) _ _ _ (fields_take fs h turns) (λ gs turns.
        takes_need (suc most) turns (tuple_of gs) _ _ (λ us. takes_none (suc most) (V.Tuple us) turns)));
    select = λ x ts f h. comes_by (S.Select x ts) _ _ (select_is calls x ts w) (select_is others x ts w) (λ turns.
        takes_followed (suc most) turns (code_value calls x w turns) _ _ _ (f turns) (λ u turns. takings_take ts h u turns));
    unary = λ ops x f. comes_by (S.Unary ops x) _ _ (unary_is calls ops x w) (unary_is others ops x w) (λ turns.
        takes_followed (suc most) turns (code_value calls x w turns) _ _ _ (f turns) (λ u turns. unaries_take (suc most) w ops u turns));
    binary = λ op x y f g. comes_by (S.Binary op x y) _ _ (binary_is calls op x y w) (binary_is others op x y w)
        (binary_takes (suc most) w op (code_value calls x) (code_value calls y) (code_value others x) (code_value others y) f g);
    conditional = λ b x y e f g. comes_by (S.Conditional b x y) _ _ (conditional_is calls b x y w) (conditional_is others b x y w) (λ turns.
        takes_followed (suc most) turns (truth_value calls b w turns) _ _ _ (truth_takes (suc most) w (code_value calls b) (code_value others b) e turns) (λ t turns.
        takes_either (suc most) turns t _ _ _ _ (f turns) (g turns)));
    built_in = λ call xs h. comes_by (S.BuiltIn call xs) _ _ (built_in_is calls call xs w) (built_in_is others call xs w) (λ turns.
        takes_followed (suc most) turns (values_of calls xs w turns) _ _ _ (values_take xs h turns) (λ us turns. takes_settled (suc most) (built_in_of call us) turns));
    call = λ i xs h. comes_by (S.Call i xs) _ _ (call_is calls i xs w) (call_is others i xs w) (λ turns.
        takes_followed (suc most) turns (values_of calls xs w turns) _ _ _ (values_take xs h turns) (λ us turns.
        takes_enter most turns _ _ (λ turns. c i us turns)));
    is_marker = λ m. comes_by (S.IsMarker m) _ _ (is_marker_is calls m w) (is_marker_is others m w) (λ turns.
        takes_need (suc most) turns w.marker _ _ (λ n. takes_none (suc most) (V.Bool (same_marker m n)) turns));
    is_not_marker = λ m. comes_by (S.IsNotMarker m) _ _ (is_not_marker_is calls m w) (is_not_marker_is others m w) (λ turns.
        takes_need (suc most) turns w.marker _ _ (λ n. takes_none (suc most) (V.Bool (not (same_marker m n))) turns));
  }

  pub codes_take : (x : Code N) (turns : ℕ) → Takes (suc most) turns (code_value calls x w turns) (code_value others x w)
  codes_take = code_ind Comes code_steps
