-- The results of codes, where calls of functions have no faults but those of evaluation.
use Rattle.std.specs.Prelude.{◌≡◌, ℕ, List, [], ◌∷◌}
use Rattle.std.specs.List.{AllByRecursion}
use Rattle.spl_value.specs.declared.value.Value.{Value}
use Rattle.spl_value.specs.declared.value.Value.TheViews.{out-Value}
use Rattle.spl_tree.specs.declared.code.BinaryCode.{BinaryCode}
use Rattle.spl_tree.specs.declared.code.BinaryCode.TheVariants as D
use Rattle.spl_tree.specs.declared.code.Code.{Code}
use Rattle.spl_tree.specs.declared.code.Code.TheVariants as S
use Rattle.spl_tree.specs.declared.code.Selector.{Selector}
use Rattle.spl_tree.specs.declared.code.Selector.TheVariants as K
use Rattle.spl_tree.specs.declared.code.UnaryCode.{UnaryCode}
use Rattle.language_model.specs.Evaluation.{World, Meaning, Calls, tuple_of, unaries_of, truth, binary, code_value}
use Rattle.language_model.specs.EvaluationLaws.{values_of, pair_values, field_values, takings_value, truth_value, literal_is, name_is, list_is, map_is, tuple_is, select_is, unary_is, binary_is, conditional_is, built_in_is, call_is, is_marker_is, is_not_marker_is}
use Rattle.language_model.specs.parts.BuiltInCalls.{built_in_of}
use Rattle.language_model.specs.Operators.{binary_of, level_member, level_element, level_at_key}
use Rattle.language_model.specs.parts.Operators.{unary_of, truth_of}
use Rattle.language_model.specs.Outcomes.{Outcome, followed, settled}
use Rattle.language_model.proofs.CodeInduction.{CodeSteps, OfPair, OfField, OfTaking, code_ind}
use Rattle.fault_kinds.proofs.Outcomes.{Own, own_followed, own_need, own_enter, own_either, own_by, own_settled}
use Rattle.fault_kinds.proofs.Calls.{own_binary, own_unary, own_built_in, own_member, own_element, own_at_key}

module _ {N : Type 0} (w : World N) where
  abbrev OwnAt : Meaning N → Type 0
  OwnAt m = (turns : ℕ) → Own (m w turns)

  own_unaries : (ops : List UnaryCode) (v : Value) (turns : ℕ) → Own (unaries_of ops v turns)
  own_unaries [] v turns = tt
  own_unaries (op ∷ ops) v turns = own_followed (unaries_of ops v turns) _ (own_unaries ops v turns) (λ u turns. own_settled (unary_of op u) turns (own_unary op u))

  own_truth : (m : Meaning N) → OwnAt m → (turns : ℕ) → Own (truth m w turns)
  own_truth m h turns = own_followed (m w turns) _ (h turns) (λ v turns. own_need (truth_of v) _ (λ b. tt))

  own_both : (op : BinaryCode) (m n : Meaning N) → OwnAt m → OwnAt n → (turns : ℕ)
      → Own (followed (m w turns) (λ u turns. followed (n w turns) (λ v turns. settled (binary_of op u v) turns)))
  own_both op m n f g turns =
      own_followed (m w turns) _ (f turns) (λ u turns. own_followed (n w turns) _ (g turns) (λ v turns. own_settled (binary_of op u v) turns (own_binary op u v)))

  own_operands : (op : BinaryCode) (m n : Meaning N) → OwnAt m → OwnAt n → OwnAt (binary op m n)
  own_operands D.And m n f g turns = own_followed (truth m w turns) _ (own_truth m f turns) (λ b turns. own_either b _ _ (g turns) tt)
  own_operands D.Or m n f g turns = own_followed (truth m w turns) _ (own_truth m f turns) (λ b turns. own_either b _ _ tt (g turns))
  own_operands op m n f g turns = own_both op m n f g turns

module _ (calls : Calls) (c : (i : ℕ) (values : List Value) (turns : ℕ) → Own (calls i values turns)) {N : Type 0} (w : World N) where
  abbrev Comes : Code N → Type 0
  Comes x = OwnAt w (code_value calls x)

  -- ---- rows of codes

  own_values : (xs : List (Code N)) → AllByRecursion Comes xs → (turns : ℕ) → Own (values_of calls xs w turns)
  own_values [] h turns = tt
  own_values (x ∷ xs) h turns =
      own_followed (code_value calls x w turns) _ (h.0 turns) (λ v turns. own_followed (values_of calls xs w turns) _ (own_values xs h.1 turns) (λ vs turns. tt))

  own_pairs : (ps : List (Code N × Code N)) → AllByRecursion (OfPair Comes) ps → (turns : ℕ) → Own (pair_values calls ps w turns)
  own_pairs [] h turns = tt
  own_pairs (p ∷ ps) h turns =
      own_followed (code_value calls p.0 w turns) _ (h.0.0 turns) (λ k turns.
      own_followed (code_value calls p.1 w turns) _ (h.0.1 turns) (λ v turns. own_followed (pair_values calls ps w turns) _ (own_pairs ps h.1 turns) (λ qs turns. tt)))

  own_fields : (fs : List (ℕ × Code N)) → AllByRecursion (OfField Comes) fs → (turns : ℕ) → Own (field_values calls fs w turns)
  own_fields [] h turns = tt
  own_fields (f ∷ fs) h turns =
      own_followed (code_value calls f.1 w turns) _ (h.0 turns) (λ v turns. own_followed (field_values calls fs w turns) _ (own_fields fs h.1 turns) (λ gs turns. tt))

  own_takings : (ts : List (Selector (Code N))) → AllByRecursion (OfTaking Comes) ts → (v : Value) (turns : ℕ) → Own (takings_value calls ts v w turns)
  own_takings [] h v turns = tt
  own_takings (K.Member i ∷ ts) h v turns =
      own_followed (settled (level_member i (out-Value v)) turns) _ (own_settled (level_member i (out-Value v)) turns (own_member i (out-Value v))) (λ u turns. own_takings ts h.1 u turns)
  own_takings (K.Element x ∷ ts) h v turns =
      own_followed (followed (code_value calls x w turns) (λ n turns. settled (level_element (out-Value v) (out-Value n)) turns)) _
      (own_followed (code_value calls x w turns) _ (h.0 turns) (λ n turns.
      own_settled (level_element (out-Value v) (out-Value n)) turns (own_element (out-Value v) (out-Value n))))
      (λ u turns. own_takings ts h.1 u turns)
  own_takings (K.AtKey x ∷ ts) h v turns =
      own_followed (followed (code_value calls x w turns) (λ k turns. settled (level_at_key (out-Value v) k) turns)) _
      (own_followed (code_value calls x w turns) _ (h.0 turns) (λ k turns. own_settled (level_at_key (out-Value v) k) turns (own_at_key (out-Value v) k)))
      (λ u turns. own_takings ts h.1 u turns)

  -- ---- all codes

  comes_by : (x : Code N) (o : ℕ → Outcome Value) → ((turns : ℕ) → code_value calls x w turns ≡ o turns) → ((turns : ℕ) → Own (o turns)) → Comes x
  comes_by x o e h turns = own_by (code_value calls x w turns) (o turns) (e turns) (h turns)

  own_steps : CodeSteps Comes
  own_steps = record {
    literal = λ v. comes_by (S.Literal v) _ (literal_is calls v w) (λ turns. tt);
    name = λ n. comes_by (S.Name n) _ (name_is calls n w) (λ turns. own_need (w.value_of n) _ (λ v. tt));
    list = λ xs h. comes_by (S.List xs) _ (list_is calls xs w) (λ turns. own_followed (values_of calls xs w turns) _ (own_values xs h turns) (λ vs turns. tt));
    map_of = λ ps h. comes_by (S.Map ps) _ (map_is calls ps w) (λ turns. own_followed (pair_values calls ps w turns) _ (own_pairs ps h turns) (λ qs turns. tt));
    tuple = λ fs h. comes_by (S.Tuple fs) _ (tuple_is calls fs w) (λ turns.
        own_followed (field_values calls fs w turns) _ (own_fields fs h turns) (λ gs turns. own_need (tuple_of gs) _ (λ vs. tt)));
    select = λ x ts f h. comes_by (S.Select x ts) _ (select_is calls x ts w) (λ turns.
        own_followed (code_value calls x w turns) _ (f turns) (λ v turns. own_takings ts h v turns));
    unary = λ ops x f. comes_by (S.Unary ops x) _ (unary_is calls ops x w) (λ turns.
        own_followed (code_value calls x w turns) _ (f turns) (λ v turns. own_unaries w ops v turns));
    binary = λ op x y f g. comes_by (S.Binary op x y) _ (binary_is calls op x y w) (own_operands w op (code_value calls x) (code_value calls y) f g);
    conditional = λ b x y e f g. comes_by (S.Conditional b x y) _ (conditional_is calls b x y w) (λ turns.
        own_followed (truth_value calls b w turns) _ (own_truth w (code_value calls b) e turns) (λ t turns. own_either t _ _ (f turns) (g turns)));
    built_in = λ call xs h. comes_by (S.BuiltIn call xs) _ (built_in_is calls call xs w) (λ turns.
        own_followed (values_of calls xs w turns) _ (own_values xs h turns) (λ vs turns. own_settled (built_in_of call vs) turns (own_built_in call vs)));
    call = λ i xs h. comes_by (S.Call i xs) _ (call_is calls i xs w) (λ turns.
        own_followed (values_of calls xs w turns) _ (own_values xs h turns) (λ vs turns. own_enter turns _ (λ turns. c i vs turns)));
    is_marker = λ m. comes_by (S.IsMarker m) _ (is_marker_is calls m w) (λ turns. own_need w.marker _ (λ n. tt));
    is_not_marker = λ m. comes_by (S.IsNotMarker m) _ (is_not_marker_is calls m w) (λ turns. own_need w.marker _ (λ n. tt));
  }

  pub own_code : (x : Code N) (turns : ℕ) → Own (code_value calls x w turns)
  own_code = code_ind Comes own_steps
