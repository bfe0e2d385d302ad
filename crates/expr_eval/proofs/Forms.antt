-- The outcome of a code of each form, by the outcomes of its parts.
use Rattle.std.specs.Prelude.{◌≡◌, ℕ, Bool, true, false, not, if◌then◌else◌, List, Option, None, Some, Result, IsErrAnd}
use Rattle.std.proofs.Common.{refl, sym, ap, ◌∙◌}
use Rattle.spl_value.specs.declared.value.Value.{Value}
use Rattle.spl_value.specs.declared.value.Value.TheVariants as V
use Rattle.spl_value.specs.declared.value.Value.TheViews.{out-Value}
use Rattle.spl_tree.specs.declared.code.BinaryCode.{BinaryCode}
use Rattle.spl_tree.specs.declared.code.BuiltIn.{BuiltIn}
use Rattle.spl_tree.specs.declared.code.Code.{Code}
use Rattle.spl_tree.specs.declared.code.Code.TheVariants as C
use Rattle.spl_tree.specs.declared.code.Marker.{Marker}
use Rattle.spl_tree.specs.declared.code.Slot.{Slot}
use Rattle.spl_tree.specs.declared.code.Selector.{Selector}
use Rattle.spl_tree.specs.declared.code.UnaryCode.{UnaryCode}
use Rattle.language_model.specs.Evaluation.{World, Calls, tuple_of, unaries_of, binary, same_marker, code_value}
use Rattle.language_model.specs.parts.Evaluation.{map_of}
use Rattle.language_model.specs.EvaluationLaws.{values_of, pair_values, field_values, takings_value, truth_value, literal_is, name_is, list_is, map_is, tuple_is, select_is, unary_is, binary_is, conditional_is, built_in_is, call_is, is_marker_is, is_not_marker_is}
use Rattle.language_model.specs.parts.BuiltInCalls.{built_in_of}
use Rattle.language_model.specs.Statements.{level_tuple}
use Rattle.language_model.specs.Outcomes.{Outcome, Done, followed, need, settled, enter}
use Rattle.value_operations.specs.Answers.{StopsAs, AnswersHeld, ReadsHeld}
use Rattle.value_operations.specs.declared.held.Held.{Held}
use Rattle.value_operations.specs.declared.stop.Stop.{Stop}
use Rattle.value_operations.proofs.Following.{followed_done, followed_followed, followed_stops, stops_by, stops_held, answers_held_by, read_answers}

module _ (calls : Calls) (w : World Slot) (code : Code Slot) (turns : ℕ) where
  abbrev comes : Outcome Value
  comes = code_value calls code w turns

  -- by the equation of its form
  form : (y : Code Slot) (o : Outcome Value) → code ≡ y → code_value calls y w turns ≡ o → comes ≡ o
  form y o is e = ap (λ c. code_value calls c w turns) is ∙ e

  -- `?` hands on a stop
  handed : (o : Outcome Value) (r : Result Held Stop) (left : ℕ) (s : Stop) → comes ≡ o → IsErrAnd r (λ y. y ≡ s) → StopsAs o s → AnswersHeld comes r left
  handed o r left s e h f = stops_held comes r left s h (stops_by comes o s e f)

  pub literal_done : (v : Value) → code ≡ C.Literal v → comes ≡ Done v turns
  literal_done v is = form (C.Literal v) _ is (literal_is calls v w turns)

  pub name_answers : (s : Slot) → code ≡ C.Name s → (r : Result Held Stop) → ReadsHeld (w.value_of s) r → AnswersHeld comes r turns
  name_answers s is r h = answers_held_by comes _ r turns (form (C.Name s) _ is (name_is calls s w turns)) (read_answers (w.value_of s) r turns h)

  module _ (x : Code Slot) (ts : List (Selector (Code Slot))) (is : code ≡ C.Select x ts) where
    select_form : comes ≡ followed (code_value calls x w turns) (λ v turns. takings_value calls ts v w turns)
    select_form = form (C.Select x ts) _ is (select_is calls x ts w turns)

    pub select_stops : (r : Result Held Stop) (left : ℕ) (s : Stop) → IsErrAnd r (λ y. y ≡ s) → StopsAs (code_value calls x w turns) s → AnswersHeld comes r left
    select_stops r left s h f = handed _ r left s select_form h (followed_stops (code_value calls x w turns) (λ v turns. takings_value calls ts v w turns) s f)

    pub select_comes : (v : Value) (after : ℕ) → code_value calls x w turns ≡ Done v after → comes ≡ takings_value calls ts v w after
    select_comes v after d = select_form ∙ ap (λ o. followed o (λ v turns. takings_value calls ts v w turns)) d

  module _ (ops : List UnaryCode) (x : Code Slot) (is : code ≡ C.Unary ops x) where
    unary_form : comes ≡ followed (code_value calls x w turns) (λ v turns. unaries_of ops v turns)
    unary_form = form (C.Unary ops x) _ is (unary_is calls ops x w turns)

    pub unary_stops : (r : Result Held Stop) (left : ℕ) (s : Stop) → IsErrAnd r (λ y. y ≡ s) → StopsAs (code_value calls x w turns) s → AnswersHeld comes r left
    unary_stops r left s h f = handed _ r left s unary_form h (followed_stops (code_value calls x w turns) (λ v turns. unaries_of ops v turns) s f)

    pub unary_answers : (v : Value) (left : ℕ) → code_value calls x w turns ≡ Done v left → (r : Result Held Stop) → AnswersHeld (unaries_of ops v left) r left → AnswersHeld comes r left
    unary_answers v left d r h = answers_held_by comes _ r left (unary_form ∙ ap (λ o. followed o (λ v turns. unaries_of ops v turns)) d) h

  pub binary_answers : (op : BinaryCode) (x y : Code Slot) → code ≡ C.Binary op x y → (r : Result Held Stop) (left : ℕ)
      → AnswersHeld (binary op (code_value calls x) (code_value calls y) w turns) r left → AnswersHeld comes r left
  binary_answers op x y is r left h = answers_held_by comes _ r left (form (C.Binary op x y) _ is (binary_is calls op x y w turns)) h

  module _ (c x y : Code Slot) (is : code ≡ C.Conditional c x y) where
    conditional_form : comes ≡ followed (truth_value calls c w turns) (λ b turns. if b then code_value calls x w turns else code_value calls y w turns)
    conditional_form = form (C.Conditional c x y) _ is (conditional_is calls c x y w turns)

    pub conditional_stops : (r : Result Held Stop) (left : ℕ) (s : Stop) → IsErrAnd r (λ y. y ≡ s) → StopsAs (truth_value calls c w turns) s → AnswersHeld comes r left
    conditional_stops r left s h f =
        handed _ r left s conditional_form h (followed_stops (truth_value calls c w turns) (λ b turns. if b then code_value calls x w turns else code_value calls y w turns) s f)

    pub first_answers : (b : Bool) (after : ℕ) → truth_value calls c w turns ≡ Done b after → b ≡ true → (r : Result Held Stop) (left : ℕ) → AnswersHeld (code_value calls x w after) r left
        → AnswersHeld comes r left
    first_answers b after d e r left h =
        answers_held_by comes _ r left
        (conditional_form ∙ ap (λ o. followed o (λ b turns. if b then code_value calls x w turns else code_value calls y w turns)) d
        ∙ ap (λ b. if b then code_value calls x w after else code_value calls y w after) e) h

    pub second_answers : (b : Bool) (after : ℕ) → truth_value calls c w turns ≡ Done b after → b ≡ false → (r : Result Held Stop) (left : ℕ) → AnswersHeld (code_value calls y w after) r left
        → AnswersHeld comes r left
    second_answers b after d e r left h =
        answers_held_by comes _ r left
        (conditional_form ∙ ap (λ o. followed o (λ b turns. if b then code_value calls x w turns else code_value calls y w turns)) d
        ∙ ap (λ b. if b then code_value calls x w after else code_value calls y w after) e) h

  module _ (xs : List (Code Slot)) (is : code ≡ C.List xs) where
    list_form : comes ≡ followed (values_of calls xs w turns) (λ vs turns. Done (V.List vs) turns)
    list_form = form (C.List xs) _ is (list_is calls xs w turns)

    pub list_answers : (r : Result Held Stop) (left : ℕ) → AnswersHeld (followed (values_of calls xs w turns) (λ vs turns. Done (V.List vs) turns)) r left → AnswersHeld comes r left
    list_answers r left h = answers_held_by comes _ r left list_form h

  module _ (ps : List (Code Slot × Code Slot)) (is : code ≡ C.Map ps) where
    map_form : comes ≡ followed (pair_values calls ps w turns) (λ qs turns. Done (V.Map (map_of qs)) turns)
    map_form = form (C.Map ps) _ is (map_is calls ps w turns)

    -- the map is made of the pairs
    made : comes ≡ followed (followed (pair_values calls ps w turns) (λ qs turns. Done (map_of qs) turns)) (λ m turns. Done (V.Map m) turns)
    made = map_form ∙ sym (followed_followed (pair_values calls ps w turns) (λ qs turns. Done (map_of qs) turns) (λ m turns. Done (V.Map m) turns))

    pub map_answers : (r : Result Held Stop) (left : ℕ)
        → AnswersHeld (followed (followed (pair_values calls ps w turns) (λ qs turns. Done (map_of qs) turns)) (λ m turns. Done (V.Map m) turns)) r left → AnswersHeld comes r left
    map_answers r left h = answers_held_by comes _ r left made h

  module _ (fs : List (ℕ × Code Slot)) (is : code ≡ C.Tuple fs) where
    tuple_form : comes ≡ followed (field_values calls fs w turns) (λ gs turns. need (tuple_of gs) (λ vs. Done (V.Tuple vs) turns))
    tuple_form = form (C.Tuple fs) _ is (tuple_is calls fs w turns)

    need_followed : (o : Option (List Value)) (left : ℕ)
        → followed (need o (λ vs. Done vs left)) (λ vs left. Done (V.Tuple vs) left) ≡ need o (λ vs. Done (V.Tuple vs) left)
    need_followed None left = refl
    need_followed (Some vs) left = refl

    -- the tuple is made of the fields
    tuple_made : comes ≡ followed (followed (field_values calls fs w turns) (λ gs left. need (tuple_of gs) (λ vs. Done vs left))) (λ vs left. Done (V.Tuple vs) left)
    tuple_made =
        tuple_form ∙ (λ i. followed (field_values calls fs w turns) (λ gs left. sym (need_followed (tuple_of gs) left) i))
        ∙ sym (followed_followed (field_values calls fs w turns) (λ gs left. need (tuple_of gs) (λ vs. Done vs left)) (λ vs left. Done (V.Tuple vs) left))

    pub tuple_answers : (r : Result Held Stop) (left : ℕ)
        → AnswersHeld (followed (followed (field_values calls fs w turns) (λ gs left. need (tuple_of gs) (λ vs. Done vs left))) (λ vs left. Done (V.Tuple vs) left)) r left
        → AnswersHeld comes r left
    tuple_answers r left h = answers_held_by comes _ r left tuple_made h

    -- the values of the tuple
    pub tuple_values_are : followed comes (λ v left. need (level_tuple (out-Value v)) (λ vs. Done vs left))
        ≡ followed (field_values calls fs w turns) (λ gs left. need (tuple_of gs) (λ vs. Done vs left))
    tuple_values_are =
        ap (λ o. followed o (λ v left. need (level_tuple (out-Value v)) (λ vs. Done vs left))) tuple_made
        ∙ followed_followed (followed (field_values calls fs w turns) (λ gs left. need (tuple_of gs) (λ vs. Done vs left))) (λ vs left. Done (V.Tuple vs) left) (λ v left. need (level_tuple (out-Value v)) (λ vs. Done vs left))
        ∙ (λ i. followed (followed (field_values calls fs w turns) (λ gs left. need (tuple_of gs) (λ vs. Done vs left))) (λ vs left. need (level_tuple (V.outs-Tuple vs i)) (λ vs. Done vs left)))
        ∙ followed_done (followed (field_values calls fs w turns) (λ gs left. need (tuple_of gs) (λ vs. Done vs left)))

  module _ (call : BuiltIn) (xs : List (Code Slot)) (is : code ≡ C.BuiltIn call xs) where
    built_in_form : comes ≡ followed (values_of calls xs w turns) (λ vs turns. settled (built_in_of call vs) turns)
    built_in_form = form (C.BuiltIn call xs) _ is (built_in_is calls call xs w turns)

    pub built_in_answers : (r : Result Held Stop) (left : ℕ) → AnswersHeld (followed (values_of calls xs w turns) (λ vs turns. settled (built_in_of call vs) turns)) r left → AnswersHeld comes r left
    built_in_answers r left h = answers_held_by comes _ r left built_in_form h

  module _ (i : ℕ) (xs : List (Code Slot)) (is : code ≡ C.Call i xs) where
    call_form : comes ≡ followed (values_of calls xs w turns) (λ vs turns. enter turns (λ turns. calls i vs turns))
    call_form = form (C.Call i xs) _ is (call_is calls i xs w turns)

    pub arguments_stop : (r : Result Held Stop) (left : ℕ) (s : Stop) → IsErrAnd r (λ y. y ≡ s) → StopsAs (values_of calls xs w turns) s → AnswersHeld comes r left
    arguments_stop r left s h f = handed _ r left s call_form h (followed_stops (values_of calls xs w turns) (λ vs turns. enter turns (λ turns. calls i vs turns)) s f)

    module _ (vs : List Value) (after : ℕ) (d : values_of calls xs w turns ≡ Done vs after) where
      called : comes ≡ enter after (λ turns. calls i vs turns)
      called = call_form ∙ ap (λ o. followed o (λ vs turns. enter turns (λ turns. calls i vs turns))) d

      pub call_answers : (r : Result Held Stop) (left : ℕ) → AnswersHeld (enter after (λ turns. calls i vs turns)) r left → AnswersHeld comes r left
      call_answers r left h = answers_held_by comes _ r left called h

  module _ (n : Marker) (came : w.marker ≡ Some n) where
    pub marker_done : (m : Marker) → code ≡ C.IsMarker m → (b : Bool) → b ≡ same_marker m n → comes ≡ Done (V.Bool b) turns
    marker_done m is b e =
        form (C.IsMarker m) _ is (is_marker_is calls m w turns) ∙ ap (λ o. need o (λ n. Done (V.Bool (same_marker m n)) turns)) came ∙ ap (λ b. Done (V.Bool b) turns) (sym e)

    pub other_marker_done : (m : Marker) → code ≡ C.IsNotMarker m → (b : Bool) → b ≡ same_marker m n → comes ≡ Done (V.Bool (not b)) turns
    other_marker_done m is b e =
        form (C.IsNotMarker m) _ is (is_not_marker_is calls m w turns) ∙ ap (λ o. need o (λ n. Done (V.Bool (not (same_marker m n))) turns)) came
        ∙ ap (λ b. Done (V.Bool (not b)) turns) (sym e)
