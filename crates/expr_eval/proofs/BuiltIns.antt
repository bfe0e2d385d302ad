-- The outcome of a built-in call, by the outcomes of its arguments.
use Rattle.std.specs.Prelude.{◌≡◌, ◌≤◌, ◌<◌, ℕ, suc, List, [], ◌∷◌, length, Result, Err}
use Rattle.std.proofs.Common.{refl, sym, ap, ◌∙◌, arith, get_or, subst}
use Rattle.spl_value.specs.declared.types.SplType.{SplType}
use Rattle.spl_value.specs.declared.value.Value.{Value}
use Rattle.spl_tree.specs.declared.code.BuiltIn.{BuiltIn}
use Rattle.spl_tree.specs.declared.code.Code.{Code}
use Rattle.spl_tree.specs.declared.code.Code.TheVariants as C
use Rattle.spl_tree.specs.declared.body.Function.{Function}
use Rattle.spl_tree.specs.declared.code.Slot.{Slot}
use Rattle.language_model.specs.declared.env.Env.{Env}
use Rattle.language_model.specs.declared.scope.Scope.{Scope}
use Rattle.language_model.specs.CodeFits as F
use Rattle.language_model.specs.CodeFits.{ArgumentsFit, BuiltInGives}
use Rattle.language_model.specs.Evaluation.{World, Calls, code_value}
use Rattle.language_model.specs.EvaluationLaws.{values_of}
use Rattle.language_model.specs.parts.BuiltInCalls.{built_in_of}
use Rattle.language_model.specs.Outcomes.{Outcome, Done, followed, settled}
use Rattle.value_operations.specs.Answers.{StopsAs, Answers}
use Rattle.expr_eval.specs.Fitting.{IsFit}
use Rattle.value_operations.specs.declared.stop.Stop.{Stop}
use Rattle.expr_eval.proofs.CodeParts.{built_in_parts}
use Rattle.value_operations.proofs.Following.{followed_followed, followed_stops, stops_by}

-- ---- how many arguments there are

arguments_length : (scope : Scope) (xs : List (Code Slot)) (ts : List SplType) → ArgumentsFit scope xs ts → length xs ≡ length ts
arguments_length scope _ _ F.no_arguments = refl
arguments_length scope _ _ (F.argument x xs t ts f h) = ap suc (arguments_length scope xs ts h)

types_length : (call : BuiltIn) (ts : List SplType) (t : SplType) → BuiltInGives call ts t → (1 ≤ length ts) × (length ts ≤ 3)
types_length _ _ _ F.text_length = (omega arith, omega arith)
types_length _ _ _ (F.list_size t) = (omega arith, omega arith)
types_length _ _ _ (F.map_size k t) = (omega arith, omega arith)
types_length _ _ _ (F.has k t) = (omega arith, omega arith)
types_length _ _ _ (F.abs k) = (omega arith, omega arith)
types_length _ _ _ (F.min_integer k) = (omega arith, omega arith)
types_length _ _ _ F.min_text = (omega arith, omega arith)
types_length _ _ _ (F.max_integer k) = (omega arith, omega arith)
types_length _ _ _ F.max_text = (omega arith, omega arith)
types_length _ _ _ F.substring = (omega arith, omega arith)

pub one_to_three : (functions : List Function) (env : Env) (call : BuiltIn) (xs : List (Code Slot)) → IsFit functions (C.BuiltIn call xs) env → (1 ≤ length xs) × (length xs ≤ 3)
one_to_three functions env call xs h =
    let p = built_in_parts functions env (C.BuiltIn call xs) h call xs refl in
    let long : length xs ≡ length p.0 = arguments_length h.1.scope xs p.0 p.1 in
    let few = types_length call p.0 h.0 p.2 in
    (omega (arith, few.0), omega (arith, few.1))

module _ {A : Type 0} (xs : List A) where
  pub is_one : (x : A) → 1 ≤ length xs → length xs < 2 → x ≡ get_or xs 0 x → xs ≡ x ∷ []
  is_one = go xs
    where
      go : (xs : List A) (x : A) → 1 ≤ length xs → length xs < 2 → x ≡ get_or xs 0 x → xs ≡ x ∷ []
      go [] x some few e = absurd (omega arith)
      go (a ∷ []) x some few e = ap (λ a. a ∷ []) (sym e)
      go (a ∷ b ∷ more) x some few e = absurd (omega arith)

  pub are_two : (x y : A) → 2 ≤ length xs → length xs < 3 → x ≡ get_or xs 0 x → y ≡ get_or xs 1 y → xs ≡ x ∷ y ∷ []
  are_two = go xs
    where
      go : (xs : List A) (x y : A) → 2 ≤ length xs → length xs < 3 → x ≡ get_or xs 0 x → y ≡ get_or xs 1 y → xs ≡ x ∷ y ∷ []
      go [] x y some few e f = absurd (omega arith)
      go (a ∷ []) x y some few e f = absurd (omega arith)
      go (a ∷ b ∷ []) x y some few e f = λ i. sym e i ∷ sym f i ∷ []
      go (a ∷ b ∷ c ∷ more) x y some few e f = absurd (omega arith)

  pub are_three : (x y z : A) → 3 ≤ length xs → length xs < 4 → x ≡ get_or xs 0 x → y ≡ get_or xs 1 y → z ≡ get_or xs 2 z → xs ≡ x ∷ y ∷ z ∷ []
  are_three = go xs
    where
      go : (xs : List A) (x y z : A) → 3 ≤ length xs → length xs < 4 → x ≡ get_or xs 0 x → y ≡ get_or xs 1 y → z ≡ get_or xs 2 z → xs ≡ x ∷ y ∷ z ∷ []
      go [] x y z some few e f g = absurd (omega arith)
      go (a ∷ []) x y z some few e f g = absurd (omega arith)
      go (a ∷ b ∷ []) x y z some few e f g = absurd (omega arith)
      go (a ∷ b ∷ c ∷ []) x y z some few e f g = λ i. sym e i ∷ sym f i ∷ sym g i ∷ []
      go (a ∷ b ∷ c ∷ d ∷ more) x y z some few e f g = absurd (omega arith)

-- ---- their values

module _ (calls : Calls) (w : World Slot) where
  -- the first of several
  module _ (x : Code Slot) (rest : List (Code Slot)) (turns : ℕ) where
    stops_first : (s : Stop) → StopsAs (code_value calls x w turns) s → StopsAs (values_of calls (x ∷ rest) w turns) s
    stops_first s h = followed_stops (code_value calls x w turns) (λ v turns. followed (values_of calls rest w turns) (λ vs turns. Done (v ∷ vs) turns)) s h

    module _ (v : Value) (after : ℕ) (d : code_value calls x w turns ≡ Done v after) where
      behind : values_of calls (x ∷ rest) w turns ≡ followed (values_of calls rest w after) (λ vs turns. Done (v ∷ vs) turns)
      behind = ap (λ o. followed o (λ v turns. followed (values_of calls rest w turns) (λ vs turns. Done (v ∷ vs) turns))) d

      stops_behind : (s : Stop) → StopsAs (values_of calls rest w after) s → StopsAs (values_of calls (x ∷ rest) w turns) s
      stops_behind s h = stops_by _ _ s behind (followed_stops (values_of calls rest w after) (λ vs turns. Done (v ∷ vs) turns) s h)

      values_behind : (vs : List Value) (left : ℕ) → values_of calls rest w after ≡ Done vs left → values_of calls (x ∷ rest) w turns ≡ Done (v ∷ vs) left
      values_behind vs left h = behind ∙ ap (λ o. followed o (λ vs turns. Done (v ∷ vs) turns)) h

  module _ (xs : List (Code Slot)) (turns : ℕ) where
    -- a call with one argument
    module _ (x : Code Slot) (e : xs ≡ x ∷ []) where
      pub one_value : (v : Value) (left : ℕ) → code_value calls x w turns ≡ Done v left → values_of calls xs w turns ≡ Done (v ∷ []) left
      one_value v left d = ap (λ xs. values_of calls xs w turns) e ∙ values_behind x [] turns v left d [] left refl

    -- a call with two
    module _ (x y : Code Slot) (e : xs ≡ x ∷ y ∷ []) where
      pub first_of_two_stops : (s : Stop) → StopsAs (code_value calls x w turns) s → StopsAs (values_of calls xs w turns) s
      first_of_two_stops s h = stops_by _ _ s (ap (λ xs. values_of calls xs w turns) e) (stops_first x (y ∷ []) turns s h)

      module _ (v : Value) (after : ℕ) (d : code_value calls x w turns ≡ Done v after) where
        pub two_values : (u : Value) (left : ℕ) → code_value calls y w after ≡ Done u left → values_of calls xs w turns ≡ Done (v ∷ u ∷ []) left
        two_values u left f =
            ap (λ xs. values_of calls xs w turns) e
            ∙ values_behind x (y ∷ []) turns v after d (u ∷ []) left (values_behind y [] after u left f [] left refl)

    -- a call with three
    module _ (x y z : Code Slot) (e : xs ≡ x ∷ y ∷ z ∷ []) where
      pub first_of_three_stops : (s : Stop) → StopsAs (code_value calls x w turns) s → StopsAs (values_of calls xs w turns) s
      first_of_three_stops s h = stops_by _ _ s (ap (λ xs. values_of calls xs w turns) e) (stops_first x (y ∷ z ∷ []) turns s h)

      module _ (v : Value) (after : ℕ) (d : code_value calls x w turns ≡ Done v after) where
        pub second_of_three_stops : (s : Stop) → StopsAs (code_value calls y w after) s → StopsAs (values_of calls xs w turns) s
        second_of_three_stops s h =
            stops_by _ _ s (ap (λ xs. values_of calls xs w turns) e) (stops_behind x (y ∷ z ∷ []) turns v after d s (stops_first y (z ∷ []) after s h))

        module _ (u : Value) (later : ℕ) (f : code_value calls y w after ≡ Done u later) where
          pub three_values : (t : Value) (left : ℕ) → code_value calls z w later ≡ Done t left → values_of calls xs w turns ≡ Done (v ∷ u ∷ t ∷ []) left
          three_values t left g =
              ap (λ xs. values_of calls xs w turns) e
              ∙ values_behind x (y ∷ z ∷ []) turns v after d (u ∷ t ∷ []) left
              (values_behind y (z ∷ []) after u later f (t ∷ []) left (values_behind z [] later t left g [] left refl))

  -- what is done with the values
  module _ {A : Type 0} (f : List Value → ℕ → Outcome A) where
    follows_last : (x : Code Slot) (turns : ℕ) → followed (values_of calls (x ∷ []) w turns) f ≡ followed (code_value calls x w turns) (λ v left. f (v ∷ []) left)
    follows_last x turns = followed_followed (code_value calls x w turns) (λ v turns. Done (v ∷ []) turns) f

    follows_first : (x : Code Slot) (rest : List (Code Slot)) (turns : ℕ) (v : Value) (after : ℕ) → code_value calls x w turns ≡ Done v after
        → followed (values_of calls (x ∷ rest) w turns) f ≡ followed (values_of calls rest w after) (λ vs left. f (v ∷ vs) left)
    follows_first x rest turns v after d = ap (λ o. followed o f) (behind x rest turns v after d) ∙ followed_followed (values_of calls rest w after) (λ vs turns. Done (v ∷ vs) turns) f

  module _ (call : BuiltIn) (xs : List (Code Slot)) (turns : ℕ) where
    abbrev called : Outcome Value
    called = followed (values_of calls xs w turns) (λ vs left. settled (built_in_of call vs) left)

    pub called_stops : (s : Stop) → StopsAs (values_of calls xs w turns) s → StopsAs called s
    called_stops s f = followed_stops (values_of calls xs w turns) (λ vs left. settled (built_in_of call vs) left) s f

    pub called_stopped : (r : Result Value Stop) (left : ℕ) (s : Stop) → r ≡ Err s → StopsAs (values_of calls xs w turns) s → Answers called r left
    called_stopped r left s h f = subst (λ r. Answers called r left) (sym h) (called_stops s f)

    with_values : (ys : List (Code Slot)) → xs ≡ ys → called ≡ followed (values_of calls ys w turns) (λ vs left. settled (built_in_of call vs) left)
    with_values ys e = ap (λ xs. followed (values_of calls xs w turns) (λ vs left. settled (built_in_of call vs) left)) e

    -- by the outcome of its last argument
    pub with_one : (x : Code Slot) → xs ≡ x ∷ [] → called ≡ followed (code_value calls x w turns) (λ v left. settled (built_in_of call (v ∷ [])) left)
    with_one x e = with_values (x ∷ []) e ∙ follows_last (λ vs left. settled (built_in_of call vs) left) x turns

    pub with_two : (x y : Code Slot) → xs ≡ x ∷ y ∷ [] → (v : Value) (after : ℕ) → code_value calls x w turns ≡ Done v after
        → called ≡ followed (code_value calls y w after) (λ u left. settled (built_in_of call (v ∷ u ∷ [])) left)
    with_two x y e v after d =
        with_values (x ∷ y ∷ []) e ∙ follows_first (λ vs left. settled (built_in_of call vs) left) x (y ∷ []) turns v after d
        ∙ follows_last (λ vs left. settled (built_in_of call (v ∷ vs)) left) y after

    pub with_three : (x y z : Code Slot) → xs ≡ x ∷ y ∷ z ∷ [] → (v : Value) (after : ℕ) → code_value calls x w turns ≡ Done v after
        → (u : Value) (later : ℕ) → code_value calls y w after ≡ Done u later
        → called ≡ followed (code_value calls z w later) (λ t left. settled (built_in_of call (v ∷ u ∷ t ∷ [])) left)
    with_three x y z e v after d u later g =
        with_values (x ∷ y ∷ z ∷ []) e ∙ follows_first (λ vs left. settled (built_in_of call vs) left) x (y ∷ z ∷ []) turns v after d
        ∙ follows_first (λ vs left. settled (built_in_of call (v ∷ vs)) left) y (z ∷ []) after u later g
        ∙ follows_last (λ vs left. settled (built_in_of call (v ∷ u ∷ vs)) left) z later
