-- How far the loops over rows have come.
use Rattle.std.specs.Prelude.{◌≡◌, ℕ, ◌+◌, ◌<◌, ◌≤◌, List, [], ◌∷◌, ◌++◌, length, drop, Option, Some, Ok, Err}
use Rattle.std.proofs.Common.{refl, ap, sym, ◌∙◌, append_assoc, append-nil, get_or}
use Rattle.std.proofs.lemmas.List.{drop_all}
use Rattle.spl_value.specs.declared.types.SplType.{SplType}
use Rattle.spl_value.specs.declared.types.SplType.TheOpen as T
use Rattle.spl_value.specs.declared.types.SplType.TheOpen.{SplType-F}
use Rattle.spl_value.specs.declared.types.SplType.TheViews.{out-SplType}
use Rattle.spl_tree.specs.Trees.{Expr}
use Rattle.spl_tree.specs.declared.expression.Placed.{Placed}
use Rattle.spl_tree.specs.declared.expression.Step.{Step}
use Rattle.spl_tree.specs.declared.expression.Step.TheVariants as N
use Rattle.spl_tree.specs.declared.code.Code.{Code}
use Rattle.spl_tree.specs.declared.code.Slot.{Slot}
use Rattle.spl_tree.specs.declared.code.Selector.{Selector}
use Rattle.language_model.specs.declared.scope.Scope.{Scope}
use Rattle.language_model.specs.declared.scope.Typed.{Typed}
use Rattle.language_model.specs.Typing.{Found, after, typing, typed, level_step, steps_typed, selected, arguments_typed}
use Rattle.language_model.specs.TypingLaws.{parts, step_part, step_parts}
use Rattle.language_model.specs.declared.answer.TypeAnswer.{TypeAnswer}
use Rattle.language_model.specs.Finds.{Finds, with_front}
use Rattle.name_rules.specs.Wanted.{index_for}
use Rattle.name_rules.specs.Takings.{Taken, with_taken_last, index_taken, member_taken}
use Rattle.language_model.proofs.FoundAnswers.{after_after, finds_by, stops}
use Rattle.spl_value.proofs.Lists.{drop_at}

abbrev found_or : {A : Type 0} → Found A → A → A
found_or (Ok x) y = x
found_or (Err r) y = y

module _ (scope : Scope) where
  -- steps from a type on, with what was taken before them
  abbrev taken_from : ℕ → Code Slot → SplType → List (Step Expr) → List (Selector (Code Slot)) → Found Typed
  taken_from base code kind ss takings = after (steps_typed base scope kind (step_parts ss)) (λ xs. Ok (typed xs.1 (selected code (takings ++ xs.0))))

  module _ (base : ℕ) (code : Code Slot) (kind : SplType) (ss : List (Step Expr)) (i : ℕ) (takings : List (Selector (Code Slot))) where
    pub taken_past : length ss ≤ i → taken_from base code kind (drop i ss) takings ≡ Ok (typed kind (selected code takings))
    taken_past h = ap (λ r. taken_from base code kind r takings) (drop_all i ss h) ∙ ap (λ l. Ok (typed kind (selected code l))) (append-nil takings)

    module _ (s : Step Expr) (h : i < length ss) (e : s ≡ get_or ss i s) where
      abbrev taken_rest : Selector (Code Slot) × SplType → Found (List (Selector (Code Slot)) × SplType)
      taken_rest x = after (steps_typed base scope x.1 (step_parts (drop (i + 1) ss))) (λ xs. Ok (x.0 ∷ xs.0, xs.1))

      taken_is : steps_typed base scope kind (step_parts (drop i ss)) ≡ after (level_step base scope (out-SplType kind) (step_part s)) taken_rest
      taken_is = ap (λ r. steps_typed base scope kind (step_parts r)) (drop_at ss i s h e)

      pub taken_on : (t : Selector (Code Slot)) (given : SplType) (zs : List (Selector (Code Slot))) → level_step base scope (out-SplType kind) (step_part s) ≡ Ok (t, given)
          → zs ≡ takings ++ t ∷ [] → taken_from base code kind (drop i ss) takings ≡ taken_from base code given (drop (i + 1) ss) zs
      taken_on t given zs l z =
          ap (λ o. after o (λ xs. Ok (typed xs.1 (selected code (takings ++ xs.0))))) (taken_is ∙ ap (λ o. after o taken_rest) l)
          ∙ after_after (steps_typed base scope given (step_parts (drop (i + 1) ss))) (λ xs. Ok (t ∷ xs.0, xs.1)) (λ xs. Ok (typed xs.1 (selected code (takings ++ xs.0))))
          ∙ (λ j. after (steps_typed base scope given (step_parts (drop (i + 1) ss))) (λ xs. Ok (typed xs.1 (selected code (sym (append_assoc takings (t ∷ []) xs.0) j)))))
          ∙ ap (taken_from base code given (drop (i + 1) ss)) (sym z)

      with_taken : (found : Found Taken) (given : SplType) (zs : List (Selector (Code Slot))) → level_step base scope (out-SplType kind) (step_part s) ≡ found → with_taken_last takings found ≡ Ok (zs, given)
          → taken_from base code kind (drop i ss) takings ≡ taken_from base code given (drop (i + 1) ss) zs
      with_taken (Ok x) given zs l z = let both = ap (λ o. found_or o (zs, given)) z in taken_on x.0 given zs (l ∙ ap (λ p. Ok (x.0, p.1)) both) (sym (ap (λ p. p.0) both))
      with_taken (Err r) given zs l z = absurd cc

      pub taken_by : (given : SplType) (zs : List (Selector (Code Slot))) → with_taken_last takings (level_step base scope (out-SplType kind) (step_part s)) ≡ Ok (zs, given)
          → taken_from base code kind (drop i ss) takings ≡ taken_from base code given (drop (i + 1) ss) zs
      taken_by given zs z = with_taken (level_step base scope (out-SplType kind) (step_part s)) given zs refl z

      pub taken_stops : (a : TypeAnswer) → Finds (level_step base scope (out-SplType kind) (step_part s)) (Err a) → Finds (taken_from base code kind (drop i ss) takings) (Err a)
      taken_stops a h = finds_by _ _ (Err a) (ap (λ o. after o (λ xs. Ok (typed xs.1 (selected code (takings ++ xs.0))))) taken_is) (stops _ _ a (stops _ _ a h))

  module _ (ts : List SplType) (es : List Expr) (i : ℕ) (front : List (Code Slot)) where
    abbrev arguments_from : ℕ → List (Code Slot) → Found (List (Code Slot))
    arguments_from i front = with_front front (arguments_typed scope (drop i ts) (parts (drop i es)))

    pub kinds_past : length ts ≤ i → arguments_from i front ≡ Ok front
    kinds_past h = ap (λ r. with_front front (arguments_typed scope r (parts (drop i es)))) (drop_all i ts h) ∙ ap Ok (append-nil front)

    pub arguments_past : length es ≤ i → arguments_from i front ≡ Ok front
    arguments_past h = ap (λ r. with_front front (arguments_typed scope (drop i ts) (parts r))) (drop_all i es h) ∙ nothing (drop i ts) ∙ ap Ok (append-nil front)
      where
        nothing : (ts : List SplType) → with_front front (arguments_typed scope ts []) ≡ Ok (front ++ [])
        nothing [] = refl
        nothing (t ∷ ts) = refl

    module _ (t : SplType) (e : Expr) (h : i < length ts) (g : i < length es) (p : t ≡ get_or ts i t) (q : e ≡ get_or es i e) where
      abbrev arguments_rest : Typed → Found (List (Code Slot))
      arguments_rest x = after (arguments_typed scope (drop (i + 1) ts) (parts (drop (i + 1) es))) (λ xs. Ok (x.code ∷ xs))

      arguments_is : arguments_typed scope (drop i ts) (parts (drop i es)) ≡ after (typing scope e (Some t)) arguments_rest
      arguments_is = λ j. arguments_typed scope (drop_at ts i t h p j) (parts (drop_at es i e g q j))

      pub arguments_on : (x : Typed) (zs : List (Code Slot)) → typing scope e (Some t) ≡ Ok x → zs ≡ front ++ x.code ∷ [] → arguments_from i front ≡ arguments_from (i + 1) zs
      arguments_on x zs s z =
          ap (with_front front) (arguments_is ∙ ap (λ o. after o arguments_rest) s)
          ∙ after_after (arguments_typed scope (drop (i + 1) ts) (parts (drop (i + 1) es))) (λ xs. Ok (x.code ∷ xs)) (λ ys. Ok (front ++ ys))
          ∙ (λ j. after (arguments_typed scope (drop (i + 1) ts) (parts (drop (i + 1) es))) (λ ys. Ok (sym (append_assoc front (x.code ∷ []) ys) j)))
          ∙ ap (arguments_from (i + 1)) (sym z)

-- ---- one step

pub member_step : (base : ℕ) (scope : Scope) (t : SplType-F SplType) (m : Placed (List ℕ)) → level_step base scope t (step_part (N.Member m)) ≡ member_taken base t m.at m.what
member_step base scope (T.Tuple schema) m = refl
member_step base scope (T.Int k) m = refl
member_step base scope T.Bool m = refl
member_step base scope T.Text m = refl
member_step base scope (T.List t) m = refl
member_step base scope (T.Map k t) m = refl

pub index_step : (base : ℕ) (scope : Scope) (t : SplType-F SplType) (e : Expr)
    → level_step base scope t (step_part (N.Index e)) ≡ after (index_for base t) (λ w. after (typing scope e w) (λ x. index_taken base e.at x t))
index_step base scope (T.List t) e = refl
index_step base scope (T.Map k t) e = refl
index_step base scope (T.Tuple schema) e = refl
index_step base scope (T.Int k) e = refl
index_step base scope T.Bool e = refl
index_step base scope T.Text e = refl

-- a member that is taken after others
pub member_by : (base : ℕ) (scope : Scope) (k t : SplType) (s : Step Expr) (m : Placed (List ℕ)) (old new zs : List (Selector (Code Slot))) (u given : SplType) → s ≡ N.Member m → k ≡ t
    → with_taken_last old (member_taken base (out-SplType k) m.at m.what) ≡ Ok (new, u) → zs ≡ new → given ≡ u → with_taken_last old (level_step base scope (out-SplType t) (step_part s)) ≡ Ok (zs, given)
member_by base scope k t s m old new zs u given is same taken n g =
    ap (λ s. with_taken_last old (level_step base scope (out-SplType t) (step_part s))) is
    ∙ ap (with_taken_last old) (member_step base scope (out-SplType t) m)
    ∙ ap (λ k. with_taken_last old (member_taken base (out-SplType k) m.at m.what)) (sym same)
    ∙ taken ∙ (λ i. Ok (sym n i, sym g i))

-- what is taken by an index after others
pub index_by : (base : ℕ) (scope : Scope) (k j t : SplType) (s : Step Expr) (e : Expr) (w : Option SplType) (x : Typed) (old new zs : List (Selector (Code Slot))) (u given : SplType) → s ≡ N.Index e → k ≡ t → j ≡ t
    → index_for base (out-SplType k) ≡ Ok w → typing scope e w ≡ Ok x
    → with_taken_last old (index_taken base e.at x (out-SplType j)) ≡ Ok (new, u) → zs ≡ new → given ≡ u → with_taken_last old (level_step base scope (out-SplType t) (step_part s)) ≡ Ok (zs, given)
index_by base scope k j t s e w x old new zs u given is first second wanted found taken n g =
    ap (λ s. with_taken_last old (level_step base scope (out-SplType t) (step_part s))) is
    ∙ ap (with_taken_last old) (index_step base scope (out-SplType t) e)
    ∙ ap (λ o. with_taken_last old (after o (λ w. after (typing scope e w) (λ x. index_taken base e.at x (out-SplType t))))) (ap (λ k. index_for base (out-SplType k)) (sym first) ∙ wanted)
    ∙ ap (λ o. with_taken_last old (after o (λ x. index_taken base e.at x (out-SplType t)))) found
    ∙ ap (λ k. with_taken_last old (index_taken base e.at x (out-SplType k))) (sym second)
    ∙ taken ∙ (λ i. Ok (sym n i, sym g i))
