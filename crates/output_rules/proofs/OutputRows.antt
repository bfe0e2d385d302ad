-- How far the loops over assignments have come.
use Rattle.std.specs.Prelude.{◌≡◌, ℕ, suc, ◌+◌, ◌<◌, Bool, true, false, List, [], ◌∷◌, ◌++◌, length, drop, if◌then◌else◌, Ok, Err}
use Rattle.std.specs.Str.{bytes_eq}
use Rattle.std.proofs.Common.{refl, ap, sym, subst, ◌∙◌, get_or, set, add-one}
use Rattle.spl_value.specs.declared.types.Named.{Named}
use Rattle.spl_value.specs.declared.types.SplType.{SplType}
use Rattle.spl_tree.specs.Trees.{Expr}
use Rattle.spl_tree.specs.declared.expression.Field.{Field}
use Rattle.spl_tree.specs.declared.unit.OutputAssignments.{OutputAssignments}
use Rattle.language_model.specs.declared.checked.CollectorCall.{CollectorCall}
use Rattle.language_model.specs.OutputTyping.{Assigned, Assigns, Fills, assignment_typing, assignments_typing, filled_from, rows_typing}
use Rattle.language_model.specs.parts.OutputTyping.{collected, places}
use Rattle.language_model.proofs.parts.OutputTyping.{is_assigned}
use Rattle.language_model.specs.Typing.{Found, after, unknown}
use Rattle.language_model.specs.declared.answer.TypeAnswer.{TypeAnswer}
use Rattle.language_model.specs.Finds.{Finds, with_front}
use Rattle.output_rules.specs.steps.Marking.{Tells}
use Rattle.output_rules.proofs.OutputMarks.{tells_more}
use Rattle.output_rules.proofs.OutputSteps.{front_more, front_on}
use Rattle.language_model.proofs.FoundAnswers.{finds_by, stops}
use Rattle.spl_value.proofs.Lists.{drop_at}

places-append : {A : Type 0} (before : List ℕ) (xs ys : Assigned A) → places before (xs ++ ys) ≡ places (places before xs) ys
places-append before [] ys = refl
places-append before (x ∷ xs) ys = places-append (x.0 ∷ before) xs ys

-- one place more
places_on : {A : Type 0} (xs zs : Assigned A) (x : ℕ × A) → zs ≡ xs ++ x ∷ [] → places [] zs ≡ x.0 ∷ places [] xs
places_on xs zs x e = ap (places []) e ∙ places-append [] xs (x ∷ [])

pub told_on : {A : Type 0} (xs zs : Assigned A) (x : ℕ × A) (marks marked : List Bool) → Tells (places [] xs) marks → x.0 < length marks → marked ≡ set marks x.0 true
    → zs ≡ xs ++ x ∷ [] → Tells (places [] zs) marked
told_on xs zs x marks marked t h m e =
    subst (λ ps. Tells ps marked) (sym (places_on xs zs x e)) (tells_more (places [] xs) marks marked x.0 t h m)

-- ---- assignments

module _ {A : Type 0} (assigns : Assigns A) (schema : List (Named SplType)) where
  module _ (fs : List (Field Expr)) (i : ℕ) (xs : Assigned A) (f : Field Expr) (h : i < length fs) (e : f ≡ get_or fs i f) where
    pub assigned_on : (x : ℕ × A) (zs : Assigned A) → assignment_typing assigns schema (places [] xs) f ≡ Ok x → zs ≡ xs ++ x ∷ []
        → with_front xs (assignments_typing assigns schema (places [] xs) (drop i fs)) ≡ with_front zs (assignments_typing assigns schema (places [] zs) (drop (i + 1) fs))
    assigned_on x zs s z =
        ap (λ l. with_front xs (assignments_typing assigns schema (places [] xs) l)) (drop_at fs i f h e)
        ∙ ap
        (λ o. with_front xs (after o (λ y. after (assignments_typing assigns schema (y.0 ∷ places [] xs) (drop (i + 1) fs)) (λ rest. Ok (y ∷ rest)))))
        s
        ∙ front_on xs zs x (assignments_typing assigns schema (x.0 ∷ places [] xs) (drop (i + 1) fs)) z
        ∙ ap (λ ps. with_front zs (assignments_typing assigns schema ps (drop (i + 1) fs))) (sym (places_on xs zs x z))

  -- ---- rows

  abbrev row_after : List ℕ → List ℕ → List OutputAssignments → Found (Assigned A) → Found (Assigned A)
  row_after output before os o = after o (λ ys. after (rows_typing assigns schema output (places before ys) os) (λ rest. Ok (ys ++ rest)))

  row_goes : (output : List ℕ) (os : List OutputAssignments) (xs zs : Assigned A) (o : Found (Assigned A)) → with_front xs o ≡ Ok zs
      → with_front xs (row_after output (places [] xs) os o) ≡ with_front zs (rows_typing assigns schema output (places [] zs) os)
  row_goes output os xs zs (Err r) e = absurd cc
  row_goes output os xs zs (Ok ys) e =
      let same : xs ++ ys ≡ zs = cc in
      front_more xs ys (rows_typing assigns schema output (places (places [] xs) ys) os)
      ∙ ap (λ ps. with_front (xs ++ ys) (rows_typing assigns schema output ps os)) (sym (places-append [] xs ys))
      ∙ ap (λ l. with_front l (rows_typing assigns schema output (places [] l) os)) same

  pub rows_on : (output : List ℕ) (rows : List OutputAssignments) (i : ℕ) (xs : Assigned A) (row : OutputAssignments) → i < length rows → row ≡ get_or rows i row
      → bytes_eq row.stream.what output ≡ true → (zs : Assigned A) → with_front xs (assignments_typing assigns schema (places [] xs) row.assignments) ≡ Ok zs
      → with_front xs (rows_typing assigns schema output (places [] xs) (drop i rows)) ≡ with_front zs (rows_typing assigns schema output (places [] zs) (drop (i + 1) rows))
  rows_on output rows i xs row h e named zs s =
      let os = drop (i + 1) rows in
      ap (λ l. with_front xs (rows_typing assigns schema output (places [] xs) l)) (drop_at rows i row h e)
      ∙ ap
      (λ b. with_front xs (if b then row_after output (places [] xs) os (assignments_typing assigns schema (places [] xs) row.assignments) else unknown row.stream.at row.stream.what))
      named
      ∙ row_goes output os xs zs (assignments_typing assigns schema (places [] xs) row.assignments) s

-- ---- attributes without an assignment

module _ {A : Type 0} (fills : Fills A) (front : Assigned A) (schema : List (Named SplType)) (i : ℕ) (xs : Assigned A) (a : Named SplType)
    (h : i < length schema) (e : a ≡ get_or schema i a) where
  abbrev others_from : Assigned A → ℕ → Found (Assigned A)
  others_from xs i = with_front xs (filled_from fills front i (drop i schema))

  abbrev fill_after : Found A → Found (Assigned A)
  fill_after o = after o (λ x. after (filled_from fills front (suc i) (drop (i + 1) schema)) (λ rest. Ok ((i, x) ∷ rest)))

  fill_is : (b : Bool) → is_assigned i front ≡ b
      → others_from xs i ≡ with_front xs (if b then filled_from fills front (suc i) (drop (i + 1) schema) else fill_after (fills a))
  fill_is b g =
      ap (λ l. with_front xs (filled_from fills front i l)) (drop_at schema i a h e)
      ∙ ap (λ b. with_front xs (if b then filled_from fills front (suc i) (drop (i + 1) schema) else fill_after (fills a))) g

  -- it has an assignment
  pub fill_past : is_assigned i front ≡ true → others_from xs i ≡ others_from xs (i + 1)
  fill_past g = fill_is true g ∙ ap (λ n. with_front xs (filled_from fills front n (drop (i + 1) schema))) (sym (add-one i))

  pub fill_on : is_assigned i front ≡ false → (n : ℕ) (x : A) (zs : Assigned A) → n ≡ i → fills a ≡ Ok x → zs ≡ xs ++ (n, x) ∷ [] → others_from xs i ≡ others_from zs (i + 1)
  fill_on g n x zs k s z =
      fill_is false g
      ∙ ap (λ o. with_front xs (fill_after o)) s
      ∙ front_on xs zs (i, x) (filled_from fills front (suc i) (drop (i + 1) schema)) (z ∙ ap (λ m. xs ++ (m, x) ∷ []) k)
      ∙ ap (λ m. with_front zs (filled_from fills front m (drop (i + 1) schema))) (sym (add-one i))

  pub fill_stops : is_assigned i front ≡ false → (r : TypeAnswer) → Finds (fills a) (Err r) → Finds (others_from xs i) (Err r)
  fill_stops g r f =
      finds_by _ _ (Err r) (fill_is false g)
      (stops (fill_after (fills a)) (λ rest. Ok (xs ++ rest)) r
      (stops (fills a) (λ x. after (filled_from fills front (suc i) (drop (i + 1) schema)) (λ rest. Ok ((i, x) ∷ rest))) r f))

-- ---- groups

pub collected_on : (xs : Assigned CollectorCall) (x : ℕ × CollectorCall)
    → collected (xs ++ x ∷ []) ≡ collected xs ++ record { attribute = x.0; collector = x.1.collector; argument = x.1.argument } ∷ []
collected_on [] x = refl
collected_on (y ∷ xs) x = ap (λ l. record { attribute = y.0; collector = y.1.collector; argument = y.1.argument } ∷ l) (collected_on xs x)
