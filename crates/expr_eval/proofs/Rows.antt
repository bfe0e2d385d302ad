-- How far the loops over rows have come.
use Rattle.std.specs.Prelude.{◌≡◌, ℕ, ◌+◌, ◌≤◌, ◌<◌, List, [], ◌∷◌, ◌++◌, length, drop}
use Rattle.std.specs.List.{fold}
use Rattle.std.proofs.Common.{refl, sym, ap, ◌∙◌, append_assoc, append-nil, get_or}
use Rattle.std.proofs.lemmas.List.{drop_all}
use Rattle.spl_value.specs.declared.value.Value.{Value}
use Rattle.spl_value.specs.Pairs.{pairs_put}
use Rattle.spl_tree.specs.declared.code.Code.{Code}
use Rattle.spl_tree.specs.declared.code.Slot.{Slot}
use Rattle.spl_tree.specs.declared.code.Selector.{Selector}
use Rattle.language_model.specs.Outcomes.{Outcome, Done, followed}
use Rattle.language_model.specs.Evaluation.{World, Calls, code_value, taken}
use Rattle.language_model.specs.parts.Evaluation.{map_of}
use Rattle.language_model.specs.EvaluationLaws.{values_of, pair_values, field_values, taking_meaning, takings_value}
use Rattle.value_operations.specs.Answers.{StopsAs}
use Rattle.value_operations.specs.declared.stop.Stop.{Stop}
use Rattle.value_operations.proofs.Following.{followed_followed, followed_done, followed_stops, stops_by}
use Rattle.spl_value.proofs.Lists.{drop_at}

-- a row whose items are gone through by S
pub record IsRow {X Y : Type 0} (S : X → ℕ → Outcome Y) (R : List X → ℕ → Outcome (List Y)) : Type 0 where
  pub none : (turns : ℕ) → R [] turns ≡ Done [] turns
  pub more : (x : X) (xs : List X) (turns : ℕ) → R (x ∷ xs) turns ≡ followed (S x turns) (λ y turns. followed (R xs turns) (λ ys turns. Done (y ∷ ys) turns))

-- what a loop over a row has made so far, and how one more is put to it
pub record Puts {Y Z : Type 0} (F : Z → List Y → Z) (put : Z → Y → Z) : Type 0 where
  pub none : (z : Z) → F z [] ≡ z
  pub more : (z : Z) (y : Y) (ys : List Y) → F z (y ∷ ys) ≡ F (put z y) ys

module _ {X Y Z : Type 0} (S : X → ℕ → Outcome Y) (R : List X → ℕ → Outcome (List Y)) (is : IsRow S R) (F : Z → List Y → Z) (put : Z → Y → Z) (puts : Puts F put)
    (xs : List X) (i : ℕ) (z : Z) (turns : ℕ) where
  abbrev pub so_far : ℕ → Z → ℕ → Outcome Z
  so_far i z turns = followed (R (drop i xs) turns) (λ ys turns. Done (F z ys) turns)

  pub past : length xs ≤ i → so_far i z turns ≡ Done z turns
  past h =
      ap (λ r. followed (R r turns) (λ ys turns. Done (F z ys) turns)) (drop_all i xs h)
      ∙ ap (λ o. followed o (λ ys turns. Done (F z ys) turns)) (is.none turns) ∙ ap (λ z. Done z turns) (puts.none z)

  module _ (x : X) (h : i < length xs) (e : x ≡ get_or xs i x) where
    rest : so_far i z turns ≡ followed (S x turns) (λ y turns. so_far (i + 1) (put z y) turns)
    rest =
        ap (λ r. followed (R r turns) (λ ys turns. Done (F z ys) turns)) (drop_at xs i x h e)
        ∙ ap (λ o. followed o (λ ys turns. Done (F z ys) turns)) (is.more x (drop (i + 1) xs) turns)
        ∙ followed_followed (S x turns) (λ y turns. followed (R (drop (i + 1) xs) turns) (λ ys turns. Done (y ∷ ys) turns)) (λ ys turns. Done (F z ys) turns)
        ∙ (λ j. followed (S x turns) (λ y turns. moved y turns j))
      where
        moved : (y : Y) (turns : ℕ) → followed (followed (R (drop (i + 1) xs) turns) (λ ys turns. Done (y ∷ ys) turns)) (λ ys turns. Done (F z ys) turns) ≡ so_far (i + 1) (put z y) turns
        moved y turns =
            followed_followed (R (drop (i + 1) xs) turns) (λ ys turns. Done (y ∷ ys) turns) (λ ys turns. Done (F z ys) turns)
            ∙ (λ j. followed (R (drop (i + 1) xs) turns) (λ ys turns. Done (puts.more z y ys j) turns))

    pub on : (y : Y) (left : ℕ) (new : Z) → S x turns ≡ Done y left → new ≡ put z y → so_far i z turns ≡ so_far (i + 1) new left
    on y left new s n = rest ∙ ap (λ o. followed o (λ y turns. so_far (i + 1) (put z y) turns)) s ∙ ap (λ z. so_far (i + 1) z left) (sym n)

    pub stop : (s : Stop) → StopsAs (S x turns) s → StopsAs (so_far i z turns) s
    stop s f = stops_by (so_far i z turns) _ s rest (followed_stops (S x turns) (λ y turns. so_far (i + 1) (put z y) turns) s f)

-- ---- what is put

pub appends : {Y : Type 0} → Puts {Y = Y} (λ zs ys. zs ++ ys) (λ zs y. zs ++ y ∷ [])
appends = record { none = append-nil; more = λ zs y ys. sym (append_assoc zs (y ∷ []) ys) }

abbrev pub put_pair : List (Value × Value) → Value × Value → List (Value × Value)
put_pair ps p = pairs_put ps p.0 p.1

abbrev pub put_all : List (Value × Value) → List (Value × Value) → List (Value × Value)
put_all ps qs = fold put_pair ps qs

puts_pairs : Puts put_all put_pair
puts_pairs = record { none = λ ps. refl; more = λ ps p qs. refl }

-- ---- rows of codes

module _ (calls : Calls) (w : World Slot) where
  -- values
  abbrev value_at : Code Slot → ℕ → Outcome Value
  value_at x turns = code_value calls x w turns

  values_row : IsRow value_at (λ xs turns. values_of calls xs w turns)
  values_row = record { none = λ turns. refl; more = λ x xs turns. refl }

  abbrev pub values_from : List (Code Slot) → ℕ → List Value → ℕ → Outcome (List Value)
  values_from xs i vs turns = followed (values_of calls (drop i xs) w turns) (λ ws turns. Done (vs ++ ws) turns)

  pub values_start : (xs : List (Code Slot)) (vs : List Value) (turns : ℕ) → vs ≡ [] → values_of calls xs w turns ≡ values_from xs 0 vs turns
  values_start xs vs turns e = sym (followed_done (values_of calls xs w turns)) ∙ ap (λ vs. values_from xs 0 vs turns) (sym e)

  module _ (xs : List (Code Slot)) (i : ℕ) (vs : List Value) (turns : ℕ) where
    pub values_past : length xs ≤ i → values_from xs i vs turns ≡ Done vs turns
    values_past = past value_at (λ xs turns. values_of calls xs w turns) values_row (λ zs ys. zs ++ ys) (λ zs y. zs ++ y ∷ []) appends xs i vs turns

    module _ (x : Code Slot) (h : i < length xs) (e : x ≡ get_or xs i x) where
      pub values_on : (v : Value) (left : ℕ) (new : List Value) → code_value calls x w turns ≡ Done v left → new ≡ vs ++ v ∷ [] → values_from xs i vs turns ≡ values_from xs (i + 1) new left
      values_on = on value_at (λ xs turns. values_of calls xs w turns) values_row (λ zs ys. zs ++ ys) (λ zs y. zs ++ y ∷ []) appends xs i vs turns x h e

      pub values_stop : (s : Stop) → StopsAs (code_value calls x w turns) s → StopsAs (values_from xs i vs turns) s
      values_stop = stop value_at (λ xs turns. values_of calls xs w turns) values_row (λ zs ys. zs ++ ys) (λ zs y. zs ++ y ∷ []) appends xs i vs turns x h e

  -- fields
  abbrev pub field_value : ℕ × Code Slot → ℕ → Outcome (ℕ × Value)
  field_value f turns = followed (code_value calls f.1 w turns) (λ v turns. Done (f.0, v) turns)

  fields_row : IsRow field_value (λ fs turns. field_values calls fs w turns)
  fields_row = record {
    none = λ turns. refl;
    more = λ f fs turns. sym (followed_followed (code_value calls f.1 w turns) (λ v turns. Done (f.0, v) turns) (λ g turns. followed (field_values calls fs w turns) (λ gs turns. Done (g ∷ gs) turns)));
  }

  abbrev pub fields_from : List (ℕ × Code Slot) → ℕ → List (ℕ × Value) → ℕ → Outcome (List (ℕ × Value))
  fields_from fs i gs turns = followed (field_values calls (drop i fs) w turns) (λ hs turns. Done (gs ++ hs) turns)

  pub fields_start : (fs : List (ℕ × Code Slot)) (gs : List (ℕ × Value)) (turns : ℕ) → gs ≡ [] → field_values calls fs w turns ≡ fields_from fs 0 gs turns
  fields_start fs gs turns e = sym (followed_done (field_values calls fs w turns)) ∙ ap (λ gs. fields_from fs 0 gs turns) (sym e)

  module _ (fs : List (ℕ × Code Slot)) (i : ℕ) (gs : List (ℕ × Value)) (turns : ℕ) where
    pub fields_past : length fs ≤ i → fields_from fs i gs turns ≡ Done gs turns
    fields_past = past field_value (λ fs turns. field_values calls fs w turns) fields_row (λ zs ys. zs ++ ys) (λ zs y. zs ++ y ∷ []) appends fs i gs turns

    module _ (f : ℕ × Code Slot) (h : i < length fs) (e : f ≡ get_or fs i f) where
      pub fields_on : (v : Value) (left : ℕ) (new : List (ℕ × Value)) → code_value calls f.1 w turns ≡ Done v left → new ≡ gs ++ (f.0, v) ∷ []
          → fields_from fs i gs turns ≡ fields_from fs (i + 1) new left
      fields_on v left new s n =
          on field_value (λ fs turns. field_values calls fs w turns) fields_row (λ zs ys. zs ++ ys) (λ zs y. zs ++ y ∷ []) appends fs i gs turns f h e (f.0, v) left new
          (ap (λ o. followed o (λ v turns. Done (f.0, v) turns)) s) n

      pub fields_stop : (s : Stop) → StopsAs (code_value calls f.1 w turns) s → StopsAs (fields_from fs i gs turns) s
      fields_stop s d =
          stop field_value (λ fs turns. field_values calls fs w turns) fields_row (λ zs ys. zs ++ ys) (λ zs y. zs ++ y ∷ []) appends fs i gs turns f h e s
          (followed_stops (code_value calls f.1 w turns) (λ v turns. Done (f.0, v) turns) s d)

  -- pairs, which are put into a map
  abbrev pub pair_value : Code Slot × Code Slot → ℕ → Outcome (Value × Value)
  pair_value p turns = followed (code_value calls p.0 w turns) (λ k turns. followed (code_value calls p.1 w turns) (λ v turns. Done (k, v) turns))

  pairs_row : IsRow pair_value (λ ps turns. pair_values calls ps w turns)
  pairs_row = record { none = λ turns. refl; more = λ p ps turns. sym (unrolled p ps turns) }
    where
      unrolled : (p : Code Slot × Code Slot) (ps : List (Code Slot × Code Slot)) (turns : ℕ)
          → followed (pair_value p turns) (λ q turns. followed (pair_values calls ps w turns) (λ qs turns. Done (q ∷ qs) turns)) ≡ pair_values calls (p ∷ ps) w turns
      unrolled p ps turns =
          followed_followed (code_value calls p.0 w turns) (λ k turns. followed (code_value calls p.1 w turns) (λ v turns. Done (k, v) turns)) (λ q turns. followed (pair_values calls ps w turns) (λ qs turns. Done (q ∷ qs) turns))
          ∙ (λ j. followed (code_value calls p.0 w turns) (λ k turns. followed_followed (code_value calls p.1 w turns) (λ v turns. Done (k, v) turns) (λ q turns. followed (pair_values calls ps w turns) (λ qs turns. Done (q ∷ qs) turns)) j))

  abbrev pub pairs_from : List (Code Slot × Code Slot) → ℕ → List (Value × Value) → ℕ → Outcome (List (Value × Value))
  pairs_from ps i m turns = followed (pair_values calls (drop i ps) w turns) (λ qs turns. Done (put_all m qs) turns)

  pub pairs_start : (ps : List (Code Slot × Code Slot)) (m : List (Value × Value)) (turns : ℕ) → m ≡ []
      → followed (pair_values calls ps w turns) (λ qs turns. Done (map_of qs) turns) ≡ pairs_from ps 0 m turns
  pairs_start ps m turns e = ap (λ m. pairs_from ps 0 m turns) (sym e)

  module _ (ps : List (Code Slot × Code Slot)) (i : ℕ) (m : List (Value × Value)) (turns : ℕ) where
    pub pairs_past : length ps ≤ i → pairs_from ps i m turns ≡ Done m turns
    pairs_past = past pair_value (λ ps turns. pair_values calls ps w turns) pairs_row put_all put_pair puts_pairs ps i m turns

    module _ (p : Code Slot × Code Slot) (h : i < length ps) (e : p ≡ get_or ps i p) where
      pub pairs_on : (k v : Value) (after left : ℕ) (new : List (Value × Value)) → code_value calls p.0 w turns ≡ Done k after → code_value calls p.1 w after ≡ Done v left
          → new ≡ pairs_put m k v → pairs_from ps i m turns ≡ pairs_from ps (i + 1) new left
      pairs_on k v after left new s d n =
          on pair_value (λ ps turns. pair_values calls ps w turns) pairs_row put_all put_pair puts_pairs ps i m turns p h e (k, v) left new
          (ap (λ o. followed o (λ k turns. followed (code_value calls p.1 w turns) (λ v turns. Done (k, v) turns))) s ∙ ap (λ o. followed o (λ v turns. Done (k, v) turns)) d) n

      pub pairs_stop_at_key : (s : Stop) → StopsAs (code_value calls p.0 w turns) s → StopsAs (pairs_from ps i m turns) s
      pairs_stop_at_key s d =
          stop pair_value (λ ps turns. pair_values calls ps w turns) pairs_row put_all put_pair puts_pairs ps i m turns p h e s
          (followed_stops (code_value calls p.0 w turns) (λ k turns. followed (code_value calls p.1 w turns) (λ v turns. Done (k, v) turns)) s d)

      pub pairs_stop_at_value : (k : Value) (after : ℕ) (s : Stop) → code_value calls p.0 w turns ≡ Done k after → StopsAs (code_value calls p.1 w after) s
          → StopsAs (pairs_from ps i m turns) s
      pairs_stop_at_value k after s f d =
          stop pair_value (λ ps turns. pair_values calls ps w turns) pairs_row put_all put_pair puts_pairs ps i m turns p h e s
          (stops_by (pair_value p turns) (followed (code_value calls p.1 w after) (λ v turns. Done (k, v) turns)) s
          (ap (λ o. followed o (λ k turns. followed (code_value calls p.1 w turns) (λ v turns. Done (k, v) turns))) f)
          (followed_stops (code_value calls p.1 w after) (λ v turns. Done (k, v) turns) s d))

  -- what is taken in turn
  abbrev pub takings_from : List (Selector (Code Slot)) → ℕ → Value → ℕ → Outcome Value
  takings_from ts i v turns = takings_value calls (drop i ts) v w turns

  module _ (ts : List (Selector (Code Slot))) (i : ℕ) (v : Value) (turns : ℕ) where
    pub takings_past : length ts ≤ i → takings_from ts i v turns ≡ Done v turns
    takings_past h = ap (λ ts. takings_value calls ts v w turns) (drop_all i ts h)

    module _ (t : Selector (Code Slot)) (h : i < length ts) (e : t ≡ get_or ts i t) where
      takings_rest : takings_from ts i v turns ≡ followed (taken (taking_meaning calls t) v w turns) (λ u turns. takings_from ts (i + 1) u turns)
      takings_rest = ap (λ ts. takings_value calls ts v w turns) (drop_at ts i t h e)

      pub takings_on : (u : Value) (left : ℕ) → taken (taking_meaning calls t) v w turns ≡ Done u left → takings_from ts i v turns ≡ takings_from ts (i + 1) u left
      takings_on u left s = takings_rest ∙ ap (λ o. followed o (λ u turns. takings_from ts (i + 1) u turns)) s

      pub takings_stop : (s : Stop) → StopsAs (taken (taking_meaning calls t) v w turns) s → StopsAs (takings_from ts i v turns) s
      takings_stop s d = stops_by (takings_from ts i v turns) _ s takings_rest (followed_stops (taken (taking_meaning calls t) v w turns) (λ u turns. takings_from ts (i + 1) u turns) s d)
