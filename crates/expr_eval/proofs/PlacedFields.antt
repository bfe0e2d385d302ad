-- How far the loop over the fields of a tuple has come: the values so far are at their places.
use Rattle.std.specs.Prelude.{◌≡◌, ℕ, ◌+◌, ◌≤◌, ◌<◌, List, [], ◌∷◌, ◌++◌, length, Some, slice_set}
use Rattle.std.proofs.Common.{refl, sym, ap, ◌∙◌, get_or}
use Rattle.spl_value.specs.declared.value.Value.{Value}
use Rattle.spl_tree.specs.declared.code.Code.{Code}
use Rattle.spl_tree.specs.declared.code.Slot.{Slot}
use Rattle.language_model.specs.Outcomes.{Done, followed, need}
use Rattle.language_model.specs.Evaluation.{World, Calls, code_value, tuple_of}
use Rattle.language_model.specs.EvaluationLaws.{field_values}
use Rattle.value_operations.specs.Answers.{StopsAs}
use Rattle.value_operations.specs.declared.stop.Stop.{Stop}
use Rattle.value_operations.proofs.Following.{followed_stops, stops_by}
use Rattle.expr_eval.proofs.Placing.{HaveEachPlace, placed, placed_more, tuple_placed}
use Rattle.expr_eval.proofs.Rows.{fields_from, fields_on, fields_past, fields_start, fields_stop}

module _ (calls : Calls) (w : World Slot) (fs : List (ℕ × Code Slot)) (blanks : List Value) (turns : ℕ) where
  -- the fields from a place on are still to be evaluated, and the values of the others have been put into the blanks
  abbrev pub IsPlaced : ℕ → List Value → ℕ → Type 0
  IsPlaced i vs left = (gs : List (ℕ × Value)) × (field_values calls fs w turns ≡ fields_from calls w fs i gs left) × (vs ≡ placed gs blanks)

  pub placed_start : IsPlaced 0 blanks turns
  placed_start = ([], fields_start calls w fs [] turns refl, refl)

  module _ (i : ℕ) (vs : List Value) (left : ℕ) (so_far : IsPlaced i vs left) where
    module _ (f : ℕ × Code Slot) (h : i < length fs) (e : f ≡ get_or fs i f) where
      pub placed_on : (v : Value) (after : ℕ) (new : List Value) → code_value calls f.1 w left ≡ Done v after → new ≡ slice_set vs f.0 v → IsPlaced (i + 1) new after
      placed_on v after new d n = (
        so_far.0 ++ (f.0, v) ∷ [],
        so_far.1 ∙ fields_on calls w fs i so_far.0 left f h e v after (so_far.0 ++ (f.0, v) ∷ []) d refl,
        n ∙ ap (λ us. slice_set us f.0 v) so_far.2 ∙ sym (placed_more so_far.0 (f.0, v) blanks),
      )

      pub placed_stops : (s : Stop) → StopsAs (code_value calls f.1 w left) s
          → StopsAs (followed (field_values calls fs w turns) (λ gs left. need (tuple_of gs) (λ vs. Done vs left))) s
      placed_stops s d =
          followed_stops (field_values calls fs w turns) (λ gs left. need (tuple_of gs) (λ vs. Done vs left)) s
          (stops_by _ _ s so_far.1 (fields_stop calls w fs i so_far.0 left f h e s d))

    pub placed_done : length fs ≤ i → length blanks ≡ length fs
        → ((gs : List (ℕ × Value)) (left : ℕ) → field_values calls fs w turns ≡ Done gs left → length gs ≡ length fs)
        → ((gs : List (ℕ × Value)) (left : ℕ) → field_values calls fs w turns ≡ Done gs left → HaveEachPlace gs)
        → followed (field_values calls fs w turns) (λ gs left. need (tuple_of gs) (λ vs. Done vs left)) ≡ Done vs left
    placed_done past long as_long each =
        let all : field_values calls fs w turns ≡ Done so_far.0 left = so_far.1 ∙ fields_past calls w fs i so_far.0 left past in
        ap (λ o. followed o (λ gs left. need (tuple_of gs) (λ vs. Done vs left))) all
        ∙ ap (λ o. need o (λ vs. Done vs left))
        (tuple_placed so_far.0 blanks (each so_far.0 left all) (long ∙ sym (as_long so_far.0 left all)) ∙ ap Some (sym so_far.2))
