use Rattle.std.proofs.Common.{◌∷◌, ◌++◌, [], Some, length, slice_get, rules, sym, ap, ◌∙◌, refl}
use Rattle.std.specs.Int.{w128}
use Rattle.std.specs.Option.{option_map}
use Rattle.std.specs.Prelude.{FitsSigned}
use Rattle.std.proofs.lemmas.Int.{to_z-of_z}
use Rattle.language_model.specs.declared.checked.WindowRule.TheVariants as W
use Rattle.stream_model.specs.Windows.{contents_of, fires_after, held, integer_at}
use Rattle.window_policy.specs.Running.{last_of}
use Rattle.window_policy.proofs.Summing.{answered, far, is_far, last_with, near, not_answered, same_tallies, start_is, start_noted, tallied_answers}
use Rattle.window_policy.proofs.sums.Sums.tumble.Goals as goal

pub returns-in_ok-summed : goal.returns-in_ok-summed
returns-in_ok-summed c folds ts allowed same has holds =
    let limit : FitsSigned w128 c.args.limit = search rules in
    let new : FitsSigned w128 c.integer_at-new.result = search rules in
    let a = c.args.attr in
    let rule = W.TumblingDelta a c.args.limit in
    let u = c.args.tuple ++ c.args.args in
    let us = held rule ts in
    let m = length folds in
    let answer = simp to_z-of_z at c.is_exceeded.ensures in
    let e = sym (is_far a c.args.limit c.args.tuple c.args.args has us c.args.self.now.start c.integer_at-new.result holds.2 c.integer_at-new.ensures)
    ∙ sym answer ∙ c.if-is_exceeded.true in
    let step = far a c.args.limit c.args.tuple c.args.args has ts e in
    let empty = c.in_ok-summed.ensures.tallies folds us holds.0 in
    let kept = c.keep.ensures.tallies folds [] (same_tallies folds c.flush.new.self _ [] [] refl refl empty) same in (
      (
        same_tallies folds c.keep.new.self c.keep.new.self (u ∷ []) (held rule (u ∷ ts)) refl (sym step.0) kept,
        c.keep.ensures.last ∙ sym (last_with m c.args.tuple c.args.args same []) ∙ ap (last_of m) (sym step.0),
        c.keep.ensures.start ∙ ap Some (to_z-of_z w128 c.integer_at-new.result new ∙ c.integer_at-new.ensures ∙ sym (start_is a c.args.limit c.args.tuple c.args.args has))
            ∙ ap (λ xs. option_map (integer_at a) (slice_get xs 0)) (sym step.0),
      ),
      answered folds us c.in_ok-summed.summed (fires_after rule u ts) (ap contents_of step.1)
          (c.in_ok-summed.ensures.answers ∙ tallied_answers folds c.args.self.now us holds.0) (c.in_ok-summed.ensures.last ∙ holds.1),
    )

pub returns-else-is_exceeded : goal.returns-else-is_exceeded
returns-else-is_exceeded c folds ts allowed same has holds =
    let limit : FitsSigned w128 c.args.limit = search rules in
    let new : FitsSigned w128 c.integer_at-new.result = search rules in
    let a = c.args.attr in
    let rule = W.TumblingDelta a c.args.limit in
    let u = c.args.tuple ++ c.args.args in
    let us = held rule ts in
    let m = length folds in
    let answer = simp to_z-of_z at c.is_exceeded.ensures in
    let e = sym (is_far a c.args.limit c.args.tuple c.args.args has us c.args.self.now.start c.integer_at-new.result holds.2 c.integer_at-new.ensures)
    ∙ sym answer ∙ c.if-is_exceeded.false in
    let step = near a c.args.limit c.args.tuple c.args.args has ts e in
    let noted = simp to_z-of_z at c.note_start.ensures.start in
    let kept = c.keep-else-is_exceeded.ensures.tallies folds us
    (same_tallies folds c.args.self.now c.note_start.new.self us us (ap (λ tallies. tallies.items) c.note_start.ensures.tallies) refl holds.0) same in (
      (
        same_tallies folds c.keep-else-is_exceeded.new.self c.keep-else-is_exceeded.new.self (us ++ u ∷ []) (held rule (u ∷ ts)) refl (sym step.0) kept,
        c.keep-else-is_exceeded.ensures.last ∙ sym (last_with m c.args.tuple c.args.args same us) ∙ ap (last_of m) (sym step.0),
        c.keep-else-is_exceeded.ensures.start ∙ noted
            ∙ start_noted a c.args.limit c.args.tuple c.args.args has us c.args.self.now.start c.integer_at-new.result holds.2 c.integer_at-new.ensures
            ∙ ap (λ xs. option_map (integer_at a) (slice_get xs 0)) (sym step.0),
      ),
      not_answered folds (fires_after rule u ts) step.1,
    )
