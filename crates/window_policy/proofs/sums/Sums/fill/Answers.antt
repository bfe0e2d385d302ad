use Rattle.std.proofs.Common.{◌∷◌, ◌++◌, [], Some, length, sym, ap, subst, ◌∙◌, refl}
use Rattle.language_model.specs.declared.checked.WindowRule.TheVariants as W
use Rattle.stream_model.specs.Windows.{contents_of, fires_after, held}
use Rattle.window_policy.specs.Parts.{CountsTo}
use Rattle.window_policy.proofs.Summing.{answered, filled, filling, last_with, not_answered, same_tallies, tallied_answers}
use Rattle.window_policy.proofs.sums.Sums.fill.Goals as goal

pub returns-in_ok-summed : goal.returns-in_ok-summed
returns-in_ok-summed c folds ts allowed same has holds =
    let u = c.args.tuple ++ c.args.args in
    let before = held (W.TumblingCount c.args.count) ts in
    let us = before ++ u ∷ [] in
    let kept = c.keep.ensures.tallies folds before holds.0 same in
    let turn = c.is_turn.ensures (length ts) (subst (λ n. CountsTo (Some c.args.count) n (length ts)) (sym c.keep.ensures.since) holds.1) in
    let step = filled c.args.count allowed u ts (sym turn.1 ∙ c.if-is_turn.true) in (
      (
        same_tallies folds c.flush.new.self c.flush.new.self [] (held (W.TumblingCount c.args.count) (u ∷ ts)) refl (sym step.0)
            (c.in_ok-summed.ensures.tallies folds us (same_tallies folds c.keep.new.self _ us us refl refl kept)),
        (turn.0.0, c.in_ok-summed.ensures.since ∙ turn.0.1),
      ),
      answered folds us c.in_ok-summed.summed (fires_after (W.TumblingCount c.args.count) u ts) (ap contents_of step.1)
          (c.in_ok-summed.ensures.answers ∙ tallied_answers folds c.keep.new.self us kept)
          (c.in_ok-summed.ensures.last ∙ c.keep.ensures.last ∙ sym (last_with (length folds) c.args.tuple c.args.args same before)),
    )

pub returns-else-is_turn : goal.returns-else-is_turn
returns-else-is_turn c folds ts allowed same has holds =
    let u = c.args.tuple ++ c.args.args in
    let before = held (W.TumblingCount c.args.count) ts in
    let kept = c.keep.ensures.tallies folds before holds.0 same in
    let turn = c.is_turn.ensures (length ts) (subst (λ n. CountsTo (Some c.args.count) n (length ts)) (sym c.keep.ensures.since) holds.1) in
    let step = filling c.args.count allowed u ts (sym turn.1 ∙ c.if-is_turn.false) in (
      (same_tallies folds c.keep.new.self _ (before ++ u ∷ []) (held (W.TumblingCount c.args.count) (u ∷ ts)) refl (sym step.0) kept, turn.0),
      not_answered folds (fires_after (W.TumblingCount c.args.count) u ts) step.1,
    )
