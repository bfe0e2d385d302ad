use Rattle.std.proofs.Common.{◌≤◌, ◌∷◌, ◌++◌, suc, length, map, slice_get, sym, ap, subst, ◌∙◌, refl, arith}
use Rattle.circular_buffer.specs.Buffer.{last_item}
use Rattle.language_model.specs.declared.checked.WindowRule.TheVariants as W
use Rattle.running_folds.specs.Folds.{answers}
use Rattle.running_folds.specs.Moving.{AreMoving, fold_of}
use Rattle.stream_model.specs.Windows.{contents_of, fires_after, held}
use Rattle.window_policy.specs.Parts.{CountsTo}
use Rattle.window_policy.specs.Running.{rows_of}
use Rattle.window_policy.specs.Sums.{HoldsMoving}
use Rattle.window_policy.proofs.Parts.{shift_length, shift_step}
use Rattle.window_policy.proofs.Summing.{answered, keeps_some, not_answered, not_triggered, same_moving, slid_last, triggered}
use Rattle.window_policy.proofs.sums.Sums.slide.Goals as goal

pub returns-in_ok-answers : goal.returns-in_ok-answers
returns-in_ok-answers c folds ts allowed same has holds =
    let keep = c.args.keep in
    let every = c.args.every in
    let u = c.args.tuple ++ c.args.args in
    let us = held (W.SlidingCount keep every) ts in
    let now = held (W.SlidingCount keep every) (u ∷ ts) in
    let rows = rows_of (length folds) now in
    let long = shift_length u ts keep every in
    let few : length us ≤ keep = omega (arith, long) in
    let slid = subst (HoldsMoving folds c.shift.new.self) (sym (shift_step u ts keep every)) (c.in_ok-shift.ensures.moving folds us c.args.tuple holds.0 few same) in
    let turn = c.is_turn.ensures (length ts) (subst (λ n. CountsTo every n (length ts)) (sym c.in_ok-shift.ensures.since) holds.1) in
    let turned = sym turn.1 ∙ c.if-is_turn.true in (
      (same_moving folds c.shift.new.self _ now now refl refl refl slid, turn.0),
      answered folds now _ (fires_after (W.SlidingCount keep every) u ts) (ap contents_of (triggered every (suc (length ts)) now turned))
          (c.in_ok-answers.ensures rows (subst (λ ms. AreMoving ms rows) (sym c.deref.ensures.value) slid.moving) (c.front.ensures ∙ ap (λ xs. slice_get xs 0) slid.rows) (c.back.ensures ∙ ap last_item slid.rows) (c.len.ensures.len ∙ ap length slid.rows)
          ∙ ap (λ ms. answers (map fold_of ms) rows) c.deref.ensures.value ∙ ap (λ fs. answers fs rows) slid.folds_are)
          (sym (slid_last keep every (length folds) c.args.tuple c.args.args ts same (keeps_some every keep (suc (length ts)) allowed turned))),
    )

pub returns-else-is_turn : goal.returns-else-is_turn
returns-else-is_turn c folds ts allowed same has holds =
    let keep = c.args.keep in
    let every = c.args.every in
    let u = c.args.tuple ++ c.args.args in
    let us = held (W.SlidingCount keep every) ts in
    let now = held (W.SlidingCount keep every) (u ∷ ts) in
    let long = shift_length u ts keep every in
    let few : length us ≤ keep = omega (arith, long) in
    let slid = subst (HoldsMoving folds c.shift.new.self) (sym (shift_step u ts keep every)) (c.in_ok-shift.ensures.moving folds us c.args.tuple holds.0 few same) in
    let turn = c.is_turn.ensures (length ts) (subst (λ n. CountsTo every n (length ts)) (sym c.in_ok-shift.ensures.since) holds.1) in
    let turned = sym turn.1 ∙ c.if-is_turn.false in (
      (same_moving folds c.shift.new.self _ now now refl refl refl slid, turn.0),
      not_answered folds (fires_after (W.SlidingCount keep every) u ts) (not_triggered every (suc (length ts)) now turned),
    )
