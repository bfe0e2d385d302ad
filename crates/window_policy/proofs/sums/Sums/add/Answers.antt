use Rattle.std.proofs.Common.{None, length, sym, subst, refl, ◌∙◌}
use Rattle.language_model.specs.declared.checked.WindowRule.TheVariants as W
use Rattle.stream_model.specs.Windows.{held}
use Rattle.window_policy.specs.steps.Sums.{Adds}
use Rattle.window_policy.proofs.Summing.{last_with}
use Rattle.window_policy.proofs.sums.Sums.add.Goals as goal

pub returns-in-TumblingPunct : goal.returns-in-TumblingPunct
returns-in-TumblingPunct c =
    subst (λ r. Adds r c.args.self.now c.keep.new.self c.args.tuple c.args.args None) (sym c.in-TumblingPunct.is)
    (λ folds ts allowed same has holds. (
      (
        c.keep.ensures.tallies folds (held W.TumblingPunct ts) holds.0 same,
        c.keep.ensures.last ∙ sym (last_with (length folds) c.args.tuple c.args.args same (held W.TumblingPunct ts)),
      ),
      refl,
    ))
