use Rattle.std.proofs.Common.{slice_get, ap, ◌∙◌}
use Rattle.spl_value.proofs.Lists.{copied_at}
use Rattle.tuple_groups.specs.Extremes.{before}
use Rattle.running_folds.proofs.Orders.{before_strict, near_front}
use Rattle.running_folds.proofs.queue.best.Goals as goal

pub returns : goal.returns
returns c vs e =
    copied_at c.args.queue.now.items 0 _ c.front.ensures.item
    ∙ ap (λ us. slice_get us 0) e ∙ near_front (before c.args.greatest) (before_strict c.args.greatest) vs
