use Rattle.std.proofs.Common.{◌∷◌, ◌++◌, [], filter, sym, ap, subst, ◌∙◌}
use Rattle.tuple_groups.specs.Extremes.{before}
use Rattle.running_folds.specs.Moving.{NoneBehind}
use Rattle.running_folds.proofs.Queues.{keeps, near_order, near_push}
use Rattle.running_folds.proofs.queue.pass.Goals as goal

pub returns : goal.returns
returns c vs e =
    let R = before c.args.greatest in
    let left = c.make_way.ensures (subst (NoneBehind R) (sym e) (near_order R vs)) ∙ ap (filter (keeps R c.args.value.now)) e in
    c.in_ok-push_back.ensures.items
    ∙ (λ i. left i ++ c.in_ok-copy_value.ensures i ∷ [])
    ∙ sym (near_push R vs c.args.value.now)
