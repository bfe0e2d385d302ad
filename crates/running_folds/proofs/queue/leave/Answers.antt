use Rattle.std.proofs.Common.{cond, drop, sym, ap, ◌∙◌}
use Rattle.spl_value.proofs.Lists.{copied_at}
use Rattle.tuple_groups.specs.Extremes.{before}
use Rattle.running_folds.proofs.Orders.{before_strict}
use Rattle.running_folds.proofs.Queues.{front_leaves}
use Rattle.running_folds.proofs.queue.leave.Goals as goal

pub returns-then-not-is_behind : goal.returns-then-not-is_behind
returns-then-not-is_behind c vs e =
    let q = c.args.queue.now.items in
    c.pop_front.ensures.rest
    ∙ ap (λ b. cond b q (drop 1 q)) (sym c.if-not-is_behind.true ∙ c.is_behind.ensures)
    ∙ front_leaves (before c.args.greatest) (before_strict c.args.greatest) c.args.value.now vs q _ e (sym (copied_at q 0 _ c.front.ensures.item))

pub returns-else-not-is_behind : goal.returns-else-not-is_behind
returns-else-not-is_behind c vs e =
    let q = c.args.queue.now.items in
    ap (λ b. cond b q (drop 1 q)) (sym c.if-not-is_behind.false ∙ c.is_behind.ensures)
    ∙ front_leaves (before c.args.greatest) (before_strict c.args.greatest) c.args.value.now vs q _ e (sym (copied_at q 0 _ c.front.ensures.item))
