use Rattle.std.proofs.Common.{Some, cond, sym, ap, ◌∙◌}
use Rattle.tuple_groups.specs.Extremes.{before}
use Rattle.running_folds.proofs.Orders.{before_strict, better, least_push}
use Rattle.running_folds.proofs.tally.better.Goals as goal

pub returns-then-is_before : goal.returns-then-is_before
returns-then-is_before c vs e =
    let R = before c.args.greatest in
    ap Some (ap (λ b. cond b c.args.value c.in-Some.best) (sym c.if-is_before.true ∙ c.is_before.ensures))
    ∙ ap (λ o. Some (better R (before_strict c.args.greatest) o c.args.value)) (sym c.in-Some.is ∙ e)
    ∙ sym (least_push R (before_strict c.args.greatest) vs c.args.value)

pub returns-else-is_before : goal.returns-else-is_before
returns-else-is_before c vs e =
    let R = before c.args.greatest in
    ap Some (ap (λ b. cond b c.args.value c.in-Some.best) (sym c.if-is_before.false ∙ c.is_before.ensures))
    ∙ ap (λ o. Some (better R (before_strict c.args.greatest) o c.args.value)) (sym c.in-Some.is ∙ e)
    ∙ sym (least_push R (before_strict c.args.greatest) vs c.args.value)

pub returns-in-None : goal.returns-in-None
returns-in-None c vs e =
    let R = before c.args.greatest in
    ap (λ o. Some (better R (before_strict c.args.greatest) o c.args.value)) (sym c.in-None.is ∙ e)
    ∙ sym (least_push R (before_strict c.args.greatest) vs c.args.value)
