use Rattle.std.proofs.Common.{◌-◌, ◌++◌, take, Some, refl, sym, ap, subst, ◌∙◌}
use Rattle.std.specs.Option.{option_to_list}
use Rattle.tuple_groups.specs.Extremes.{before}
use Rattle.running_folds.specs.Moving.{NoneBehind}
use Rattle.running_folds.proofs.Orders.{before_strict}
use Rattle.running_folds.proofs.Queues.{at_the_end, last_goes, last_stays, without_last}
use Rattle.running_folds.proofs.queue.make_way.Goals as goal

pub backs-preserved-else-not-is_before : goal.backs-preserved-else-not-is_before
backs-preserved-else-not-is_before c order =
    let R = before c.args.greatest in
    let inv = c.backs.invariant order in
    let w = c.in-Some.last.now in
    let is = c.pop_back.ensures.items
    ∙ ap (λ o. c.pop_back.new.self.items ++ option_to_list o) (c.pop_back.ensures.value w (c.in-Some.ensures.variant.0 refl) ∙ ap Some (sym c.in-Some.ensures.lookup)) in (
      (without_last R c.pop_back.new.self.items w (subst (NoneBehind R) is inv.0)).0,
      inv.1 ∙ last_goes R (before_strict c.args.greatest) c.args.value.now c.backs.queue.items c.pop_back.new.self.items w is (sym c.is_before.ensures ∙ c.if-not-is_before.false),
    )

pub returns-then-not-is_before : goal.returns-then-not-is_before
returns-then-not-is_before c order =
    let R = before c.args.greatest in
    let inv = c.backs.invariant order in
    let q = c.backs.queue in
    let w = c.in-Some.last.now in
    let some = c.in-Some.ensures.variant.0 refl in
    let is = at_the_end q.items q.len w (sym q.ok.0) some c.in-Some.ensures.lookup in
    last_stays R (before_strict c.args.greatest) c.args.value.now q.items (take (q.len - 1) q.items) w is inv.0 (sym c.is_before.ensures ∙ c.if-not-is_before.true)
    ∙ sym inv.1
