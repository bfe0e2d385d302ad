use Rattle.std.proofs.Common.{sym, ap, ◌∙◌}
use Rattle.value_operations.specs.Answers.{held}
use Rattle.value_operations.proofs.Parts.{not_index, not_list, element_below}
use Rattle.value_operations.proofs.taking.element.Goals as goal

pub unreachable-requires : goal.unreachable-requires
unreachable-requires c = not_index (held c.args.list) c.args.index.now c.requires c.in_default.not-Int

pub returns-in_default-try_from : goal.returns-in_default-try_from
returns-in_default-try_from c =
    element_below (held c.args.list) c.args.index.now c.in-Int.index c.requires c.in-Int.is c.in_default-try_from.ensures

pub unreachable-requires-in_default-into_list : goal.unreachable-requires-in_default-into_list
unreachable-requires-in_default-into_list c =
    not_list (held c.args.list) c.args.index.now c.requires (λ vs e. c.in_default-into_list.ensures vs (sym (ap held c.in-Own.is) ∙ e))

pub unreachable-requires-in_default-value : goal.unreachable-requires-in_default-value
unreachable-requires-in_default-value c =
    not_list (held c.args.list) c.args.index.now c.requires (λ vs e. c.in_default-value.not-List vs (sym (ap held c.in-Lent.is) ∙ e))
