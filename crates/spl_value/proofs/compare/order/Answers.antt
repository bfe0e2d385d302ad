use Rattle.std.proofs.Common.{◌∙◌}
use Rattle.spl_value.proofs.OrderLaws.{derived_cmp}
use Rattle.spl_value.proofs.compare.order.Goals as goal

pub returns-in_default : goal.returns-in_default
returns-in_default c = c.cmp.ensures ∙ derived_cmp c.args.a.now c.args.b.now
