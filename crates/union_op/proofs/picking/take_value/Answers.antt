use Rattle.std.proofs.Common.{sym, ◌∙◌}
use Rattle.union_op.proofs.ValuesAt.{others_stay}
use Rattle.union_op.proofs.picking.take_value.Goals as goal

pub returns-clause-behind : goal.returns-clause-behind
returns-clause-behind c =
    others_stay c.args.values.now c.args.place c.replace.new.dest c.args.behind.now (sym c.contains.ensures.value ∙ c.if-contains.false)
