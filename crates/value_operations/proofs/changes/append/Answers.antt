use Rattle.std.proofs.Common.{refl}
use Rattle.spl_tree.specs.declared.body.Change.TheVariants as H
use Rattle.value_operations.proofs.PlaceSteps.{appended_is_list}
use Rattle.value_operations.proofs.changes.append.Goals as goal

pub unreachable-requires : goal.unreachable-requires
unreachable-requires c = appended_is_list (H.Append c.args.new) c.args.list.now c.requires c.args.new refl c.in_default.not-List
