use Rattle.std.proofs.Common.{[], subst}
use Rattle.value_operations.specs.Changing.{CanChange}
use Rattle.value_operations.proofs.changes.make.Goals as goal

pub append-requires : goal.append-requires
append-requires c = subst (λ change. CanChange [] change c.args.value.now) c.in-Append.is c.requires

pub remove-requires : goal.remove-requires
remove-requires c = subst (λ change. CanChange [] change c.args.value.now) c.in-Remove.is c.requires
