use Rattle.checked_literals.proofs.Programs.{join_is_checked, join_is_flat}
use Rattle.checked_literals.proofs.laws.join_is_checked.Goals as goal

pub returns-clause-flat : goal.returns-clause-flat
returns-clause-flat c = join_is_flat

pub returns-clause-checked : goal.returns-clause-checked
returns-clause-checked c = join_is_checked
