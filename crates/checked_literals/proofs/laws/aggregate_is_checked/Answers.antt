use Rattle.checked_literals.proofs.Programs.{aggregate_is_checked, aggregate_is_flat}
use Rattle.checked_literals.proofs.laws.aggregate_is_checked.Goals as goal

pub returns-clause-flat : goal.returns-clause-flat
returns-clause-flat c = aggregate_is_flat

pub returns-clause-checked : goal.returns-clause-checked
returns-clause-checked c = aggregate_is_checked
