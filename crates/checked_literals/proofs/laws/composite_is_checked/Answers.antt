use Rattle.checked_literals.proofs.Programs.{composite_is_checked, composite_is_flat}
use Rattle.checked_literals.proofs.laws.composite_is_checked.Goals as goal

pub returns-clause-flat : goal.returns-clause-flat
returns-clause-flat c = composite_is_flat

pub returns-clause-checked : goal.returns-clause-checked
returns-clause-checked c = composite_is_checked
