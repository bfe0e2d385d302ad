use Rattle.checked_literals.proofs.Programs.{custom_is_checked, custom_is_flat}
use Rattle.checked_literals.proofs.laws.custom_is_checked.Goals as goal

pub returns-clause-flat : goal.returns-clause-flat
returns-clause-flat c = custom_is_flat

pub returns-clause-checked : goal.returns-clause-checked
returns-clause-checked c = custom_is_checked
