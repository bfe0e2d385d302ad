use Rattle.checked_literals.proofs.Programs.{ports_are_checked, ports_are_flat}
use Rattle.checked_literals.proofs.laws.ports_are_checked.Goals as goal

pub returns-clause-flat : goal.returns-clause-flat
returns-clause-flat c = ports_are_flat

pub returns-clause-checked : goal.returns-clause-checked
returns-clause-checked c = ports_are_checked
