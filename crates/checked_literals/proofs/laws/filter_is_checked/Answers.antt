use Rattle.spl_tree.specs.Tokens.{front, tokens}
use Rattle.grammar_laws.proofs.UnitToLines.{unit_to_lines}
use Rattle.checked_literals.proofs.FilterSpelled.{spells_filtered}
use Rattle.checked_literals.proofs.Programs.{filter_is_checked, filter_is_flat}
use Rattle.checked_literals.proofs.laws.filter_is_checked.Goals as goal

pub returns-clause-flat : goal.returns-clause-flat
returns-clause-flat c = filter_is_flat

pub returns-clause-checked : goal.returns-clause-checked
returns-clause-checked c = filter_is_checked

pub returns-clause-spells : goal.returns-clause-spells
unfolding tokens front
returns-clause-spells c = unit_to_lines _ _ spells_filtered
