use Rattle.spl_tree.specs.Tokens.{front, tokens}
use Rattle.spl_tree.proofs.UnitSpellings.{spells_attributes, spells_nearest, spells_alias}
use Rattle.grammar_laws.proofs.UnitToLines.{unit_to_lines}
use Rattle.grammar_laws.proofs.laws.units_on_literals.Goals as goal

pub returns-clause-attributes : goal.returns-clause-attributes
unfolding tokens front
returns-clause-attributes c = unit_to_lines _ _ spells_attributes

pub returns-clause-nearest : goal.returns-clause-nearest
unfolding tokens front
returns-clause-nearest c = unit_to_lines _ _ spells_nearest

pub returns-clause-alias : goal.returns-clause-alias
unfolding tokens front
returns-clause-alias c = unit_to_lines _ _ spells_alias
