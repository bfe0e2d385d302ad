-- Reading a unit takes the longest front of the tokens that starts a program, and tokens spell one program at most.
use Rattle.std.proofs.Common.{◌≡◌, List}
use Rattle.spl_tree.specs.declared.token.Token.{Token}
use Rattle.spl_tree.specs.declared.unit.Definition.{Definition}
use Rattle.spl_tree.specs.spellings.UnitGrammar.{SpellsUnit}
use Rattle.spl_tree.specs.Units.{SpellsProgram}
use Rattle.spl_tree.specs.Fronts.{IsPhrase, IsUnexpected}
use Rattle.spl_tree.proofs.AlikePhrases.{phrase_alike, unexpected_alike}
use Rattle.grammar_laws.proofs.UnitToLines.{unit_to_lines}
use Rattle.grammar_laws.proofs.FromLines.{unit_from_lines}
use Rattle.expr_parser.specs.Rules.{Took, Refused, Reads}
use Rattle.expr_parser.proofs.Exactness.{one, exact_phrase, exact_unexpected}
use Rattle.statement_parser.specs.Lines.{Whole, rule}
use Rattle.unit_parser.proofs.Complete.{complete}
use Rattle.unit_parser.proofs.Sound.{sound}

-- a program that is taken is what the longest front spells that starts one
pub exact_took : {x : List Definition} {ts rest : List Token} → Reads rule Whole ts (Took x rest) → IsPhrase SpellsProgram ts x rest
exact_took {x} {ts} {rest} r = phrase_alike SpellsUnit SpellsProgram unit_to_lines unit_from_lines ts x rest (exact_phrase rule Whole SpellsUnit sound complete ts x rest r)

-- where reading refuses, that front spells none
pub exact_refused : {ts rest : List Token} → Reads rule Whole ts (Refused rest) → IsUnexpected SpellsProgram ts rest
exact_refused {ts} {rest} r = unexpected_alike SpellsUnit SpellsProgram unit_to_lines unit_from_lines ts rest (exact_unexpected rule Whole SpellsUnit sound complete ts rest r)

-- tokens spell one program at most
pub one_unit : (x y : List Definition) (a : List Token) → SpellsProgram x a → SpellsProgram y a → x ≡ y
one_unit x y a d g = one rule Whole SpellsUnit sound complete x y a (unit_from_lines x a d) (unit_from_lines y a g)
