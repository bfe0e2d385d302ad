-- The relations by which reading is proved, one for each kind of phrase, spell what the lines of the grammar do.
use Rattle.std.specs.Prelude.{List, ◌↔◌}
use Rattle.spl_tree.specs.declared.token.Token.{Token}
use Rattle.spl_tree.specs.declared.unit.Definition.{Definition}
use Rattle.spl_tree.specs.spellings.Grammar as G
use Rattle.spl_tree.specs.Trees.{Expr}
use Rattle.spl_tree.specs.Grammar.{Spells, Expression, Program}
use Rattle.spl_tree.specs.spellings.UnitGrammar.{SpellsUnit}

abbrev pub ExpressionLaw : Type 0
ExpressionLaw = (e : Expr) (ts : List Token) → G.Spells e ts ↔ Spells (Expression e) ts

abbrev pub ProgramLaw : Type 0
ProgramLaw = (unit : List Definition) (ts : List Token) → SpellsUnit unit ts ↔ Spells (Program unit) ts
