-- Reading an expression takes the longest front of the tokens that starts one, and a phrase has one tree.
use Rattle.std.proofs.Common.{◌≡◌, List}
use Rattle.spl_tree.specs.declared.token.Token.{Token}
use Rattle.spl_tree.specs.Trees.{Expr}
use Rattle.spl_tree.specs.spellings.Grammar.{Spells}
use Rattle.spl_tree.specs.Fronts.{IsPhrase, IsUnexpected}
use Rattle.spl_tree.proofs.AlikePhrases.{phrase_alike, unexpected_alike}
use Rattle.grammar_laws.proofs.ToLines.{expression_to_lines}
use Rattle.grammar_laws.proofs.FromLines.{expression_from_lines}
use Rattle.expr_parser.specs.Parses.{SpellsExpr}
use Rattle.expr_parser.specs.Rules.{Took, Refused, Reads}
use Rattle.expr_parser.proofs.Exactness.{one, exact_phrase, exact_unexpected}
use Rattle.expr_parser.specs.Lines.{Whole, rule}
use Rattle.expr_parser.proofs.Complete.{complete}
use Rattle.expr_parser.proofs.Sound.{sound}

-- an expression that is taken is what the longest front spells that starts one
pub exact_took : {e : Expr} {ts rest : List Token} → Reads rule Whole ts (Took e rest) → IsPhrase Spells ts e rest
exact_took {e} {ts} {rest} r = exact_phrase rule Whole Spells (λ n us. sound n Whole us) (λ v a d. complete d) ts e rest r

-- where reading refuses, that front spells none
pub exact_refused : {ts rest : List Token} → Reads rule Whole ts (Refused rest) → IsUnexpected Spells ts rest
exact_refused {ts} {rest} r = exact_unexpected rule Whole Spells (λ n us. sound n Whole us) (λ v a d. complete d) ts rest r

-- the same by the lines of the grammar
pub took_expression : {e : Expr} {ts rest : List Token} → Reads rule Whole ts (Took e rest) → IsPhrase SpellsExpr ts e rest
took_expression {e} {ts} {rest} r = phrase_alike Spells SpellsExpr expression_to_lines expression_from_lines ts e rest (exact_took r)

pub refused_expression : {ts rest : List Token} → Reads rule Whole ts (Refused rest) → IsUnexpected SpellsExpr ts rest
refused_expression {ts} {rest} r = unexpected_alike Spells SpellsExpr expression_to_lines expression_from_lines ts rest (exact_refused r)

-- tokens spell one tree at most
pub one_tree : {e f : Expr} {a : List Token} → SpellsExpr e a → SpellsExpr f a → e ≡ f
one_tree {e} {f} {a} d g = one rule Whole Spells (λ n us. sound n Whole us) (λ v b d. complete d) e f a (expression_from_lines e a d) (expression_from_lines f a g)
