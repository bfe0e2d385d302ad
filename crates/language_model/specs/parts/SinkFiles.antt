-- Words for parts of the rules of files, each of which says what one function gives.
use Rattle.std.specs.Prelude.{ℕ, List, Option}
use Rattle.std.specs.Option.{option_and_then}
use Rattle.spl_tree.specs.declared.expression.ExprKind.TheViews.{out-ExprKind}
use Rattle.spl_tree.specs.declared.graph.Expansion.{Expansion}
use Rattle.spl_tree.specs.declared.unit.Definition.{Definition}
use Rattle.spl_tree.specs.Trees.{Expr}
use Rattle.language_model.specs.DollarTargets.{expression_meant}
use Rattle.language_model.specs.SinkFiles.{level_text}

-- the text that an expression is
abbrev pub literal_text : Expr → Option (List ℕ)
literal_text e = level_text (out-ExprKind e.what)

-- the text that it means in the body of the expansion at a number
abbrev pub text_in : List Definition → List Expansion → ℕ → Expr → Option (List ℕ)
text_in unit expansions number e = option_and_then literal_text (expression_meant unit expansions number e)
