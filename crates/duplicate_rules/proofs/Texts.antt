-- The text of an expression in an expansion, by the expression that is found for it there.
use Rattle.std.specs.Prelude.{◌≡◌, ℕ, List, Option}
use Rattle.std.specs.Option.{option_and_then}
use Rattle.std.proofs.Common.{ap, ◌∙◌}
use Rattle.spl_tree.specs.declared.graph.Expansion.{Expansion}
use Rattle.spl_tree.specs.declared.unit.Definition.{Definition}
use Rattle.spl_tree.specs.Trees.{Expr}
use Rattle.language_model.specs.DollarTargets.{expression_meant}
use Rattle.language_model.specs.parts.SinkFiles.{literal_text, text_in}

pub text_is : (unit : List Definition) (expansions : List Expansion) (number : ℕ) (e : Expr) (follow : Expr → Option Expr) (found : Option Expr) (text : Option (List ℕ))
    → follow ≡ expression_meant unit expansions number → found ≡ follow e → text ≡ option_and_then literal_text found
    → text ≡ text_in unit expansions number e
text_is unit expansions number e follow found text same is own =
    own ∙ ap (option_and_then literal_text) (is ∙ ap (λ f. f e) same)
