-- What the checks take as the file of an operator is the text that its parameter `file` means.
use Rattle.std.specs.Prelude.{◌≡◌, ℕ, true, false, List, [], ◌∷◌, length, if◌then◌else◌, Option, Some, None, Ok, slice_get}
use Rattle.std.specs.Option.{option_and_then}
use Rattle.std.proofs.Common.{refl, ap, ◌∙◌}
use Rattle.spl_value.specs.declared.types.SplType.TheVariants as S
use Rattle.spl_tree.specs.declared.expression.ExprKind.{ExprKind}
use Rattle.spl_tree.specs.declared.expression.ExprKind.TheOpen as X
use Rattle.spl_tree.specs.declared.expression.ExprKind.TheOpen.{ExprKind-F}
use Rattle.spl_tree.specs.declared.expression.ExprKind.TheViews.{out-ExprKind}
use Rattle.spl_tree.specs.declared.graph.Expansion.{Expansion}
use Rattle.spl_tree.specs.declared.unit.Definition.{Definition}
use Rattle.spl_tree.specs.Trees.{Expr}
use Rattle.language_model.specs.declared.scope.Scope.{Scope}
use Rattle.language_model.specs.Literals as L
use Rattle.language_model.specs.DollarTargets.{Target, arguments_of, expression_meant, expression_within, heads_of, here_or, level_target, parameter_target}
use Rattle.language_model.specs.parts.DollarTargets.{target_in}
use Rattle.language_model.specs.Literals.{file_or_mismatch, file_typing, level_file}
use Rattle.language_model.specs.parts.Literals.{is_file_name, text_at}
use Rattle.language_model.specs.SinkFiles.{level_text}
use Rattle.language_model.specs.parts.SinkFiles.{literal_text, text_in}
use Rattle.language_model.specs.Typing.{mismatch, typing}
use Rattle.language_model.proofs.FoundAnswers.{after_gives, same_Ok}

file_is : (at : ℕ) (bytes file : List ℕ) → file_or_mismatch at bytes ≡ Ok file → bytes ≡ file
file_is at bytes file e =
    elim (is_file_name bytes) as (λ b. (if b then Ok bytes else mismatch at) ≡ Ok file → bytes ≡ file) [
      | true ↦ λ is. same_Ok is
      | false ↦ λ is. absurd cc
    ] e

-- the expression that is found is the text
text_found : (at : ℕ) (o : Option Expr) (file : List ℕ) → text_at at o ≡ Ok file → option_and_then literal_text o ≡ Some file
text_found at None file e = absurd cc
text_found at (Some d) file e = level_found (out-ExprKind d.what) e
  where
    level_found : (x : ExprKind-F ExprKind) → L.level_text at x ≡ Ok file → level_text x ≡ Some file
    level_found (X.Text bytes) e = ap (λ (f : List ℕ). Some f) (file_is at bytes file e)
    level_found _ e = absurd cc

-- a text is found in each expansion that there is
literal_found : (unit : List Definition) (expansions : List Expansion) (number : ℕ) (x : Expansion) (e : Expr) (bytes : List ℕ)
    → out-ExprKind e.what ≡ X.Text bytes → slice_get expansions number ≡ Some x → text_in unit expansions number e ≡ Some bytes
literal_found unit [] number x e bytes is there = absurd cc
literal_found unit (y ∷ ys) number x e bytes is there =
    ap (λ o. option_and_then literal_text (option_and_then own o)) there
    ∙ ap (λ k. option_and_then literal_text (here_or (outside x) (level_target parameter e k))) is
    ∙ ap level_text is
  where
    outside : Expansion → Expr → Option Expr
    outside z a = option_and_then (λ s. expression_within (length ys) unit (y ∷ ys) s.expansion a) z.site

    own : Expansion → Option Expr
    own z = here_or (outside z) (target_in unit (y ∷ ys) z e)

    parameter : List ℕ → Target
    parameter = parameter_target (length (heads_of unit x)) (heads_of unit x) (arguments_of unit (y ∷ ys) x)

-- what the checks take as a file is the text of the expression
pub file_found : (scope : Scope) (unit : List Definition) (expansions : List Expansion) (number : ℕ) (x : Expansion) (e : Expr) (file : List ℕ)
    → slice_get expansions number ≡ Some x → file_typing scope (expression_meant unit expansions number) e ≡ Ok file
    → text_in unit expansions number e ≡ Some file
file_found scope unit expansions number x e file there found = level_found (out-ExprKind e.what) refl found
  where
    level_found : (k : ExprKind-F ExprKind) → out-ExprKind e.what ≡ k → level_file scope (expression_meant unit expansions number) e k ≡ Ok file
        → text_in unit expansions number e ≡ Some file
    level_found (X.Text bytes) is f =
        literal_found unit expansions number x e bytes is there ∙ ap (λ (b : List ℕ). Some b) (file_is e.at bytes file f)
    level_found (X.Dollar name) is f =
        let t = after_gives (typing scope e (Some S.Text)) (λ t. text_at e.at (expression_meant unit expansions number e)) file f in
        text_found e.at (expression_meant unit expansions number e) file t.2
    level_found _ is f = absurd cc
