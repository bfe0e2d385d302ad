-- What an expression mentions by what its parts mention, an equation for each form with parts.
use Rattle.std.proofs.Common.{◌≡◌, ◌∙◌, ℕ, List, [], ◌∷◌, ◌++◌, flat_map, refl, ap}
use Rattle.spl_tree.specs.declared.expression.Field.{Field}
use Rattle.spl_tree.specs.declared.expression.Step.{Step}
use Rattle.spl_tree.specs.declared.expression.Step.TheVariants as N
use Rattle.spl_tree.specs.declared.expression.BinaryOperator.{BinaryOperator}
use Rattle.spl_tree.specs.declared.expression.ExprKind.{ExprKind}
use Rattle.spl_tree.specs.declared.expression.ExprKind.TheVariants as V
use Rattle.spl_tree.specs.declared.expression.ExprKind.TheOpen as X
use Rattle.spl_tree.specs.declared.expression.ExprKind.TheOpen.{ExprKind-F}
use Rattle.spl_tree.specs.declared.expression.ExprKind.TheViews.{out-ExprKind}
use Rattle.spl_tree.specs.declared.expression.ExprKind.TheFolds.{fold-ExprKind, fold_out-ExprKind, map-ExprKind}
use Rattle.spl_tree.specs.Trees.{Expr, Prefix, placed}
use Rattle.language_model.specs.Mentions.{Mentions, At, Called, Dollar, level_mentions, expr_mentions}
use Rattle.language_model.specs.Mentions as D
use Rattle.language_model.proofs.ReadingLaws.{steps_of}
use Rattle.program_tables.specs.steps.MentionParts.{entry_mentions, field_mentions, step_mentions}

abbrev pub mentions : ExprKind → ℕ → Mentions
mentions = fold-ExprKind At level_mentions

at_level : (k : ExprKind) (x : ExprKind-F ExprKind) (at : ℕ) → out-ExprKind k ≡ x
    → mentions k at ≡ level_mentions (map-ExprKind ExprKind At mentions x) at
at_level k x at e = ap (λ f. f at) (fold_out-ExprKind At level_mentions k) ∙ ap (λ y. level_mentions (map-ExprKind ExprKind At mentions y) at) e

pub of_dollar : (name : List ℕ) (at : ℕ) → mentions (V.Dollar name) at ≡ placed at (Dollar name) ∷ []
of_dollar name at = at_level (V.Dollar name) (X.Dollar name) at (V.outs-Dollar name)

pub of_call : (name : List ℕ) (es : List Expr) (at : ℕ) → mentions (V.Call name es) at ≡ placed at (Called name) ∷ flat_map expr_mentions es
of_call name es at = at_level (V.Call name es) (X.Call name es) at (V.outs-Call name es) ∙ along es
  where
    along : (es : List Expr) → level_mentions (map-ExprKind ExprKind At mentions (X.Call name es)) at ≡ placed at (Called name) ∷ flat_map expr_mentions es
    along es = ap (λ ms. placed at (Called name) ∷ ms) (rows es)
      where
        rows : (es : List Expr) → level_mentions (map-ExprKind ExprKind At mentions (X.List es)) at ≡ flat_map expr_mentions es
        rows [] = refl
        rows (e ∷ es) = ap (λ ms. expr_mentions e ++ ms) (rows es)

pub of_group : (e : Expr) (at : ℕ) → mentions (V.Group e) at ≡ expr_mentions e
of_group e at = at_level (V.Group e) (X.Group e) at (V.outs-Group e)

pub of_list : (es : List Expr) (at : ℕ) → mentions (V.List es) at ≡ flat_map expr_mentions es
of_list es at = at_level (V.List es) (X.List es) at (V.outs-List es) ∙ along es
  where
    along : (es : List Expr) → level_mentions (map-ExprKind ExprKind At mentions (X.List es)) at ≡ flat_map expr_mentions es
    along [] = refl
    along (e ∷ es) = ap (λ ms. expr_mentions e ++ ms) (along es)

pub of_map : (es : List (Expr × Expr)) (at : ℕ) → mentions (V.Map es) at ≡ flat_map entry_mentions es
of_map es at = at_level (V.Map es) (X.Map es) at (V.outs-Map es) ∙ along es
  where
    along : (es : List (Expr × Expr)) → level_mentions (map-ExprKind ExprKind At mentions (X.Map es)) at ≡ flat_map entry_mentions es
    along [] = refl
    along (e ∷ es) = ap (λ ms. entry_mentions e ++ ms) (along es)

pub of_tuple : (fs : List (Field Expr)) (at : ℕ) → mentions (V.Tuple fs) at ≡ flat_map field_mentions fs
of_tuple fs at = at_level (V.Tuple fs) (X.Tuple fs) at (V.outs-Tuple fs) ∙ along fs
  where
    along : (fs : List (Field Expr)) → level_mentions (map-ExprKind ExprKind At mentions (X.Tuple fs)) at ≡ flat_map field_mentions fs
    along [] = refl
    along (f ∷ fs) = ap (λ ms. field_mentions f ++ ms) (along fs)

pub of_select : (base : Expr) (ss : List (Step Expr)) (at : ℕ)
    → mentions (V.Select base ss) at ≡ expr_mentions base ++ flat_map step_mentions ss
of_select base ss at = at_level (V.Select base ss) (X.Select base ss) at (V.outs-Select base ss) ∙ ap (λ ms. expr_mentions base ++ ms) (along ss)
  where
    along : (ss : List (Step Expr))
        → flat_map D.step_mentions (steps_of (map-ExprKind ExprKind At mentions (X.Select base ss))) ≡ flat_map step_mentions ss
    along [] = refl
    along (N.Member m ∷ ss) = along ss
    along (N.Index e ∷ ss) = ap (λ ms. expr_mentions e ++ ms) (along ss)

pub of_unary : (ps : List Prefix) (e : Expr) (at : ℕ) → mentions (V.Unary ps e) at ≡ expr_mentions e
of_unary ps e at = at_level (V.Unary ps e) (X.Unary ps e) at (V.outs-Unary ps e)

pub of_binary : (op : BinaryOperator) (l r : Expr) (at : ℕ) → mentions (V.Binary op l r) at ≡ expr_mentions l ++ expr_mentions r
of_binary op l r at = at_level (V.Binary op l r) (X.Binary op l r) at (V.outs-Binary op l r)

pub of_conditional : (c a b : Expr) (at : ℕ)
    → mentions (V.Conditional c a b) at ≡ expr_mentions c ++ expr_mentions a ++ expr_mentions b
of_conditional c a b at = at_level (V.Conditional c a b) (X.Conditional c a b) at (V.outs-Conditional c a b)

pub ruleset expr_laws = (of_dollar, of_call, of_group, of_list, of_map, of_tuple, of_select, of_unary, of_binary, of_conditional)
