-- What an expression is to those around it, by its form.
use Rattle.std.specs.Prelude.{◌≡◌, ℕ, List, [], ◌∷◌, Option, Some, None}
use Rattle.std.proofs.Common.{refl, sym, ap, ◌∙◌}
use Rattle.spl_tree.specs.Trees.{Expr}
use Rattle.spl_tree.specs.declared.code.Marker.{Marker}
use Rattle.spl_tree.specs.declared.expression.Placed.{Placed}
use Rattle.spl_tree.specs.declared.expression.Step.{Step}
use Rattle.spl_tree.specs.declared.expression.Step.TheVariants as N
use Rattle.spl_tree.specs.declared.expression.ExprKind.{ExprKind}
use Rattle.spl_tree.specs.declared.expression.ExprKind.TheVariants as V
use Rattle.spl_tree.specs.declared.expression.ExprKind.TheOpen as X
use Rattle.spl_tree.specs.declared.expression.ExprKind.TheOpen.{ExprKind-F}
use Rattle.spl_tree.specs.declared.expression.ExprKind.TheViews.{out-ExprKind, roll-ExprKind, roll-out-ExprKind}
use Rattle.spl_tree.specs.declared.expression.ExprKind.TheFolds.{fold-ExprKind, fold_out-ExprKind, map-ExprKind, para-ExprKind, para-roll-ExprKind}
use Rattle.language_model.specs.Readings.{level_marker, marker_in, named_marker, root_of}

-- a fold of an expression, by its form
pub fold_at : {A : Type 0} (level : ExprKind-F A → A) (k : ExprKind) (x : ExprKind-F ExprKind) → out-ExprKind k ≡ x
    → fold-ExprKind A level k ≡ level (map-ExprKind ExprKind A (fold-ExprKind A level) x)
fold_at {A} level k x e = fold_out-ExprKind A level k ∙ ap (λ y. level (map-ExprKind ExprKind A (fold-ExprKind A level) y)) e

-- what is found of an expression by a rule that sees each part before what is found of it
pub para_at : {A : Type 0} (level : ExprKind-F (ExprKind × A) → A) (k : ExprKind) (x : ExprKind-F ExprKind) → out-ExprKind k ≡ x
    → para-ExprKind A level k ≡ level (map-ExprKind ExprKind (ExprKind × A) (λ e. (e, para-ExprKind A level e)) x)
para_at {A} level k x e = ap (para-ExprKind A level) (sym (roll-out-ExprKind k) ∙ ap roll-ExprKind e) ∙ para-roll-ExprKind A level x

-- the steps of what takes members and elements
abbrev pub steps_of : {A : Type 0} → ExprKind-F A → List (Step (Placed A))
steps_of (X.Select base ss) = ss
steps_of _ = []

-- ---- markers

abbrev with_marker : ExprKind → ExprKind × Option Marker
with_marker e = (e, named_marker e)

pub marker_out : (k : ExprKind) → named_marker k ≡ level_marker (map-ExprKind ExprKind (ExprKind × Option Marker) with_marker (out-ExprKind k))
marker_out k = para_at level_marker k (out-ExprKind k) refl

pub group_marker : (e : Expr) → named_marker (V.Group e) ≡ named_marker e.what
group_marker e = para_at level_marker (V.Group e) (X.Group e) (V.outs-Group e)

marker_kept : (root : Option (List ℕ)) (base : Expr) (ss : List (Step Expr))
    → marker_in root (steps_of (map-ExprKind ExprKind (ExprKind × Option Marker) with_marker (X.Select base ss))) ≡ marker_in root ss
marker_kept None base ss = refl
marker_kept (Some name) base [] = refl
marker_kept (Some name) base (N.Member m ∷ []) = refl
marker_kept (Some name) base (N.Member m ∷ s ∷ ss) = refl
marker_kept (Some name) base (N.Index e ∷ ss) = refl

pub select_marker : (base : Expr) (ss : List (Step Expr)) → named_marker (V.Select base ss) ≡ marker_in (root_of base.what) ss
select_marker base ss = para_at level_marker (V.Select base ss) (X.Select base ss) (V.outs-Select base ss) ∙ marker_kept (root_of base.what) base ss

pub ruleset marker_laws = (marker_out, group_marker, select_marker)
