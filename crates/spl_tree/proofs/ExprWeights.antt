-- How much an expression weighs, by which a recursion over its parts ends.
use Rattle.std.proofs.Common.{◌≡◌, ◌<◌, ◌≤◌, ◌∙◌, ℕ, zero, suc, ◌+◌, List, [], ◌∷◌, length, get_or, refl, ap, arith}
use Rattle.spl_tree.specs.declared.expression.Placed.{Placed}
use Rattle.spl_tree.specs.declared.expression.Field.{Field}
use Rattle.spl_tree.specs.declared.expression.Step.{Step}
use Rattle.spl_tree.specs.declared.expression.Step.TheVariants as N
use Rattle.spl_tree.specs.declared.expression.BinaryOperator.{BinaryOperator}
use Rattle.spl_tree.specs.declared.expression.ExprKind.{ExprKind}
use Rattle.spl_tree.specs.declared.expression.ExprKind.TheVariants as V
use Rattle.spl_tree.specs.declared.expression.ExprKind.TheOpen as X
use Rattle.spl_tree.specs.declared.expression.ExprKind.TheOpen.{ExprKind-F}
use Rattle.spl_tree.specs.declared.expression.ExprKind.TheViews.{out-ExprKind}
use Rattle.spl_tree.specs.declared.expression.ExprKind.TheFolds.{fold-ExprKind, fold_out-ExprKind, map-ExprKind}
use Rattle.spl_tree.specs.Trees.{Expr, Prefix}
use Rattle.spl_value.proofs.Lists.{total}

-- an item weighs no more than its row
pub item_below : {A : Type 0} (f : A → ℕ) (xs : List A) (i : ℕ) (x : A) → i < length xs → x ≡ get_or xs i x → f x ≤ total f xs
item_below f [] i x h e = absurd (omega arith)
item_below f (y ∷ ys) zero x h e = let q : f x ≡ f y = ap f e in omega arith
item_below f (y ∷ ys) (suc i) x h e = let q : f x ≤ total f ys = item_below f ys i x (omega arith) e in omega arith

abbrev step_of : Step (Placed ℕ) → ℕ
step_of (N.Member m) = 0
step_of (N.Index e) = e.what

abbrev level_weight : ExprKind-F ℕ → ℕ
level_weight (X.Group e) = suc e.what
level_weight (X.List es) = 3 + total (λ e. e.what) es
level_weight (X.Map es) = 3 + total (λ e. e.0.what + e.1.what) es
level_weight (X.Tuple fs) = 4 + total (λ f. f.value.what) fs
level_weight (X.Call name es) = 7 + total (λ e. e.what) es
level_weight (X.Select base ss) = 4 + (base.what + total step_of ss)
level_weight (X.Unary ps e) = 2 + e.what
level_weight (X.Binary op l r) = 4 + (l.what + r.what)
level_weight (X.Conditional c a b) = 3 + (c.what + (a.what + b.what))
level_weight _ = 1

abbrev pub weight : ExprKind → ℕ
weight = fold-ExprKind ℕ level_weight

abbrev pub expr_weight : Expr → ℕ
expr_weight e = weight e.what

abbrev pub weights : List Expr → ℕ
weights es = total expr_weight es

abbrev pub entry_weight : Expr × Expr → ℕ
entry_weight e = expr_weight e.0 + expr_weight e.1

abbrev pub entry_weights : List (Expr × Expr) → ℕ
entry_weights es = total entry_weight es

abbrev pub field_weight : Field Expr → ℕ
field_weight f = expr_weight f.value

abbrev pub field_weights : List (Field Expr) → ℕ
field_weights fs = total field_weight fs

abbrev pub step_weight : Step Expr → ℕ
step_weight (N.Member m) = 0
step_weight (N.Index e) = expr_weight e

abbrev pub step_weights : List (Step Expr) → ℕ
step_weights ss = total step_weight ss

at_level : (k : ExprKind) (x : ExprKind-F ExprKind) → out-ExprKind k ≡ x → weight k ≡ level_weight (map-ExprKind ExprKind ℕ weight x)
at_level k x p = fold_out-ExprKind ℕ level_weight k ∙ ap (λ y. level_weight (map-ExprKind ExprKind ℕ weight y)) p

pub group_weight : (e : Expr) → weight (V.Group e) ≡ suc (expr_weight e)
group_weight e = at_level (V.Group e) (X.Group e) (V.outs-Group e)

pub list_weight : (es : List Expr) → weight (V.List es) ≡ 3 + weights es
list_weight es = at_level (V.List es) (X.List es) (V.outs-List es) ∙ along es
  where
    along : (es : List Expr) → level_weight (map-ExprKind ExprKind ℕ weight (X.List es)) ≡ 3 + weights es
    along [] = refl
    along (e ∷ es) = let h = along es in omega arith

pub map_weight : (es : List (Expr × Expr)) → weight (V.Map es) ≡ 3 + entry_weights es
map_weight es = at_level (V.Map es) (X.Map es) (V.outs-Map es) ∙ along es
  where
    along : (es : List (Expr × Expr)) → level_weight (map-ExprKind ExprKind ℕ weight (X.Map es)) ≡ 3 + entry_weights es
    along [] = refl
    along (e ∷ es) = let h = along es in omega arith

pub tuple_weight : (fs : List (Field Expr)) → weight (V.Tuple fs) ≡ 4 + field_weights fs
tuple_weight fs = at_level (V.Tuple fs) (X.Tuple fs) (V.outs-Tuple fs) ∙ along fs
  where
    along : (fs : List (Field Expr)) → level_weight (map-ExprKind ExprKind ℕ weight (X.Tuple fs)) ≡ 4 + field_weights fs
    along [] = refl
    along (f ∷ fs) = let h = along fs in omega arith

pub call_weight : (name : List ℕ) (es : List Expr) → weight (V.Call name es) ≡ 7 + weights es
call_weight name es = at_level (V.Call name es) (X.Call name es) (V.outs-Call name es) ∙ along es
  where
    along : (es : List Expr) → level_weight (map-ExprKind ExprKind ℕ weight (X.Call name es)) ≡ 7 + weights es
    along [] = refl
    along (e ∷ es) = let h = along es in omega arith

pub select_weight : (base : Expr) (ss : List (Step Expr)) → weight (V.Select base ss) ≡ 4 + (expr_weight base + step_weights ss)
select_weight base ss = at_level (V.Select base ss) (X.Select base ss) (V.outs-Select base ss) ∙ along ss
  where
    along : (ss : List (Step Expr)) → level_weight (map-ExprKind ExprKind ℕ weight (X.Select base ss)) ≡ 4 + (expr_weight base + step_weights ss)
    along [] = refl
    along (N.Member m ∷ ss) = let h = along ss in omega arith
    along (N.Index e ∷ ss) = let h = along ss in omega arith

pub unary_weight : (ps : List Prefix) (e : Expr) → weight (V.Unary ps e) ≡ 2 + expr_weight e
unary_weight ps e = at_level (V.Unary ps e) (X.Unary ps e) (V.outs-Unary ps e)

pub binary_weight : (op : BinaryOperator) (l r : Expr) → weight (V.Binary op l r) ≡ 4 + (expr_weight l + expr_weight r)
binary_weight op l r = at_level (V.Binary op l r) (X.Binary op l r) (V.outs-Binary op l r)

pub conditional_weight : (c a b : Expr) → weight (V.Conditional c a b) ≡ 3 + (expr_weight c + (expr_weight a + expr_weight b))
conditional_weight c a b = at_level (V.Conditional c a b) (X.Conditional c a b) (V.outs-Conditional c a b)

pub ruleset weight_laws = (group_weight, list_weight, map_weight, tuple_weight, call_weight, select_weight, unary_weight, binary_weight, conditional_weight)
