-- Numbers of expressions are those of their types.
use Rattle.std.specs.Prelude.{◌&&◌, Bool, true, nat_lt}
use Rattle.std.specs.List.{list_all}
use Rattle.spl_value.specs.Values.{top}
use Rattle.spl_tree.specs.declared.token.Number.{Number}
use Rattle.spl_tree.specs.declared.expression.Placed.{Placed}
use Rattle.spl_tree.specs.declared.expression.Step.{Step}
use Rattle.spl_tree.specs.declared.expression.Step.TheVariants as N
use Rattle.spl_tree.specs.declared.expression.ExprKind.{ExprKind}
use Rattle.spl_tree.specs.declared.expression.ExprKind.TheOpen as X
use Rattle.spl_tree.specs.declared.expression.ExprKind.TheOpen.{ExprKind-F}
use Rattle.spl_tree.specs.declared.expression.ExprKind.TheFolds.{fold-ExprKind}

-- the value of the number is one of its type
abbrev pub number_in_range : Number → Bool
number_in_range n = nat_lt n.value (top n.kind)

-- of a step, the index
abbrev pub step_in_range : Step (Placed Bool) → Bool
step_in_range (N.Member m) = true
step_in_range (N.Index e) = e.what

-- each number of an expression is one of its type, where each part of it says so of its own
abbrev pub level_in_range : ExprKind-F Bool → Bool
level_in_range (X.Number n) = number_in_range n
level_in_range (X.Group e) = e.what
level_in_range (X.List es) = list_all (λ e. e.what) es
level_in_range (X.Map es) = list_all (λ e. e.0.what && e.1.what) es
level_in_range (X.Tuple fs) = list_all (λ f. f.value.what) fs
level_in_range (X.Call name es) = list_all (λ e. e.what) es
level_in_range (X.Select e steps) = e.what && list_all step_in_range steps
level_in_range (X.Unary ps e) = e.what
level_in_range (X.Binary op l r) = l.what && r.what
level_in_range (X.Conditional c a b) = c.what && a.what && b.what
level_in_range _ = true

-- each number of an expression is one of its type
abbrev pub in_range : ExprKind → Bool
in_range = fold-ExprKind Bool level_in_range
