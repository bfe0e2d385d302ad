-- Trees with their places.
use Rattle.std.specs.Prelude.{◌≡◌, ℕ, List, Option}
use Rattle.spl_tree.specs.declared.expression.ExprKind.{ExprKind}
use Rattle.spl_tree.specs.declared.expression.Placed.{Placed}
use Rattle.spl_tree.specs.declared.expression.PrefixOperator.{PrefixOperator}
use Rattle.spl_tree.specs.declared.shape.ShapeKind.{ShapeKind}
use Rattle.spl_tree.specs.declared.shape.TypeKind.{TypeKind}
use Rattle.spl_tree.specs.declared.statement.StmtKind.{StmtKind}
use Rattle.spl_tree.specs.declared.statement.StmtKind.TheVariants as Z

abbrev pub Expr : Type 0
Expr = Placed ExprKind

abbrev pub Prefix : Type 0
Prefix = Placed PrefixOperator

abbrev pub TypeExpr : Type 0
TypeExpr = Placed TypeKind

abbrev pub Shape : Type 0
Shape = Placed ShapeKind

abbrev pub Stmt : Type 0
Stmt = Placed StmtKind

abbrev pub placed : {A : Type 0} → ℕ → A → Placed A
placed at x = record { at = at; what = x }

-- a statement is no `if`
abbrev pub IsNoIf : Stmt → Type 0
IsNoIf s = (arms : List (Expr × Stmt)) (other : Option Stmt) → s.what ≡ Z.If arms other → ⊥
