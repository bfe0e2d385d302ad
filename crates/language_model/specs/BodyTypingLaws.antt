-- Statements inside others, as parts; and whether the statements of a row all end with a result.
use Rattle.std.specs.Prelude.{Bool, List, map, Option, Some, None}
use Rattle.std.specs.List.{list_all}
use Rattle.spl_tree.specs.declared.expression.Placed.{Placed}
use Rattle.spl_tree.specs.declared.statement.StmtKind.{StmtKind}
use Rattle.spl_tree.specs.declared.statement.StmtKind.TheFolds.{fold-StmtKind}
use Rattle.spl_tree.specs.Trees.{Expr, Stmt}
use Rattle.language_model.specs.BodyTyping.{Stated, level_returns}
use Rattle.language_model.specs.parts.BodyTyping.{stated}

abbrev pub row_stated : List Stmt → List (Placed Stated)
row_stated ss = map stated ss

abbrev pub arm_stated : Expr × Stmt → Expr × Placed Stated
arm_stated a = (a.0, stated a.1)

abbrev pub arms_stated : List (Expr × Stmt) → List (Expr × Placed Stated)
arms_stated arms = map arm_stated arms

abbrev pub other_stated : Option Stmt → Option (Placed Stated)
other_stated None = None
other_stated (Some s) = Some (stated s)

-- ---- results

abbrev pub kind_returns : StmtKind → Bool
kind_returns k = fold-StmtKind Bool level_returns k

abbrev pub all_return : List (Expr × Stmt) → Bool
all_return arms = list_all (λ a. kind_returns a.1.what) arms
