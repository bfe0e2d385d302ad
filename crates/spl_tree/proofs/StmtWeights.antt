-- How much a statement weighs, by which a recursion over its parts ends.
use Rattle.std.proofs.Common.{◌≡◌, ◌∙◌, ℕ, ◌+◌, List, [], ◌∷◌, Option, Some, None, refl, ap, arith}
use Rattle.std.specs.Option.{option_map_or}
use Rattle.spl_tree.specs.declared.shape.Attribute.{Attribute}
use Rattle.spl_tree.specs.declared.statement.StmtKind.{StmtKind}
use Rattle.spl_tree.specs.declared.statement.StmtKind.TheVariants as V
use Rattle.spl_tree.specs.declared.statement.StmtKind.TheOpen as Z
use Rattle.spl_tree.specs.declared.statement.StmtKind.TheOpen.{StmtKind-F}
use Rattle.spl_tree.specs.declared.statement.StmtKind.TheViews.{out-StmtKind}
use Rattle.spl_tree.specs.declared.statement.StmtKind.TheFolds.{fold-StmtKind, fold_out-StmtKind, map-StmtKind}
use Rattle.spl_tree.specs.Trees.{Expr, Stmt, TypeExpr}
use Rattle.spl_value.proofs.Lists.{total}

abbrev level_weight : StmtKind-F ℕ → ℕ
level_weight (Z.Block ss) = 4 + total (λ s. s.what) ss
level_weight (Z.If arms other) = 4 + (total (λ a. a.1.what) arms + option_map_or (λ s. s.what) other 0)
level_weight (Z.While c s) = 3 + s.what
level_weight (Z.For a e s) = 3 + s.what
level_weight _ = 1

abbrev pub weight : StmtKind → ℕ
weight = fold-StmtKind ℕ level_weight

abbrev pub statement_weight : Stmt → ℕ
statement_weight s = weight s.what

abbrev pub statement_weights : List Stmt → ℕ
statement_weights ss = total statement_weight ss

abbrev pub arm_weight : Expr × Stmt → ℕ
arm_weight a = statement_weight a.1

abbrev pub arm_weights : List (Expr × Stmt) → ℕ
arm_weights arms = total arm_weight arms

abbrev pub other_weight : Option Stmt → ℕ
other_weight s = option_map_or statement_weight s 0

weight_at : (k : StmtKind) (x : StmtKind-F StmtKind) → out-StmtKind k ≡ x → weight k ≡ level_weight (map-StmtKind StmtKind ℕ weight x)
weight_at k x e = fold_out-StmtKind ℕ level_weight k ∙ ap (λ y. level_weight (map-StmtKind StmtKind ℕ weight y)) e

pub block_weight : (ss : List Stmt) → weight (V.Block ss) ≡ 4 + statement_weights ss
block_weight ss = weight_at (V.Block ss) (Z.Block ss) (V.outs-Block ss) ∙ along ss
  where
    along : (ss : List Stmt) → level_weight (map-StmtKind StmtKind ℕ weight (Z.Block ss)) ≡ 4 + statement_weights ss
    along [] = refl
    along (s ∷ ss) = let h = along ss in omega arith

pub if_weight : (arms : List (Expr × Stmt)) (other : Option Stmt) → weight (V.If arms other) ≡ 4 + (arm_weights arms + other_weight other)
if_weight arms other = weight_at (V.If arms other) (Z.If arms other) (V.outs-If arms other) ∙ along arms other
  where
    along : (arms : List (Expr × Stmt)) (other : Option Stmt) → level_weight (map-StmtKind StmtKind ℕ weight (Z.If arms other)) ≡ 4 + (arm_weights arms + other_weight other)
    along [] None = refl
    along [] (Some s) = refl
    along (a ∷ arms) other = let h = along arms other in omega arith

pub while_weight : (c : Expr) (s : Stmt) → weight (V.While c s) ≡ 3 + statement_weight s
while_weight c s = weight_at (V.While c s) (Z.While c s) (V.outs-While c s)

pub for_weight : (a : Attribute TypeExpr) (e : Expr) (s : Stmt) → weight (V.For a e s) ≡ 3 + statement_weight s
for_weight a e s = weight_at (V.For a e s) (Z.For a e s) (V.outs-For a e s)

pub ruleset weight_laws = (block_weight, if_weight, while_weight, for_weight)
