-- How large types and statements are: what the calls on their parts fall by.
use Rattle.std.specs.Prelude.{◌≡◌, ℕ, suc, ◌+◌, List, [], ◌∷◌, Option, Some, None}
use Rattle.std.specs.Option.{option_map_or}
use Rattle.std.proofs.Common.{refl, ap, ◌∙◌, arith}
use Rattle.spl_tree.specs.declared.shape.Attribute.{Attribute}
use Rattle.spl_tree.specs.declared.shape.TypeKind.{TypeKind}
use Rattle.spl_tree.specs.declared.shape.TypeKind.TheVariants as V
use Rattle.spl_tree.specs.declared.shape.TypeKind.TheOpen as Y
use Rattle.spl_tree.specs.declared.shape.TypeKind.TheOpen.{TypeKind-F}
use Rattle.spl_tree.specs.declared.shape.TypeKind.TheViews.{out-TypeKind}
use Rattle.spl_tree.specs.declared.shape.TypeKind.TheFolds.{fold-TypeKind, fold_out-TypeKind, map-TypeKind}
use Rattle.spl_tree.specs.declared.statement.StmtKind.{StmtKind}
use Rattle.spl_tree.specs.declared.statement.StmtKind.TheVariants as S
use Rattle.spl_tree.specs.declared.statement.StmtKind.TheOpen as Z
use Rattle.spl_tree.specs.declared.statement.StmtKind.TheOpen.{StmtKind-F}
use Rattle.spl_tree.specs.declared.statement.StmtKind.TheViews.{out-StmtKind}
use Rattle.spl_tree.specs.declared.statement.StmtKind.TheFolds.{fold-StmtKind, fold_out-StmtKind, map-StmtKind}
use Rattle.spl_tree.specs.Trees.{Expr, Stmt, TypeExpr}
use Rattle.spl_value.proofs.Lists.{total}

-- ---- types

abbrev level_type_weight : TypeKind-F ℕ → ℕ
level_type_weight (Y.List t) = suc t.what
level_type_weight (Y.Map k v) = suc (k.what + v.what)
level_type_weight (Y.Tuple attributes) = 2 + total (λ a. a.kind.what) attributes
level_type_weight _ = 1

abbrev pub kind_weight : TypeKind → ℕ
kind_weight = fold-TypeKind ℕ level_type_weight

abbrev pub type_weight : TypeExpr → ℕ
type_weight t = kind_weight t.what

abbrev pub attribute_weight : Attribute TypeExpr → ℕ
attribute_weight a = type_weight a.kind

abbrev pub attribute_weights : List (Attribute TypeExpr) → ℕ
attribute_weights attributes = total attribute_weight attributes

type_level : (k : TypeKind) (x : TypeKind-F TypeKind) → out-TypeKind k ≡ x → kind_weight k ≡ level_type_weight (map-TypeKind TypeKind ℕ kind_weight x)
type_level k x e = fold_out-TypeKind ℕ level_type_weight k ∙ ap (λ y. level_type_weight (map-TypeKind TypeKind ℕ kind_weight y)) e

pub tuple_weight : (attributes : List (Attribute TypeExpr)) → kind_weight (V.Tuple attributes) ≡ 2 + attribute_weights attributes
tuple_weight attributes = type_level (V.Tuple attributes) (Y.Tuple attributes) (V.outs-Tuple attributes) ∙ along attributes
  where
    along : (attributes : List (Attribute TypeExpr)) → level_type_weight (map-TypeKind TypeKind ℕ kind_weight (Y.Tuple attributes)) ≡ 2 + attribute_weights attributes
    along [] = refl
    along (a ∷ attributes) = let h = along attributes in omega arith

-- ---- statements

abbrev level_statement_weight : StmtKind-F ℕ → ℕ
level_statement_weight (Z.Block ss) = 2 + total (λ s. s.what) ss
level_statement_weight (Z.If arms other) = 2 + (total (λ a. a.1.what) arms + option_map_or (λ s. s.what) other 0)
level_statement_weight (Z.While c s) = suc s.what
level_statement_weight (Z.For a e s) = suc s.what
level_statement_weight _ = 1

abbrev pub statement_kind_weight : StmtKind → ℕ
statement_kind_weight = fold-StmtKind ℕ level_statement_weight

abbrev pub statement_weight : Stmt → ℕ
statement_weight s = statement_kind_weight s.what

abbrev pub statement_weights : List Stmt → ℕ
statement_weights ss = total statement_weight ss

abbrev pub arm_weight : Expr × Stmt → ℕ
arm_weight a = statement_weight a.1

abbrev pub arm_weights : List (Expr × Stmt) → ℕ
arm_weights arms = total arm_weight arms

statement_level : (s : StmtKind) (x : StmtKind-F StmtKind) → out-StmtKind s ≡ x → statement_kind_weight s ≡ level_statement_weight (map-StmtKind StmtKind ℕ statement_kind_weight x)
statement_level s x e = fold_out-StmtKind ℕ level_statement_weight s ∙ ap (λ y. level_statement_weight (map-StmtKind StmtKind ℕ statement_kind_weight y)) e

pub block_weight : (ss : List Stmt) → statement_kind_weight (S.Block ss) ≡ 2 + statement_weights ss
block_weight ss = statement_level (S.Block ss) (Z.Block ss) (S.outs-Block ss) ∙ along ss
  where
    along : (ss : List Stmt) → level_statement_weight (map-StmtKind StmtKind ℕ statement_kind_weight (Z.Block ss)) ≡ 2 + statement_weights ss
    along [] = refl
    along (s ∷ ss) = let h = along ss in omega arith

pub if_weight : (arms : List (Expr × Stmt)) (other : Option Stmt) → statement_kind_weight (S.If arms other) ≡ 2 + (arm_weights arms + option_map_or statement_weight other 0)
if_weight arms other = statement_level (S.If arms other) (Z.If arms other) (S.outs-If arms other) ∙ along arms other
  where
    along : (arms : List (Expr × Stmt)) (other : Option Stmt)
        → level_statement_weight (map-StmtKind StmtKind ℕ statement_kind_weight (Z.If arms other)) ≡ 2 + (arm_weights arms + option_map_or statement_weight other 0)
    along [] None = refl
    along [] (Some s) = refl
    along (a ∷ arms) other = let h = along arms other in omega arith
