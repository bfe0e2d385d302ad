-- Induction over statements as they are written, as over plain data.
use Rattle.std.specs.Prelude.{ℕ, List, [], ◌∷◌, map, Option, Some, None}
use Rattle.std.specs.List.{AllByRecursion}
use Rattle.std.proofs.Common.{subst, sym}
use Rattle.spl_tree.specs.declared.expression.BinaryOperator.{BinaryOperator}
use Rattle.spl_tree.specs.declared.expression.Placed.{Placed}
use Rattle.spl_tree.specs.declared.shape.Attribute.{Attribute}
use Rattle.spl_tree.specs.declared.statement.Declaration.{Declaration}
use Rattle.spl_tree.specs.declared.statement.StmtKind.{StmtKind}
use Rattle.spl_tree.specs.declared.statement.StmtKind.TheVariants as V
use Rattle.spl_tree.specs.declared.statement.StmtKind.TheOpen as Z
use Rattle.spl_tree.specs.declared.statement.StmtKind.TheOpen.{StmtKind-F}
use Rattle.spl_tree.specs.declared.statement.StmtKind.TheViews.{roll-StmtKind}
use Rattle.spl_tree.specs.declared.statement.StmtKind.TheFolds.{ind-StmtKind, map-StmtKind}
use Rattle.spl_tree.specs.Trees.{Expr, Stmt, TypeExpr}

-- P holds of the statement after a condition
abbrev pub OfBranch : (StmtKind → Type 0) → Expr × Stmt → Type 0
OfBranch P a = P a.1.what

-- and of the one after `else`, where there is one
abbrev pub OfOther : (StmtKind → Type 0) → Option Stmt → Type 0
OfOther P None = Unit {0}
OfOther P (Some s) = P s.what

-- P holds of a statement where it holds of each of its parts
pub record StmtSteps (P : StmtKind → Type 0) : Type 0 where
  pub block : (ss : List Stmt) → AllByRecursion (λ s. P s.what) ss → P (V.Block ss)
  pub declare : (d : Declaration) → P (V.Declare d)
  pub assign : (place : Expr) (op : Option BinaryOperator) (e : Expr) → P (V.Assign place op e)
  pub call : (e : Expr) → P (V.Call e)
  pub if_true : (arms : List (Expr × Stmt)) (other : Option Stmt) → AllByRecursion (OfBranch P) arms → OfOther P other → P (V.If arms other)
  pub while : (c : Expr) (s : Stmt) → P s.what → P (V.While c s)
  pub for_each : (a : Attribute TypeExpr) (e : Expr) (s : Stmt) → P s.what → P (V.For a e s)
  pub break : P V.Break
  pub continue : P V.Continue
  pub return : (e : Option Expr) → P (V.Return e)
  pub submit : (e : Expr) (stream : Placed (List ℕ)) → P (V.Submit e stream)

module _ (P : StmtKind → Type 0) where
  abbrev Known : Type 0
  Known = (k : StmtKind) × P k

  abbrev stmt_of : Placed Known → Stmt
  stmt_of e = record { at = e.at; what = e.what.0 }

  abbrev branch_of : Expr × Placed Known → Expr × Stmt
  branch_of a = (a.0, stmt_of a.1)

  all_known : (es : List (Placed Known)) → AllByRecursion (λ s. P s.what) (map stmt_of es)
  all_known [] = tt
  all_known (e ∷ es) = (e.what.1, all_known es)

  all_branches : (arms : List (Expr × Placed Known)) → AllByRecursion (OfBranch P) (map branch_of arms)
  all_branches [] = tt
  all_branches (a ∷ arms) = (a.1.what.1, all_branches arms)

module _ (P : StmtKind → Type 0) (s : StmtSteps P) where
  stmt_step : (y : StmtKind-F (Known P)) → P (roll-StmtKind (map-StmtKind (Known P) StmtKind (λ e. e.0) y))
  stmt_step (Z.Block es) = subst P (sym (V.rolls-Block (map (stmt_of P) es))) (s.block (map (stmt_of P) es) (all_known P es))
  stmt_step (Z.Declare d) = subst P (sym (V.rolls-Declare d)) (s.declare d)
  stmt_step (Z.Assign place op e) = subst P (sym (V.rolls-Assign place op e)) (s.assign place op e)
  stmt_step (Z.Call e) = subst P (sym (V.rolls-Call e)) (s.call e)
  stmt_step (Z.If arms None) =
      subst P (sym (V.rolls-If (map (branch_of P) arms) None)) (s.if_true (map (branch_of P) arms) None (all_branches P arms) tt)
  stmt_step (Z.If arms (Some e)) =
      subst P (sym (V.rolls-If (map (branch_of P) arms) (Some (stmt_of P e)))) (s.if_true (map (branch_of P) arms) (Some (stmt_of P e)) (all_branches P arms) e.what.1)
  stmt_step (Z.While c e) = subst P (sym (V.rolls-While c (stmt_of P e))) (s.while c (stmt_of P e) e.what.1)
  stmt_step (Z.For a v e) = subst P (sym (V.rolls-For a v (stmt_of P e))) (s.for_each a v (stmt_of P e) e.what.1)
  stmt_step Z.Break = subst P (sym V.rolls-Break) s.break
  stmt_step Z.Continue = subst P (sym V.rolls-Continue) s.continue
  stmt_step (Z.Return e) = subst P (sym (V.rolls-Return e)) (s.return e)
  stmt_step (Z.Submit e stream) = subst P (sym (V.rolls-Submit e stream)) (s.submit e stream)

  pub stmt_ind : (k : StmtKind) → P k
  stmt_ind = ind-StmtKind P (λ x y is. subst (λ z. P (roll-StmtKind z)) is (stmt_step y))
