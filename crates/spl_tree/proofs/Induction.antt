-- Induction over expressions, as over plain data.
use Rattle.std.specs.Prelude.{ℕ, Bool, List, [], ◌∷◌, map}
use Rattle.std.specs.List.{AllByRecursion}
use Rattle.std.proofs.Common.{◌≡◌, refl, subst, sym}
use Rattle.spl_tree.specs.declared.token.Number.{Number}
use Rattle.spl_tree.specs.declared.expression.Placed.{Placed}
use Rattle.spl_tree.specs.declared.expression.Field.{Field}
use Rattle.spl_tree.specs.declared.expression.Step.{Step}
use Rattle.spl_tree.specs.declared.expression.Step.TheVariants as N
use Rattle.spl_tree.specs.declared.expression.BinaryOperator.{BinaryOperator}
use Rattle.spl_tree.specs.declared.expression.ExprKind.{ExprKind}
use Rattle.spl_tree.specs.declared.expression.ExprKind.TheVariants as X
use Rattle.spl_tree.specs.declared.expression.ExprKind.TheOpen as O
use Rattle.spl_tree.specs.declared.expression.ExprKind.TheOpen.{ExprKind-F}
use Rattle.spl_tree.specs.declared.expression.ExprKind.TheViews.{roll-ExprKind}
use Rattle.spl_tree.specs.declared.expression.ExprKind.TheFolds.{ind-ExprKind, map-ExprKind}
use Rattle.spl_tree.specs.Trees.{Expr, Prefix, placed}

-- P holds of the expression at a place
abbrev pub OfExpr : (ExprKind → Type 0) → Expr → Type 0
OfExpr P e = P e.what

abbrev pub OfEntry : (ExprKind → Type 0) → Expr × Expr → Type 0
OfEntry P e = P e.0.what × P e.1.what

abbrev pub OfField : (ExprKind → Type 0) → Field Expr → Type 0
OfField P f = P f.value.what

-- of the index, where the step has one
abbrev pub OfStep : (ExprKind → Type 0) → Step Expr → Type 0
OfStep P (N.Member m) = Unit {0}
OfStep P (N.Index e) = P e.what

-- P holds of an expression where it holds of each of its parts
pub record ExprSteps (P : ExprKind → Type 0) : Type 0 where
  pub name : (n : List ℕ) → P (X.Name n)
  pub dollar : (n : List ℕ) → P (X.Dollar n)
  pub number : (n : Number) → P (X.Number n)
  pub text : (bytes : List ℕ) → P (X.Text bytes)
  pub bool : (b : Bool) → P (X.Bool b)
  pub group : (e : Expr) → P e.what → P (X.Group e)
  pub list : (es : List Expr) → AllByRecursion (OfExpr P) es → P (X.List es)
  pub map_of : (es : List (Expr × Expr)) → AllByRecursion (OfEntry P) es → P (X.Map es)
  pub tuple : (fs : List (Field Expr)) → AllByRecursion (OfField P) fs → P (X.Tuple fs)
  pub call : (n : List ℕ) (es : List Expr) → AllByRecursion (OfExpr P) es → P (X.Call n es)
  pub select : (e : Expr) (ss : List (Step Expr)) → P e.what → AllByRecursion (OfStep P) ss → P (X.Select e ss)
  pub unary : (ps : List Prefix) (e : Expr) → P e.what → P (X.Unary ps e)
  pub binary : (op : BinaryOperator) (l r : Expr) → P l.what → P r.what → P (X.Binary op l r)
  pub conditional : (c a b : Expr) → P c.what → P a.what → P b.what → P (X.Conditional c a b)

module _ (P : ExprKind → Type 0) where
  abbrev Known : Type 0
  Known = (e : ExprKind) × P e

  abbrev expr_of : Placed Known → Expr
  expr_of e = placed e.at e.what.0

  abbrev field_of : Field (Placed Known) → Field Expr
  field_of f = record { name = f.name; value = expr_of f.value }

  all_exprs : (es : List (Placed Known)) → AllByRecursion (OfExpr P) (map expr_of es)
  all_exprs [] = tt
  all_exprs (e ∷ es) = (e.what.1, all_exprs es)

  all_entries : (es : List (Placed Known × Placed Known)) → AllByRecursion (OfEntry P) (map (λ e. (expr_of e.0, expr_of e.1)) es)
  all_entries [] = tt
  all_entries (e ∷ es) = ((e.0.what.1, e.1.what.1), all_entries es)

  all_fields : (fs : List (Field (Placed Known))) → AllByRecursion (OfField P) (map field_of fs)
  all_fields [] = tt
  all_fields (f ∷ fs) = (f.value.what.1, all_fields fs)

  -- for a function that keeps members and maps the expression of an index
  of_step : (g : Step (Placed Known) → Step Expr) → ((m : Placed (List ℕ)) → N.Member m ≡ g (N.Member m)) → ((e : Placed Known) → N.Index (expr_of e) ≡ g (N.Index e))
      → (s : Step (Placed Known)) → OfStep P (g s)
  of_step g members indices (N.Member m) = subst (OfStep P) (members m) tt
  of_step g members indices (N.Index e) = subst (OfStep P) (indices e) e.what.1

  all_steps : (g : Step (Placed Known) → Step Expr) → ((m : Placed (List ℕ)) → N.Member m ≡ g (N.Member m)) → ((e : Placed Known) → N.Index (expr_of e) ≡ g (N.Index e))
      → (ss : List (Step (Placed Known))) → AllByRecursion (OfStep P) (map g ss)
  all_steps g members indices [] = tt
  all_steps g members indices (s ∷ ss) = (of_step g members indices s, all_steps g members indices ss)

module _ (P : ExprKind → Type 0) (s : ExprSteps P) where
  expr_step : (y : ExprKind-F ((e : ExprKind) × P e)) → P (roll-ExprKind (map-ExprKind ((e : ExprKind) × P e) ExprKind (λ e. e.0) y))
  expr_step (O.Name n) = subst P (sym (X.rolls-Name n)) (s.name n)
  expr_step (O.Dollar n) = subst P (sym (X.rolls-Dollar n)) (s.dollar n)
  expr_step (O.Number n) = subst P (sym (X.rolls-Number n)) (s.number n)
  expr_step (O.Text bs) = subst P (sym (X.rolls-Text bs)) (s.text bs)
  expr_step (O.Bool b) = subst P (sym (X.rolls-Bool b)) (s.bool b)
  expr_step (O.Group e) = subst P (sym (X.rolls-Group (expr_of P e))) (s.group (expr_of P e) e.what.1)
  expr_step (O.List es) = subst P (sym (X.rolls-List (map (expr_of P) es))) (s.list (map (expr_of P) es) (all_exprs P es))
  expr_step (O.Map es) =
      let both : List (Expr × Expr) = map (λ e. (expr_of P e.0, expr_of P e.1)) es in
      subst P (sym (X.rolls-Map both)) (s.map_of both (all_entries P es))
  expr_step (O.Tuple fs) = subst P (sym (X.rolls-Tuple (map (field_of P) fs))) (s.tuple (map (field_of P) fs) (all_fields P fs))
  expr_step (O.Call n es) = subst P (sym (X.rolls-Call n (map (expr_of P) es))) (s.call n (map (expr_of P) es) (all_exprs P es))
  expr_step (O.Select e ss) =
      subst P (sym (X.rolls-Select (expr_of P e) _)) (s.select (expr_of P e) _ e.what.1 (all_steps P _ (λ m. refl) (λ x. refl) ss))
  expr_step (O.Unary ps e) = subst P (sym (X.rolls-Unary ps (expr_of P e))) (s.unary ps (expr_of P e) e.what.1)
  expr_step (O.Binary op l r) = subst P (sym (X.rolls-Binary op (expr_of P l) (expr_of P r))) (s.binary op (expr_of P l) (expr_of P r) l.what.1 r.what.1)
  expr_step (O.Conditional c a b) =
      subst P (sym (X.rolls-Conditional (expr_of P c) (expr_of P a) (expr_of P b)))
      (s.conditional (expr_of P c) (expr_of P a) (expr_of P b) c.what.1 a.what.1 b.what.1)

  pub expr_ind : (e : ExprKind) → P e
  expr_ind = ind-ExprKind P (λ x y is. subst (λ z. P (roll-ExprKind z)) is (expr_step y))
