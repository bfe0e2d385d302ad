-- Whether an expression may be the value of a parameter, by its parts: an equation for each form.
use Rattle.std.proofs.Common.{◌≡◌, ◌∙◌, ℕ, Bool, true, false, List, [], ◌∷◌, refl, ap}
use Rattle.std.specs.Prelude.{◌&&◌}
use Rattle.std.specs.List.{list_all}
use Rattle.spl_tree.specs.declared.token.Number.{Number}
use Rattle.spl_tree.specs.declared.expression.Field.{Field}
use Rattle.spl_tree.specs.declared.expression.Step.{Step}
use Rattle.spl_tree.specs.declared.expression.BinaryOperator.{BinaryOperator}
use Rattle.spl_tree.specs.declared.expression.ExprKind.{ExprKind}
use Rattle.spl_tree.specs.declared.expression.ExprKind.TheVariants as V
use Rattle.spl_tree.specs.declared.expression.ExprKind.TheOpen as X
use Rattle.spl_tree.specs.declared.expression.ExprKind.TheOpen.{ExprKind-F}
use Rattle.spl_tree.specs.declared.expression.ExprKind.TheViews.{out-ExprKind}
use Rattle.spl_tree.specs.declared.expression.ExprKind.TheFolds.{fold-ExprKind, fold_out-ExprKind, map-ExprKind}
use Rattle.spl_tree.specs.Trees.{Expr, Prefix}
use Rattle.language_model.specs.Parameters.{level_constant}
use Rattle.language_model.specs.parts.Parameters.{is_constant}

abbrev pub constant : ExprKind → Bool
constant = fold-ExprKind Bool level_constant

at_level : (k : ExprKind) (x : ExprKind-F ExprKind) → out-ExprKind k ≡ x → constant k ≡ level_constant (map-ExprKind ExprKind Bool constant x)
at_level k x e = fold_out-ExprKind Bool level_constant k ∙ ap (λ y. level_constant (map-ExprKind ExprKind Bool constant y)) e

pub of_name : (name : List ℕ) → constant (V.Name name) ≡ false
of_name name = at_level (V.Name name) (X.Name name) (V.outs-Name name)

pub of_dollar : (name : List ℕ) → constant (V.Dollar name) ≡ true
of_dollar name = at_level (V.Dollar name) (X.Dollar name) (V.outs-Dollar name)

pub of_number : (n : Number) → constant (V.Number n) ≡ true
of_number n = at_level (V.Number n) (X.Number n) (V.outs-Number n)

pub of_text : (bytes : List ℕ) → constant (V.Text bytes) ≡ true
of_text bytes = at_level (V.Text bytes) (X.Text bytes) (V.outs-Text bytes)

pub of_bool : (b : Bool) → constant (V.Bool b) ≡ true
of_bool b = at_level (V.Bool b) (X.Bool b) (V.outs-Bool b)

pub of_group : (e : Expr) → constant (V.Group e) ≡ is_constant e
of_group e = at_level (V.Group e) (X.Group e) (V.outs-Group e)

pub of_list : (es : List Expr) → constant (V.List es) ≡ list_all is_constant es
of_list es = at_level (V.List es) (X.List es) (V.outs-List es) ∙ along es
  where
    along : (es : List Expr) → level_constant (map-ExprKind ExprKind Bool constant (X.List es)) ≡ list_all is_constant es
    along [] = refl
    along (e ∷ es) = ap (λ b. is_constant e && b) (along es)

pub of_map : (es : List (Expr × Expr)) → constant (V.Map es) ≡ list_all (λ e. is_constant e.0 && is_constant e.1) es
of_map es = at_level (V.Map es) (X.Map es) (V.outs-Map es) ∙ along es
  where
    along : (es : List (Expr × Expr)) → level_constant (map-ExprKind ExprKind Bool constant (X.Map es)) ≡ list_all (λ e. is_constant e.0 && is_constant e.1) es
    along [] = refl
    along (e ∷ es) = ap (λ b. (is_constant e.0 && is_constant e.1) && b) (along es)

pub of_tuple : (fs : List (Field Expr)) → constant (V.Tuple fs) ≡ list_all (λ f. is_constant f.value) fs
of_tuple fs = at_level (V.Tuple fs) (X.Tuple fs) (V.outs-Tuple fs) ∙ along fs
  where
    along : (fs : List (Field Expr)) → level_constant (map-ExprKind ExprKind Bool constant (X.Tuple fs)) ≡ list_all (λ f. is_constant f.value) fs
    along [] = refl
    along (f ∷ fs) = ap (λ b. is_constant f.value && b) (along fs)

pub of_call : (name : List ℕ) (es : List Expr) → constant (V.Call name es) ≡ false
of_call name es = at_level (V.Call name es) (X.Call name es) (V.outs-Call name es)

pub of_select : (base : Expr) (ss : List (Step Expr)) → constant (V.Select base ss) ≡ false
of_select base ss = at_level (V.Select base ss) (X.Select base ss) (V.outs-Select base ss)

pub of_unary : (ps : List Prefix) (e : Expr) → constant (V.Unary ps e) ≡ is_constant e
of_unary ps e = at_level (V.Unary ps e) (X.Unary ps e) (V.outs-Unary ps e)

pub of_binary : (op : BinaryOperator) (l r : Expr) → constant (V.Binary op l r) ≡ (is_constant l && is_constant r)
of_binary op l r = at_level (V.Binary op l r) (X.Binary op l r) (V.outs-Binary op l r)

pub of_conditional : (c a b : Expr) → constant (V.Conditional c a b) ≡ (is_constant c && is_constant a && is_constant b)
of_conditional c a b = at_level (V.Conditional c a b) (X.Conditional c a b) (V.outs-Conditional c a b)

pub ruleset constant_laws =
    (of_name, of_dollar, of_number, of_text, of_bool, of_group, of_list, of_map, of_tuple, of_call, of_select, of_unary, of_binary, of_conditional)
