-- Whether an expression may be a first value of the state, by its parts: an equation for each form.
use Rattle.std.proofs.Common.{◌≡◌, ◌∙◌, ℕ, Bool, true, false, List, [], ◌∷◌, refl, ap}
use Rattle.std.specs.Prelude.{◌&&◌}
use Rattle.std.specs.List.{list_all}
use Rattle.spl_tree.specs.declared.token.Number.{Number}
use Rattle.spl_tree.specs.declared.expression.Field.{Field}
use Rattle.spl_tree.specs.declared.expression.Step.{Step}
use Rattle.spl_tree.specs.declared.expression.BinaryOperator.{BinaryOperator}
use Rattle.spl_tree.specs.declared.expression.ExprKind.{ExprKind}
use Rattle.spl_tree.specs.declared.expression.ExprKind.TheVariants as V
use Rattle.spl_tree.specs.declared.expression.ExprKind.TheOpen as X
use Rattle.spl_tree.specs.declared.expression.ExprKind.TheOpen.{ExprKind-F}
use Rattle.spl_tree.specs.declared.expression.ExprKind.TheViews.{out-ExprKind}
use Rattle.spl_tree.specs.declared.expression.ExprKind.TheFolds.{fold-ExprKind, fold_out-ExprKind, map-ExprKind}
use Rattle.spl_tree.specs.Trees.{Expr, Prefix}
use Rattle.language_model.specs.declared.scope.Dollar.{Dollar}
use Rattle.language_model.specs.LogicTyping.{level_state, plain_parameter}
use Rattle.language_model.specs.parts.LogicTyping.{is_minus_prefix, is_state_value}
use Rattle.language_model.specs.Scopes.{dollar_of}

abbrev pub passes : List Dollar → ExprKind → Bool
passes given = fold-ExprKind Bool (level_state given)

at_level : (given : List Dollar) (k : ExprKind) (x : ExprKind-F ExprKind) → out-ExprKind k ≡ x → passes given k ≡ level_state given (map-ExprKind ExprKind Bool (passes given) x)
at_level given k x e = fold_out-ExprKind Bool (level_state given) k ∙ ap (λ y. level_state given (map-ExprKind ExprKind Bool (passes given) y)) e

pub of_name : (given : List Dollar) (name : List ℕ) → passes given (V.Name name) ≡ false
of_name given name = at_level given (V.Name name) (X.Name name) (V.outs-Name name)

pub of_dollar : (given : List Dollar) (name : List ℕ) → passes given (V.Dollar name) ≡ plain_parameter (dollar_of given name)
of_dollar given name = at_level given (V.Dollar name) (X.Dollar name) (V.outs-Dollar name)

pub of_number : (given : List Dollar) (n : Number) → passes given (V.Number n) ≡ true
of_number given n = at_level given (V.Number n) (X.Number n) (V.outs-Number n)

pub of_text : (given : List Dollar) (bytes : List ℕ) → passes given (V.Text bytes) ≡ true
of_text given bytes = at_level given (V.Text bytes) (X.Text bytes) (V.outs-Text bytes)

pub of_bool : (given : List Dollar) (b : Bool) → passes given (V.Bool b) ≡ true
of_bool given b = at_level given (V.Bool b) (X.Bool b) (V.outs-Bool b)

pub of_group : (given : List Dollar) (e : Expr) → passes given (V.Group e) ≡ is_state_value given e
of_group given e = at_level given (V.Group e) (X.Group e) (V.outs-Group e)

pub of_list : (given : List Dollar) (es : List Expr) → passes given (V.List es) ≡ list_all (is_state_value given) es
of_list given es = at_level given (V.List es) (X.List es) (V.outs-List es) ∙ along es
  where
    along : (es : List Expr) → level_state given (map-ExprKind ExprKind Bool (passes given) (X.List es)) ≡ list_all (is_state_value given) es
    along [] = refl
    along (e ∷ es) = ap (λ b. is_state_value given e && b) (along es)

pub of_map : (given : List Dollar) (es : List (Expr × Expr)) → passes given (V.Map es) ≡ list_all (λ e. is_state_value given e.0 && is_state_value given e.1) es
of_map given es = at_level given (V.Map es) (X.Map es) (V.outs-Map es) ∙ along es
  where
    along : (es : List (Expr × Expr)) → level_state given (map-ExprKind ExprKind Bool (passes given) (X.Map es)) ≡ list_all (λ e. is_state_value given e.0 && is_state_value given e.1) es
    along [] = refl
    along (e ∷ es) = ap (λ b. (is_state_value given e.0 && is_state_value given e.1) && b) (along es)

pub of_tuple : (given : List Dollar) (fs : List (Field Expr)) → passes given (V.Tuple fs) ≡ list_all (λ f. is_state_value given f.value) fs
of_tuple given fs = at_level given (V.Tuple fs) (X.Tuple fs) (V.outs-Tuple fs) ∙ along fs
  where
    along : (fs : List (Field Expr)) → level_state given (map-ExprKind ExprKind Bool (passes given) (X.Tuple fs)) ≡ list_all (λ f. is_state_value given f.value) fs
    along [] = refl
    along (f ∷ fs) = ap (λ b. is_state_value given f.value && b) (along fs)

pub of_call : (given : List Dollar) (name : List ℕ) (es : List Expr) → passes given (V.Call name es) ≡ false
of_call given name es = at_level given (V.Call name es) (X.Call name es) (V.outs-Call name es)

pub of_select : (given : List Dollar) (base : Expr) (ss : List (Step Expr)) → passes given (V.Select base ss) ≡ false
of_select given base ss = at_level given (V.Select base ss) (X.Select base ss) (V.outs-Select base ss)

pub of_unary : (given : List Dollar) (ps : List Prefix) (e : Expr) → passes given (V.Unary ps e) ≡ (list_all is_minus_prefix ps && is_state_value given e)
of_unary given ps e = at_level given (V.Unary ps e) (X.Unary ps e) (V.outs-Unary ps e)

pub of_binary : (given : List Dollar) (op : BinaryOperator) (l r : Expr) → passes given (V.Binary op l r) ≡ false
of_binary given op l r = at_level given (V.Binary op l r) (X.Binary op l r) (V.outs-Binary op l r)

pub of_conditional : (given : List Dollar) (c a b : Expr) → passes given (V.Conditional c a b) ≡ false
of_conditional given c a b = at_level given (V.Conditional c a b) (X.Conditional c a b) (V.outs-Conditional c a b)

pub ruleset state_value_laws =
    (of_name, of_dollar, of_number, of_text, of_bool, of_group, of_list, of_map, of_tuple, of_call, of_select, of_unary, of_binary, of_conditional)
