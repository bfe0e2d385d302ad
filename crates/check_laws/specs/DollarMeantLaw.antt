-- What a `$` parameter of a composite is typed as, and the expression that it means.
use Rattle.std.specs.Prelude.{◌≡◌, ℕ, List, Option, Some, Ok}
use Rattle.spl_value.specs.declared.types.SplType.{SplType}
use Rattle.spl_tree.specs.declared.expression.ExprKind.TheOpen as X
use Rattle.spl_tree.specs.declared.expression.ExprKind.TheViews.{out-ExprKind}
use Rattle.spl_tree.specs.declared.graph.Graph.{Graph}
use Rattle.spl_tree.specs.declared.unit.Definition.{Definition}
use Rattle.spl_tree.specs.Trees.{Expr}
use Rattle.language_model.specs.declared.scope.Dollar.{Dollar}
use Rattle.language_model.specs.declared.scope.Typed.{Typed}
use Rattle.language_model.specs.DollarTargets.{expression_meant}
use Rattle.language_model.specs.Flat.{IsFlat}
use Rattle.language_model.specs.Parameters.{constant_scope, dollar_tables, table_at}
use Rattle.language_model.specs.Scopes.{dollar_of}
use Rattle.language_model.specs.Typing.{typing}

-- an expression is found that is no `$` parameter, and that has this type and code where some `$` parameters are given
pub record IsTypedAs (found : Option Expr) (t : Typed) : Type 0 where
  pub expression : Expr
  pub there : found ≡ Some expression
  pub is_no_dollar : (name : List ℕ) → out-ExprKind expression.what ≡ X.Dollar name → ⊥
  pub given : List Dollar
  pub wanted : SplType
  pub typed : typing (constant_scope given) expression (Some wanted) ≡ Ok t

-- What files and numbers take for the value of a `$` parameter, and what its type and code are of, is the same expression:
-- where a parameter has a type and a code in an expansion of a unit's graph, the expression that it means there has them.
abbrev pub DollarMeantLaw : Type 0
DollarMeantLaw = (unit : List Definition) (names : List (List ℕ)) (g : Graph) (number : ℕ) (name : List ℕ) (e : Expr) (t : Typed)
    → IsFlat unit names (Ok g) → out-ExprKind e.what ≡ X.Dollar name
    → dollar_of (table_at (dollar_tables unit g.expansions) number) name ≡ Some (Ok t)
    → IsTypedAs (expression_meant unit g.expansions number e) t
