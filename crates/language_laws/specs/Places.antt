-- Where a refusal of an expression stands.
use Rattle.std.specs.Prelude.{◌≡◌, ◌⊎◌, ℕ, List, [], ◌∷◌, ◌++◌, map, flat_map, Some, Err}
use Rattle.spl_tree.specs.declared.expression.ExprKind.{ExprKind}
use Rattle.spl_tree.specs.declared.expression.ExprKind.TheOpen as X
use Rattle.spl_tree.specs.declared.expression.ExprKind.TheOpen.{ExprKind-F}
use Rattle.spl_tree.specs.declared.expression.ExprKind.TheFolds.{fold-ExprKind}
use Rattle.spl_tree.specs.declared.expression.Placed.{Placed}
use Rattle.spl_tree.specs.declared.expression.Step.{Step}
use Rattle.spl_tree.specs.declared.expression.Step.TheVariants as N
use Rattle.spl_tree.specs.Trees.{Expr}
use Rattle.language_model.specs.declared.scope.CheckRefusal.{CheckRefusal}
use Rattle.language_model.specs.declared.scope.Scope.{Scope}
use Rattle.language_model.specs.Scopes.{dollar_of, unresolved_of}
use Rattle.language_model.specs.Typing.{Wanted, typing}

-- ---- the places of an expression

-- a part: where it begins, and the places within it
abbrev pub Inside : Type 0
Inside = Placed (List ℕ)

abbrev pub inside : Inside → List ℕ
inside e = e.at ∷ e.what

abbrev pub step_places : Step Inside → List ℕ
step_places (N.Member m) = m.at ∷ []
step_places (N.Index e) = inside e

-- where its parts, its prefixes and the members that it takes begin
abbrev pub level_places : ExprKind-F (List ℕ) → List ℕ
level_places (X.Group e) = inside e
level_places (X.List es) = flat_map inside es
level_places (X.Map es) = flat_map (λ e. inside e.0 ++ inside e.1) es
level_places (X.Tuple fs) = flat_map (λ f. inside f.value) fs
level_places (X.Call name es) = flat_map inside es
level_places (X.Select e ss) = inside e ++ flat_map step_places ss
level_places (X.Unary ps e) = map (λ p. p.at) ps ++ inside e
level_places (X.Binary op l r) = inside l ++ inside r
level_places (X.Conditional c a b) = inside c ++ (inside a ++ inside b)
level_places _ = []

abbrev pub kind_places : ExprKind → List ℕ
kind_places = fold-ExprKind (List ℕ) level_places

abbrev pub places : Expr → List ℕ
places e = e.at ∷ kind_places e.what

abbrev pub IsAmong : List ℕ → ℕ → Type 0
IsAmong [] n = ⊥
IsAmong (m ∷ ms) n = (m ≡ n) ⊎ IsAmong ms n

-- ---- refusals

-- that of a `$` parameter, or that of the types of a function
pub data IsHandedOn (scope : Scope) (r : CheckRefusal) : Type 0 where
  of_dollar : (name : List ℕ) → dollar_of scope.dollars name ≡ Some (Err r) → IsHandedOn scope r
  of_function : (name : List ℕ) → unresolved_of scope name ≡ Some r → IsHandedOn scope r

-- the place of a refusal is one of the expression, unless it is that of a `$` parameter or of the types of a function
abbrev pub PlaceLaw : Type 0
PlaceLaw = (scope : Scope) (e : Expr) (wanted : Wanted) (r : CheckRefusal) → typing scope e wanted ≡ Err r → IsAmong (places e) r.at ⊎ IsHandedOn scope r
