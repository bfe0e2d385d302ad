-- What `$` parameters do to the types of expressions: one that an expression doesn't mention changes nothing.
use Rattle.std.specs.Prelude.{◌≡◌, ℕ, List, ◌∷◌, ◌++◌, map}
use Rattle.std.specs.List.{Contains}
use Rattle.spl_tree.specs.Trees.{Expr}
use Rattle.language_model.specs.declared.scope.Dollar.{Dollar}
use Rattle.language_model.specs.declared.scope.Scope.{Scope}
use Rattle.language_model.specs.Mentions.{dollars, expr_mentions}
use Rattle.language_model.specs.Scopes.{dollar_of}
use Rattle.language_model.specs.Typing.{Wanted, typing}

abbrev pub with_dollars : Scope → List Dollar → Scope
with_dollars scope given = record scope { dollars = given }

-- the names of the `$` parameters that an expression mentions
abbrev pub dollars_in : Expr → List (List ℕ)
dollars_in e = map (λ n. n.what) (dollars (expr_mentions e))

-- an expression is what it is where each parameter that it mentions is the same
abbrev pub MentionedLaw : Type 0
MentionedLaw = (scope : Scope) (given others : List Dollar) (e : Expr) (wanted : Wanted)
    → ((name : List ℕ) → Contains (dollars_in e) name → dollar_of given name ≡ dollar_of others name)
    → typing (with_dollars scope given) e wanted ≡ typing (with_dollars scope others) e wanted

-- so one that it doesn't mention changes nothing
abbrev pub UnusedLaw : Type 0
UnusedLaw = (scope : Scope) (before after : List Dollar) (d : Dollar) (e : Expr) (wanted : Wanted) → (Contains (dollars_in e) d.name → ⊥)
    → typing (with_dollars scope (before ++ d ∷ after)) e wanted ≡ typing (with_dollars scope (before ++ after)) e wanted
