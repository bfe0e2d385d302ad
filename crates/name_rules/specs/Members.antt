-- What a call answers on members of ports, against the definition.
use Rattle.std.specs.Prelude.{◌≡◌, ℕ, List, ◌∷◌, Option, Some, None}
use Rattle.std.specs.Borrow.{Bor}
use Rattle.spl_tree.specs.Trees.{Expr}
use Rattle.spl_tree.specs.declared.expression.Placed.{Placed}
use Rattle.spl_tree.specs.declared.expression.Step.{Step}
use Rattle.spl_tree.specs.declared.expression.Step.TheVariants as N
use Rattle.language_model.specs.declared.scope.Port.{Port}
use Rattle.language_model.specs.declared.scope.Scope.{Scope}
use Rattle.language_model.specs.declared.scope.Typed.{Typed}
use Rattle.language_model.specs.Readings.{name_of}
use Rattle.language_model.specs.Scopes.{attribute_of}
use Rattle.language_model.specs.Typing.{Found, after, typing, select_typed}
use Rattle.language_model.specs.parts.Typing.{of_base, port_attribute}
use Rattle.language_model.specs.TypingLaws.{parted, step_parts}

-- what is taken of an expression in turn
abbrev pub of_steps : Scope → Expr → List (Step Expr) → Found Typed
of_steps scope base steps = of_base (name_of base.what) (parted base) scope (step_parts steps)

-- the first step is a member of a port that is named, and what it gives is that attribute; else what is taken is taken of
-- the expression
abbrev pub MemberOfPort : Scope → Expr → List (Step Expr) → Option (ℕ × Bor Port × Bor (Placed (List ℕ)) × Bor (List (Step Expr))) → Type 0
MemberOfPort scope base steps None =
    of_steps scope base steps ≡ after (typing scope base None) (λ x. select_typed base.at scope x (step_parts steps))
MemberOfPort scope base steps (Some p) =
    (of_steps scope base steps
    ≡ after (port_attribute p.0 p.2.now.at p.2.now.what (attribute_of p.1.now.schema p.2.now.what)) (λ x. select_typed base.at scope x (step_parts p.3.now)))
    × (steps ≡ N.Member p.2.now ∷ p.3.now)
