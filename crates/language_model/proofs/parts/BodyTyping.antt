-- Words for parts of the rules of bodies, for proofs that go through them step by step.
use Rattle.std.specs.Prelude.{ℕ, Bool, List, if◌then◌else◌, Option, Ok, slice_get}
use Rattle.std.specs.Option.{option_map_or}
use Rattle.spl_value.specs.declared.types.Named.{Named}
use Rattle.spl_value.specs.declared.types.SplType.{SplType}
use Rattle.spl_tree.specs.declared.body.Statement.{Statement}
use Rattle.spl_tree.specs.declared.expression.Placed.{Placed}
use Rattle.spl_tree.specs.Trees.{Expr}
use Rattle.language_model.specs.declared.scope.Scope.{Scope}
use Rattle.language_model.specs.BodyTyping.{submitted}
use Rattle.language_model.specs.Scopes.{At}
use Rattle.language_model.specs.Typing.{Found, unknown, wrong_call}

-- inside a loop alone
abbrev pub way_out : ℕ → Bool → Statement → Found Statement
way_out at inside x = if inside then Ok x else wrong_call at

abbrev pub submitted_on : Scope → Expr → ℕ → Option (List (Named SplType)) → Placed (List ℕ) → Found Statement
submitted_on scope e port schema stream = option_map_or (λ s. submitted scope port s e) schema (unknown stream.at stream.what)

abbrev pub submitted_to : List (List (Named SplType)) → Scope → Expr → Option (At (List ℕ)) → Placed (List ℕ) → Found Statement
submitted_to schemas scope e port stream =
    option_map_or (λ p. submitted_on scope e p.place (slice_get schemas p.place) stream) port (unknown stream.at stream.what)
