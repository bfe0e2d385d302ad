-- Words for parts of the rules of OutputTyping that only proofs cite.
use Rattle.std.specs.Prelude.{ℕ, ◌==◌, Bool, List, if◌then◌else◌, Option, Ok}
use Rattle.std.specs.List.{list_any}
use Rattle.std.specs.Option.{option_map, option_map_or}
use Rattle.spl_value.specs.declared.types.Named.{Named}
use Rattle.spl_value.specs.declared.types.SplType.{SplType}
use Rattle.spl_tree.specs.Trees.{Expr}
use Rattle.language_model.specs.declared.checked.CollectorCall.{CollectorCall}
use Rattle.language_model.specs.declared.scope.Scope.{Scope}
use Rattle.language_model.specs.Scopes.{At}
use Rattle.language_model.specs.Typing.{Found, Wanted, mismatch, same_types}
use Rattle.language_model.specs.OutputTyping.{Assigned, Collecting, bad_output, called_typing}

abbrev pub wanted_of : Option (At (Named SplType)) → Wanted
wanted_of o = option_map (λ a. a.what.kind) o

-- the output has the attribute, and it isn't assigned before
abbrev pub as_attribute : {A : Type 0} → List ℕ → ℕ → A → Option (At (Named SplType)) → Found (ℕ × A)
as_attribute before at x o = option_map_or (λ a. if list_any (λ n. n == a.place) before then bad_output at else Ok (a.place, x)) o (bad_output at)

abbrev pub is_assigned : {A : Type 0} → ℕ → Assigned A → Bool
is_assigned place xs = list_any (λ x. x.0 == place) xs

abbrev pub gathered_by : Scope → ℕ → List Expr → Option Collecting → Found CollectorCall
gathered_by scope at es o = option_map_or (λ collecting. called_typing scope at collecting es) o (mismatch at)

abbrev pub place_in : ℕ → SplType → Option (At (Named SplType)) → Found ℕ
place_in at t o = option_map_or (λ b. if same_types b.what.kind t then Ok b.place else bad_output at) o (bad_output at)
