-- The functions that calls are of.
use Rattle.std.specs.Prelude.{ℕ, List, length, ◌==◌, if◌then◌else◌, Option, Some, None, Ok}
use Rattle.spl_tree.specs.declared.expression.Placed.{Placed}
use Rattle.language_model.specs.declared.scope.Scope.{Scope}
use Rattle.language_model.specs.declared.scope.Signature.{Signature}
use Rattle.language_model.specs.Scopes.{At, unresolved_of}
use Rattle.language_model.specs.Typing.{Found, Part, not_callable, wrong_call}

-- a function that has as many parameters as there are arguments
abbrev pub function_found : ℕ → Scope → List ℕ → List (Placed Part) → Option (At Signature) → Found (At Signature)
function_found at scope name es None = not_callable at name (unresolved_of scope name)
function_found at scope name es (Some f) = if length es == length f.what.parameters then Ok f else wrong_call at
