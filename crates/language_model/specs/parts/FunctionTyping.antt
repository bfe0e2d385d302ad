-- Words for parts of the rules of a unit's functions, for what works them out step by step.
use Rattle.std.specs.Prelude.{ℕ, List, map, Option, Some, None, Ok}
use Rattle.std.specs.Option.{option_map, option_map_or}
use Rattle.std.specs.Result.{result_err, result_ok}
use Rattle.spl_value.specs.declared.types.Named.{Named}
use Rattle.spl_value.specs.declared.types.SplType.{SplType}
use Rattle.spl_tree.specs.Trees.{TypeExpr}
use Rattle.language_model.specs.declared.scope.Signature.{Signature}
use Rattle.language_model.specs.declared.scope.Unresolved.{Unresolved}
use Rattle.language_model.specs.FunctionTyping.{FunctionTypes, signature}
use Rattle.language_model.specs.TypeNames.{Types, type_meant}
use Rattle.language_model.specs.Typing.{Found, after}

abbrev pub result_type : Types → Option TypeExpr → Found (Option SplType)
result_type types result = option_map_or (λ t. after (type_meant types t) (λ found. Ok (Some found))) result (Ok None)

abbrev pub kinds : List (Named SplType) → List SplType
kinds schema = map (λ a. a.kind) schema

abbrev pub as_signature : List ℕ → Found FunctionTypes → Option Signature
as_signature name found = option_map (signature name) (result_ok found)

abbrev pub as_unresolved : List ℕ → Found FunctionTypes → Option Unresolved
as_unresolved name found = option_map (λ refusal. record { name = name; refusal = refusal }) (result_err found)
