-- Words for parts of the rules of ParameterTyping that only proofs cite.
use Rattle.std.specs.Prelude.{ℕ, ◌==◌, List, if◌then◌else◌, Option, Ok}
use Rattle.std.specs.List.{list_any}
use Rattle.std.specs.Option.{option_map_or}
use Rattle.spl_value.specs.declared.types.Named.{Named}
use Rattle.spl_value.specs.declared.types.SplType.{SplType}
use Rattle.spl_value.specs.declared.types.SplType.TheViews.{out-SplType}
use Rattle.spl_value.specs.Key.{level_is_key_type}
use Rattle.language_model.specs.Scopes.{At}
use Rattle.language_model.specs.Typing.{Found, mismatch, unknown}

abbrev pub key_at : ℕ → List ℕ → List ℕ → Option (At (Named SplType)) → Found ℕ
key_at at name before o =
    option_map_or (λ a.
    if level_is_key_type (out-SplType a.what.kind) then (if list_any (λ n. n == a.place) before then mismatch at else Ok a.place) else mismatch at)
    o (unknown at name)
