-- Words for parts of the rules of ParameterTyping, each for itself: roles in a list, words, and attributes.
use Rattle.std.specs.Prelude.{ℕ, Bool, true, false, ◌&&◌, List, [], ◌∷◌, map, filter, codes, Option, Ok}
use Rattle.std.specs.List.{find}
use Rattle.std.specs.Option.{option_map, option_map_or}
use Rattle.std.specs.Str.{bytes_eq}
use Rattle.spl_value.specs.declared.types.Named.{Named}
use Rattle.spl_value.specs.declared.types.SplType.{SplType}
use Rattle.spl_value.specs.declared.types.SplType.TheOpen.{SplType-F}
use Rattle.spl_value.specs.Key.{level_is_key_type}
use Rattle.spl_tree.specs.declared.expression.ExprKind.TheViews.{out-ExprKind}
use Rattle.spl_tree.specs.Trees.{Expr}
use Rattle.language_model.specs.declared.checked.ParameterValue.{ParameterValue}
use Rattle.language_model.specs.declared.checked.ParameterValue.TheVariants as V
use Rattle.language_model.specs.declared.checked.Position.TheVariants as P
use Rattle.language_model.specs.declared.kinds.Role.{Role}
use Rattle.language_model.specs.declared.scope.Port.{Port}
use Rattle.language_model.specs.Kinds.{ParameterRule, is_had, is_needed}
use Rattle.language_model.specs.Typing.{Found, looked_up, mismatch}
use Rattle.language_model.specs.ParameterTyping.{keys_typing, level_word}
use Rattle.language_model.specs.Policies.{of_first}

-- what the values of the parameter of the name are, where it is one of these
abbrev pub role_among : List ParameterRule → Bool → List ℕ → Option Role
role_among parameters partitioned name = option_map (λ p. p.role) (find (λ p. is_had partitioned p.presence && bytes_eq p.name name) parameters)

-- those that are needed
abbrev pub needed_among : List ParameterRule → Bool → List (List ℕ)
needed_among parameters partitioned = map (λ p. p.name) (filter (λ p. is_needed partitioned p.presence) parameters)

-- a word, which is a name in the tree
abbrev pub word_of : Expr → Option (List ℕ)
word_of e = level_word (out-ExprKind e.what)

abbrev pub format_of : ℕ → Option (List ℕ) → Found ParameterValue
format_of at word = option_map_or (looked_up (mismatch at) ((codes "csv", Ok V.Format) ∷ [])) word (mismatch at)

abbrev pub parsing_of : ℕ → Option (List ℕ) → Found ParameterValue
parsing_of at word =
    option_map_or (looked_up (mismatch at) ((codes "strict", Ok (V.Strict true)) ∷ (codes "permissive", Ok (V.Strict false)) ∷ [])) word (mismatch at)

abbrev pub position_of : ℕ → Option (List ℕ) → Found ParameterValue
position_of at word =
    option_map_or (looked_up (mismatch at) ((codes "before", Ok (V.Position P.Before)) ∷ (codes "after", Ok (V.Position P.After)) ∷ [])) word (mismatch at)

-- an attribute by whose values tuples are distinguished: an integer, a boolean or a text
abbrev pub level_key : SplType-F SplType → Bool
level_key kind = level_is_key_type kind

-- one or more
abbrev pub some_keys : ℕ → List (Named SplType) → List Expr → Found (List ℕ)
some_keys at schema values = of_first (mismatch at) (λ e es. keys_typing schema [] (e ∷ es)) values

-- the attributes of the first port
abbrev pub first_schema : List Port → List (Named SplType)
first_schema ports = of_first [] (λ q others. q.schema) ports
