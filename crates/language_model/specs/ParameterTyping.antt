-- The parameters of an operator with their values, in the order of the text, or the first refusal.
use Rattle.std.specs.Prelude.{ℕ, ◌==◌, Bool, true, false, ◌&&◌, List, [], ◌∷◌, map, filter, if◌then◌else◌, codes, Option, Some, None, Ok}
use Rattle.std.specs.List.{find, list_any}
use Rattle.std.specs.Option.{option_map, option_map_or}
use Rattle.std.specs.Str.{bytes_eq}
use Rattle.spl_value.specs.declared.types.Named.{Named}
use Rattle.spl_value.specs.declared.types.SplType.{SplType}
use Rattle.spl_value.specs.declared.types.SplType.TheVariants as S
use Rattle.spl_value.specs.declared.types.SplType.TheViews.{out-SplType}
use Rattle.spl_value.specs.Key.{level_is_key_type}
use Rattle.spl_tree.specs.declared.expression.ExprKind.{ExprKind}
use Rattle.spl_tree.specs.declared.expression.ExprKind.TheOpen as X
use Rattle.spl_tree.specs.declared.expression.ExprKind.TheOpen.{ExprKind-F}
use Rattle.spl_tree.specs.declared.expression.ExprKind.TheViews.{out-ExprKind}
use Rattle.spl_tree.specs.declared.graph.OpKind.{OpKind}
use Rattle.spl_tree.specs.declared.unit.Parameter.{Parameter}
use Rattle.spl_tree.specs.Trees.{Expr}
use Rattle.language_model.specs.declared.checked.Given.{Given}
use Rattle.language_model.specs.declared.checked.ParameterValue.{ParameterValue}
use Rattle.language_model.specs.declared.checked.ParameterValue.TheVariants as V
use Rattle.language_model.specs.declared.checked.Position.TheVariants as P
use Rattle.language_model.specs.declared.kinds.Role.{Role}
use Rattle.language_model.specs.declared.kinds.Role.TheVariants as R
use Rattle.language_model.specs.declared.scope.CheckError.TheVariants as E
use Rattle.language_model.specs.declared.scope.Scope.{Scope}
use Rattle.language_model.specs.Kinds.{is_had, is_needed, rules_of}
use Rattle.language_model.specs.Literals.{file_typing}
use Rattle.language_model.specs.Policies.{of_first}
use Rattle.language_model.specs.Scopes.{attribute_of}
use Rattle.language_model.specs.Typing.{Found, after, level_index, looked_up, mismatch, refused, typing, unknown}

-- ---- which parameters an operator has

-- what the values of the parameter of the name are, where the operator has it
abbrev pub role_of : OpKind → Bool → List ℕ → Option Role
role_of kind partitioned name =
    option_map (λ p. p.role) (find (λ p. is_had partitioned p.presence
    && bytes_eq p.name name) (rules_of kind).parameters)

-- those that are needed
abbrev pub needed : OpKind → Bool → List (List ℕ)
needed kind partitioned = map (λ p. p.name) (filter (λ p. is_needed partitioned p.presence) (rules_of kind).parameters)

-- ---- values

-- where the expressions of an operator stand: what they may name, and what their `$` parameters mean
pub record Site : Type 0 where
  pub scope : Scope
  pub follow : Expr → Option Expr

-- a word, which is a name in the tree
abbrev pub level_word : ExprKind-F ExprKind → Option (List ℕ)
level_word (X.Name name) = Some name
level_word _ = None

-- one of the words of a table, which gives what each means
abbrev pub word_typing : List (List ℕ × Found ParameterValue) → Expr → Found ParameterValue
word_typing table e = option_map_or (looked_up (mismatch e.at) table) (level_word (out-ExprKind e.what)) (mismatch e.at)

-- the place of an attribute by whose values tuples are distinguished, an integer, a boolean or a text, that isn't named
-- before
abbrev pub key_of : List (Named SplType) → List ℕ → ℕ → Option (List ℕ) → Found ℕ
key_of schema before at word =
    option_map_or (λ name. option_map_or (λ a.
    if level_is_key_type (out-SplType a.what.kind)
    then (if list_any (λ n. n == a.place) before then mismatch at else Ok a.place) else mismatch at)
    (attribute_of schema name) (unknown at name)) word (mismatch at)

-- bare names of attributes, each once
abbrev pub keys_typing : List (Named SplType) → List ℕ → List Expr → Found (List ℕ)
keys_typing schema before [] = Ok []
keys_typing schema before (e ∷ es) =
    after (key_of schema before e.at (level_word (out-ExprKind e.what))) (λ place.
    after (keys_typing schema (place ∷ before) es) (λ rest. Ok (place ∷ rest)))

-- the one value of a parameter; a second one is refused after it
abbrev pub one_value : ℕ → (Expr → Found ParameterValue) → List Expr → Found ParameterValue
one_value at value [] = mismatch at
one_value at value (e ∷ []) = value e
one_value at value (e ∷ d ∷ es) = after (value e) (λ x. mismatch d.at)

abbrev pub single_value : Site → Role → Expr → Found ParameterValue
single_value site R.File e = after (file_typing site.scope site.follow e) (λ bytes. Ok (V.File bytes))
single_value site R.Format e = word_typing ((codes "csv", Ok V.Format) ∷ []) e
single_value site R.Parsing e =
    word_typing ((codes "strict", Ok (V.Strict true)) ∷ (codes "permissive", Ok (V.Strict false)) ∷ []) e
single_value site R.Position e =
    word_typing ((codes "before", Ok (V.Position P.Before)) ∷ (codes "after", Ok (V.Position P.After)) ∷ []) e
single_value site R.Condition e = after (typing site.scope e (Some S.Bool)) (λ t. Ok (V.Code t.code))
single_value site R.Index e =
    after (typing site.scope e None) (λ t. after (level_index e.at t.code (out-SplType t.kind)) (λ code.
    Ok (V.Code code)))
single_value site R.Attributes e = mismatch e.at

-- one attribute or more of the first port, or one value
abbrev pub value_typing : Site → Parameter → Role → Found ParameterValue
value_typing site p R.Attributes =
    after (of_first (mismatch p.name.at) (λ e es. keys_typing
    (of_first [] (λ q others. q.schema) site.scope.ports) [] (e ∷ es)) p.values) (λ places.
    Ok (V.Places places))
value_typing site p role = one_value p.name.at (single_value site role) p.values

-- ---- a clause

abbrev pub extra : {A : Type 0} → Parameter → Found A
extra p = refused E.ExtraParameter p.name.at (Some p.name.what)

-- one that the operator has, and that wasn't given before
abbrev pub parameter_typing : Site → List (List ℕ) → Parameter → Option Role → Found Given
parameter_typing site before p o =
    option_map_or (λ role. if list_any (λ name. bytes_eq name p.name.what) before then extra p
    else after (value_typing site p role) (λ value. Ok (record { name = p.name.what; value = value }))) o (extra p)

abbrev pub parameters_typing : Site → OpKind → Bool → List (List ℕ) → List Parameter → Found (List Given)
parameters_typing site kind partitioned before [] = Ok []
parameters_typing site kind partitioned before (p ∷ ps) =
    after (parameter_typing site before p (role_of kind partitioned p.name.what)) (λ given.
    after (parameters_typing site kind partitioned (p.name.what ∷ before) ps) (λ rest. Ok (given ∷ rest)))

abbrev pub value_given : List Given → List ℕ → Option ParameterValue
value_given [] name = None
value_given (g ∷ gs) name = if bytes_eq g.name name then Some g.value else value_given gs name

-- the first that isn't given of those that are needed
abbrev pub missing : List Given → List (List ℕ) → Option (List ℕ)
missing given [] = None
missing given (name ∷ names) = if list_any (λ g. bytes_eq g.name name) given then missing given names else Some name
