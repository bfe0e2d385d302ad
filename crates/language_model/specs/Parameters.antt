-- What the `$` parameters of composites mean in each expansion: an argument, which is typed where the composite is
-- invoked, or else the default, under the type of the parameter.
use Rattle.std.specs.Prelude.{ℕ, zero, suc, ◌==◌, Bool, true, false, ◌&&◌, not, List, [], ◌∷◌, ◌++◌, filter_map, length, if◌then◌else◌, Option, Some, is_some, slice_get}
use Rattle.std.specs.List.{list_all}
use Rattle.std.specs.Option.{option_map, option_map_or}
use Rattle.std.specs.Str.{bytes_eq}
use Rattle.spl_value.specs.declared.types.SplType.{SplType}
use Rattle.spl_tree.specs.declared.expression.ExprKind.TheOpen as X
use Rattle.spl_tree.specs.declared.expression.ExprKind.TheOpen.{ExprKind-F}
use Rattle.spl_tree.specs.declared.expression.ExprKind.TheFolds.{fold-ExprKind}
use Rattle.spl_tree.specs.declared.graph.Expansion.{Expansion}
use Rattle.spl_tree.specs.declared.unit.CompositeParameter.{CompositeParameter}
use Rattle.spl_tree.specs.declared.unit.Definition.{Definition}
use Rattle.spl_tree.specs.declared.unit.Parameter.{Parameter}
use Rattle.spl_tree.specs.Trees.{Expr}
use Rattle.language_model.specs.declared.scope.Dollar.{Dollar}
use Rattle.language_model.specs.declared.scope.Scope.{Scope}
use Rattle.language_model.specs.declared.scope.Typed.{Typed}
use Rattle.language_model.specs.DollarLaws.{dollars_in}
use Rattle.language_model.specs.FitLaws.{no_names}
use Rattle.language_model.specs.Leading.{leads_back}
use Rattle.language_model.specs.Scopes.{first_from}
use Rattle.language_model.specs.DollarTargets.{arguments_of, composite_of, value_named}
use Rattle.language_model.specs.TypeNames.{Types, composite_types, type_meant}
use Rattle.language_model.specs.Typing.{Found, after, mismatch, typing, unknown}

-- ---- what may be the value of a parameter

-- literals, operators, casts and `$` parameters: no name, call, member or element
abbrev pub level_constant : ExprKind-F Bool → Bool
level_constant (X.Name name) = false
level_constant (X.Call name es) = false
level_constant (X.Select base steps) = false
level_constant (X.Group e) = e.what
level_constant (X.List es) = list_all (λ e. e.what) es
level_constant (X.Map es) = list_all (λ e. e.0.what && e.1.what) es
level_constant (X.Tuple fs) = list_all (λ f. f.value.what) fs
level_constant (X.Unary ps e) = e.what
level_constant (X.Binary op left right) = left.what && right.what
level_constant (X.Conditional c a b) = c.what && a.what && b.what
level_constant _ = true

-- where these `$` parameters alone can be named
abbrev pub constant_scope : List Dollar → Scope
constant_scope given = record no_names { dollars = given }

-- an expression as the value of a parameter of the type
abbrev pub constant_typing : List Dollar → Expr → SplType → Found Typed
constant_typing given e t =
    if fold-ExprKind Bool level_constant e.what then typing (constant_scope given) e (Some t) else mismatch e.at

-- ---- the parameters of one expansion

-- the value of a parameter is its argument, which may name the outer parameters. Without one it is the default, which
-- may name those of the composite itself, and without both the parameter is unknown
abbrev pub parameter_typing : Types → List Dollar → List Dollar → List Parameter → CompositeParameter → Found Typed
parameter_typing types outer own arguments p =
    after (type_meant types p.kind) (λ t. option_map_or
    (λ argument. constant_typing outer argument t) (value_named arguments p.name.what)
    (option_map_or (λ e. constant_typing own e t) p.default (unknown p.name.at p.name.what)))

-- the place of the parameter of the name
abbrev pub parameter_place : List CompositeParameter → List ℕ → Option ℕ
parameter_place parameters name = option_map (λ p. p.place) (first_from (λ p. bytes_eq p.name.what name) 0 parameters)

-- the places of the parameters that stand in the default of the one at a place, where it has no argument
abbrev pub parameter_leads : List CompositeParameter → List Parameter → ℕ → List ℕ
parameter_leads parameters arguments place = option_map_or (λ p. if is_some (value_named arguments p.name.what) then []
    else option_map_or (λ e. filter_map (parameter_place parameters) (dollars_in e)) p.default [])
    (slice_get parameters place) []

-- a parameter has a meaning where it is the first of its name and its default doesn't lead back to it
abbrev pub has_meaning : List CompositeParameter → List Parameter → ℕ → CompositeParameter → Bool
has_meaning parameters arguments place p =
    option_map_or (λ first. first == place) (parameter_place parameters p.name.what) false
    && not (leads_back (length parameters) (parameter_leads parameters arguments) place)

-- those from a place on that pass, with what is found for each
abbrev pub own_from : (ℕ → CompositeParameter → Bool) → (CompositeParameter → Found Typed) → ℕ → List CompositeParameter
    → List Dollar
own_from passes found place [] = []
own_from passes found place (p ∷ ps) =
    (if passes place p then record { name = p.name.what; found = found p } ∷ [] else [])
    ++ own_from passes found (suc place) ps

-- the parameters of a composite that is invoked with these arguments, where there are those of the outer one. One that
-- leads back to itself by its default has no meaning, also where another has its name. Defaults are followed at most
-- this number of times
abbrev pub own_within : ℕ → Types → List Dollar → List Parameter → List CompositeParameter → List Dollar
own_within zero types outer arguments parameters = []
own_within (suc count) types outer arguments parameters =
    own_from (has_meaning parameters arguments) (parameter_typing types outer
    (own_within count types outer arguments parameters) arguments) 0 parameters

-- ---- the parameters of all expansions

abbrev pub Tables : Type 0
Tables = List (List Dollar)

abbrev pub table_at : Tables → ℕ → List Dollar
table_at tables number = option_map_or (λ table. table) (slice_get tables number) []

-- those of an expansion, after those of the expansions before it. A row of defaults that lead on is no longer than
-- there are parameters
abbrev pub expansion_dollars : List Definition → List Expansion → Tables → Expansion → List Dollar
expansion_dollars unit expansions before x =
    option_map_or (λ c. own_within (length c.parameters) (composite_types unit c)
    (option_map_or (λ s. table_at before s.expansion) x.site [])
    (arguments_of unit expansions x) c.parameters) (composite_of unit x) []

abbrev pub tables_from : List Definition → List Expansion → Tables → List Expansion → Tables
tables_from unit expansions before [] = []
tables_from unit expansions before (x ∷ xs) =
    expansion_dollars unit expansions before x ∷ tables_from unit expansions
    (before ++ expansion_dollars unit expansions before x ∷ []) xs

-- an expansion comes after the one in which it is invoked
abbrev pub dollar_tables : List Definition → List Expansion → Tables
dollar_tables unit expansions = tables_from unit expansions [] expansions
