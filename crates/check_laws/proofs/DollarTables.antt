-- What the `$` parameters of each expansion mean fits, and names nothing.
use Rattle.std.specs.Prelude.{◌≡◌, ℕ, zero, suc, Bool, true, false, List, [], ◌∷◌, ◌++◌, if◌then◌else◌, Option, Some, None, Ok}
use Rattle.std.specs.Option.{option_map, option_map_or}
use Rattle.std.specs.Str.{bytes_eq}
use Rattle.spl_value.specs.declared.types.SplType.{SplType}
use Rattle.spl_tree.specs.declared.graph.Expansion.{Expansion}
use Rattle.spl_tree.specs.declared.graph.Site.{Site}
use Rattle.spl_tree.specs.declared.unit.Composite.{Composite}
use Rattle.spl_tree.specs.declared.unit.CompositeParameter.{CompositeParameter}
use Rattle.spl_tree.specs.declared.unit.Definition.{Definition}
use Rattle.spl_tree.specs.declared.unit.Parameter.{Parameter}
use Rattle.spl_tree.specs.Trees.{Expr}
use Rattle.language_model.specs.declared.scope.Dollar.{Dollar}
use Rattle.language_model.specs.declared.scope.Typed.{Typed}
use Rattle.language_model.specs.CodeFits.{CodeFits}
use Rattle.language_model.specs.FitLaws.{ConstantLaw, DollarsFit, FitLaw, no_names}
use Rattle.language_model.specs.Parameters.{Tables, constant_scope, constant_typing, dollar_tables, expansion_dollars, has_meaning, own_from, own_within, parameter_typing, table_at, tables_from}
use Rattle.language_model.proofs.parts.Parameters.{default_typing, value_typing}
use Rattle.language_model.specs.parts.Parameters.{is_constant, parameters_given}
use Rattle.language_model.specs.Scopes.{at_place, first_from}
use Rattle.language_model.specs.DollarTargets.{arguments_of, composite_of, value_named}
use Rattle.language_model.specs.TypeNames.{Types, composite_types, type_meant}
use Rattle.language_model.specs.Typing.{Found, mismatch, typing}
use Rattle.language_model.proofs.FoundAnswers.{after_gives}

-- ---- parameters

-- where there is a code, it fits and names nothing
abbrev Constant : Found Typed → Type 0
Constant found = (t : Typed) → found ≡ Ok t → CodeFits no_names t.code t.kind

abbrev EachConstant : List Dollar → Type 0
EachConstant [] = Unit {0}
EachConstant (d ∷ ds) = Constant d.found × EachConstant ds

first_constant : (ds : List Dollar) (i : ℕ) (name : List ℕ) (t : Typed) → EachConstant ds
    → option_map (λ d. d.what.found) (first_from (λ d. bytes_eq d.name name) i ds) ≡ Some (Ok t) → CodeFits no_names t.code t.kind
first_constant [] i name t h e = absurd cc
first_constant (d ∷ ds) i name t h e =
    elim (bytes_eq d.name name)
    as (λ b. option_map (λ d. d.what.found) (if b then Some (at_place i d) else first_from (λ d. bytes_eq d.name name) (suc i) ds) ≡ Some (Ok t) → CodeFits no_names t.code t.kind) [
      | true ↦ λ is. (let found : d.found ≡ Ok t = cc in h.0 t found)
      | false ↦ λ is. first_constant ds (suc i) name t h.1 is
    ] e

dollars_fit : (ds : List Dollar) → EachConstant ds → DollarsFit ds
dollars_fit ds h name t e = first_constant ds 0 name t h e

-- ---- tables

abbrev AllConstant : Tables → Type 0
AllConstant [] = Unit {0}
AllConstant (table ∷ tables) = EachConstant table × AllConstant tables

one_more : (tables : Tables) (table : List Dollar) → AllConstant tables → EachConstant table → AllConstant (tables ++ table ∷ [])
one_more [] table h x = (x, tt)
one_more (t ∷ tables) table h x = (h.0, one_more tables table h.1 x)

constant_at : (tables : Tables) (number : ℕ) → AllConstant tables → EachConstant (table_at tables number)
constant_at [] number h = tt
constant_at (table ∷ tables) zero h = h.0
constant_at (table ∷ tables) (suc number) h = constant_at tables number h.1

-- ---- what is found for parameters

module _ (fit : FitLaw) (constant : ConstantLaw) where
  typing_constant : (given : List Dollar) (e : Expr) (u : SplType) → EachConstant given → Constant (constant_typing given e u)
  typing_constant given e u h t is =
      elim (is_constant e) as (λ b. (if b then typing (constant_scope given) e (Some u) else mismatch e.at) ≡ Ok t → CodeFits no_names t.code t.kind) [
        | true ↦ λ gives. constant given t.code t.kind (fit (constant_scope given) e (Some u) t (dollars_fit given h) gives)
        | false ↦ λ gives. absurd cc
      ] is

  default_constant : (own : List Dollar) (p : CompositeParameter) (u : SplType) (o : Option Expr) → EachConstant own → Constant (default_typing own p u o)
  default_constant own p u None h t is = absurd cc
  default_constant own p u (Some e) h t is = typing_constant own e u h t is

  value_constant : (outer own : List Dollar) (p : CompositeParameter) (u : SplType) (o : Option Expr) → EachConstant outer → EachConstant own
      → Constant (value_typing outer own p u o)
  value_constant outer own p u (Some argument) g h t is = typing_constant outer argument u g t is
  value_constant outer own p u None g h t is = default_constant own p u p.default h t is

  parameter_constant : (types : Types) (outer own : List Dollar) (arguments : List Parameter) (p : CompositeParameter) → EachConstant outer → EachConstant own
      → Constant (parameter_typing types outer own arguments p)
  parameter_constant types outer own arguments p g h t is =
      let x = after_gives (type_meant types p.kind) (λ u. value_typing outer own p u (value_named arguments p.name.what)) t is in
      value_constant outer own p x.0 (value_named arguments p.name.what) g h t x.2

  from_constant : (passes : ℕ → CompositeParameter → Bool) (found : CompositeParameter → Found Typed) (place : ℕ) (ps : List CompositeParameter)
      → ((p : CompositeParameter) → Constant (found p)) → EachConstant (own_from passes found place ps)
  from_constant passes found place [] h = tt
  from_constant passes found place (p ∷ ps) h =
      elim (passes place p) as (λ b. EachConstant ((if b then record { name = p.name.what; found = found p } ∷ [] else []) ++ own_from passes found (suc place) ps)) [
        | true ↦ (h p, from_constant passes found (suc place) ps h)
        | false ↦ from_constant passes found (suc place) ps h
      ]

  within_constant : (count : ℕ) (types : Types) (outer : List Dollar) (arguments : List Parameter) (parameters : List CompositeParameter) → EachConstant outer
      → EachConstant (own_within count types outer arguments parameters)
  within_constant zero types outer arguments parameters h = tt
  within_constant (suc count) types outer arguments parameters h =
      from_constant (has_meaning parameters arguments) (parameter_typing types outer (own_within count types outer arguments parameters) arguments) 0 parameters
      (λ p. parameter_constant types outer (own_within count types outer arguments parameters) arguments p h (within_constant count types outer arguments parameters h))

  outer_constant : (before : Tables) (o : Option Site) → AllConstant before → EachConstant (option_map_or (λ s. table_at before s.expansion) o [])
  outer_constant before None h = tt
  outer_constant before (Some s) h = constant_at before s.expansion h

  given_constant : (unit : List Definition) (outer : List Dollar) (arguments : List Parameter) (o : Option Composite) → EachConstant outer
      → EachConstant (option_map_or (λ c. parameters_given (composite_types unit c) outer arguments c.parameters) o [])
  given_constant unit outer arguments None h = tt
  given_constant unit outer arguments (Some c) h = within_constant _ (composite_types unit c) outer arguments c.parameters h

  expansion_constant : (unit : List Definition) (expansions : List Expansion) (before : Tables) (x : Expansion) → AllConstant before
      → EachConstant (expansion_dollars unit expansions before x)
  expansion_constant unit expansions before x h =
      given_constant unit (option_map_or (λ s. table_at before s.expansion) x.site []) (arguments_of unit expansions x) (composite_of unit x) (outer_constant before x.site h)

  tables_constant : (unit : List Definition) (expansions : List Expansion) (before : Tables) (xs : List Expansion) → AllConstant before
      → AllConstant (tables_from unit expansions before xs)
  tables_constant unit expansions before [] h = tt
  tables_constant unit expansions before (x ∷ xs) h =
      let here = expansion_constant unit expansions before x h in (
        here,
        tables_constant unit expansions (before ++ expansion_dollars unit expansions before x ∷ []) xs (one_more before (expansion_dollars unit expansions before x) h here),
      )

  pub tables_fit : (unit : List Definition) (expansions : List Expansion) (number : ℕ) → DollarsFit (table_at (dollar_tables unit expansions) number)
  tables_fit unit expansions number =
      dollars_fit (table_at (dollar_tables unit expansions) number)
      (constant_at (dollar_tables unit expansions) number (tables_constant unit expansions [] expansions tt))
