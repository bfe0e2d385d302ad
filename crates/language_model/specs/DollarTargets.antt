-- What `$` parameters mean: expressions that are no `$` parameters, where composites are invoked within one another.
use Rattle.std.specs.Prelude.{ℕ, zero, suc, List, [], ◌∷◌, length, if◌then◌else◌, Option, Some, None, slice_get}
use Rattle.std.specs.Option.{option_and_then, option_map_or}
use Rattle.std.specs.Str.{bytes_eq}
use Rattle.spl_tree.specs.declared.expression.ExprKind.{ExprKind}
use Rattle.spl_tree.specs.declared.expression.ExprKind.TheOpen as X
use Rattle.spl_tree.specs.declared.expression.ExprKind.TheOpen.{ExprKind-F}
use Rattle.spl_tree.specs.declared.expression.ExprKind.TheViews.{out-ExprKind}
use Rattle.spl_tree.specs.declared.graph.Expansion.{Expansion}
use Rattle.spl_tree.specs.declared.graph.Site.{Site}
use Rattle.spl_tree.specs.declared.unit.Composite.{Composite}
use Rattle.spl_tree.specs.declared.unit.CompositeParameter.{CompositeParameter}
use Rattle.spl_tree.specs.declared.unit.Definition.{Definition}
use Rattle.spl_tree.specs.declared.unit.Invocation.{Invocation}
use Rattle.spl_tree.specs.declared.unit.Parameter.{Parameter}
use Rattle.spl_tree.specs.Trees.{Expr}
use Rattle.language_model.specs.Composites.{composites}

-- ---- values of parameters

-- the one value of the first parameter of the name
abbrev pub only_value : List Expr → Option Expr
only_value (e ∷ []) = Some e
only_value es = None

abbrev pub value_named : List Parameter → List ℕ → Option Expr
value_named [] name = None
value_named (p ∷ ps) name = if bytes_eq p.name.what name then only_value p.values else value_named ps name

abbrev pub default_named : List CompositeParameter → List ℕ → Option Expr
default_named [] name = None
default_named (p ∷ ps) name = if bytes_eq p.name.what name then p.default else default_named ps name

-- ---- invocations

abbrev pub composite_of : List Definition → Expansion → Option Composite
composite_of unit e = slice_get (composites unit) e.composite

-- the invocation at a site
abbrev pub invocation_at : List Definition → List Expansion → Site → Option Invocation
invocation_at unit expansions s =
    option_and_then (λ c. slice_get c.graph s.invocation)
    (option_and_then (composite_of unit) (slice_get expansions s.expansion))

-- the arguments that an expansion has; the main one has none
abbrev pub arguments_of : List Definition → List Expansion → Expansion → List Parameter
arguments_of unit expansions e =
    option_map_or (λ i. i.clauses.parameters) (option_and_then (invocation_at unit expansions) e.site) []

abbrev pub heads_of : List Definition → Expansion → List CompositeParameter
heads_of unit e = option_map_or (λ c. c.parameters) (composite_of unit e) []

-- ---- what `$` parameters mean

-- an expression that is no `$` parameter, or an argument, which is meant where the composite is invoked, or nothing
pub data Target : Type 0 where
  Here : Expr → Target
  Outside : Expr → Target
  Nowhere : Target

abbrev pub level_target : (List ℕ → Target) → Expr → ExprKind-F ExprKind → Target
level_target parameter e (X.Dollar name) = parameter name
level_target parameter e _ = Here e

abbrev pub target : (List ℕ → Target) → Expr → Target
target parameter e = level_target parameter e (out-ExprKind e.what)

-- a parameter: its argument, or else its default. Defaults are followed at most this number of times
abbrev pub parameter_target : ℕ → List CompositeParameter → List Parameter → List ℕ → Target
parameter_target zero parameters arguments name = Nowhere
parameter_target (suc count) parameters arguments name = option_map_or (λ e. Outside e) (value_named arguments name)
    (option_map_or (target (parameter_target count parameters arguments)) (default_named parameters name) Nowhere)

abbrev pub here_or : (Expr → Option Expr) → Target → Option Expr
here_or outside (Here e) = Some e
here_or outside (Outside e) = outside e
here_or outside Nowhere = None

-- the expression in the body of the expansion at a number that is no `$` parameter. Arguments are followed at most this
-- number of times
abbrev pub expression_within : ℕ → List Definition → List Expansion → ℕ → Expr → Option Expr
expression_within zero unit expansions number e = None
expression_within (suc count) unit expansions number e =
    option_and_then (λ x. here_or (λ argument. option_and_then
    (λ s. expression_within count unit expansions s.expansion argument) x.site)
    (target (parameter_target (length (heads_of unit x)) (heads_of unit x) (arguments_of unit expansions x)) e))
    (slice_get expansions number)

abbrev pub expression_meant : List Definition → List Expansion → ℕ → Expr → Option Expr
expression_meant unit expansions number e = expression_within (length expansions) unit expansions number e
