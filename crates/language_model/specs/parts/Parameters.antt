-- Words for parts of the rules of `$` parameters, for what works them out step by step.
use Rattle.std.specs.Prelude.{ℕ, Bool, List, [], filter_map, length, if◌then◌else◌, is_some}
use Rattle.std.specs.Option.{option_map_or}
use Rattle.spl_tree.specs.declared.expression.ExprKind.TheFolds.{fold-ExprKind}
use Rattle.spl_tree.specs.declared.unit.CompositeParameter.{CompositeParameter}
use Rattle.spl_tree.specs.declared.unit.Parameter.{Parameter}
use Rattle.spl_tree.specs.Trees.{Expr}
use Rattle.language_model.specs.declared.scope.Dollar.{Dollar}
use Rattle.language_model.specs.DollarLaws.{dollars_in}
use Rattle.language_model.specs.DollarTargets.{value_named}
use Rattle.language_model.specs.Parameters.{level_constant, own_within, parameter_place}
use Rattle.language_model.specs.TypeNames.{Types}

abbrev pub is_constant : Expr → Bool
is_constant e = fold-ExprKind Bool level_constant e.what

-- the places of the parameters that stand in the default, where there is no argument
abbrev pub default_leads : List CompositeParameter → List Parameter → CompositeParameter → List ℕ
default_leads parameters arguments p =
    if is_some (value_named arguments p.name.what) then []
    else option_map_or (λ e. filter_map (parameter_place parameters) (dollars_in e)) p.default []

-- the parameters of a composite that is invoked with these arguments, where there are those of the outer one
abbrev pub parameters_given : Types → List Dollar → List Parameter → List CompositeParameter → List Dollar
parameters_given types outer arguments parameters = own_within (length parameters) types outer arguments parameters
