-- Words for parts of the rules of `$` parameters, for proofs that go through them step by step.
use Rattle.std.specs.Prelude.{List, Option}
use Rattle.std.specs.Option.{option_map_or}
use Rattle.spl_value.specs.declared.types.SplType.{SplType}
use Rattle.spl_tree.specs.declared.unit.CompositeParameter.{CompositeParameter}
use Rattle.spl_tree.specs.Trees.{Expr}
use Rattle.language_model.specs.declared.scope.Dollar.{Dollar}
use Rattle.language_model.specs.declared.scope.Typed.{Typed}
use Rattle.language_model.specs.Parameters.{constant_typing}
use Rattle.language_model.specs.Typing.{Found, unknown}

-- without an argument the default is the value of the parameter, and without both the parameter is unknown
abbrev pub default_typing : List Dollar → CompositeParameter → SplType → Option Expr → Found Typed
default_typing own p t value = option_map_or (λ e. constant_typing own e t) value (unknown p.name.at p.name.what)

abbrev pub value_typing : List Dollar → List Dollar → CompositeParameter → SplType → Option Expr → Found Typed
value_typing outer own p t argument = option_map_or (λ a. constant_typing outer a t) argument (default_typing own p t p.default)
