-- Words for parts of the rules of a unit's functions, for proofs that go through them step by step.
use Rattle.std.specs.Prelude.{false, List, [], map, Option}
use Rattle.spl_value.specs.declared.types.Named.{Named}
use Rattle.spl_value.specs.declared.types.SplType.{SplType}
use Rattle.spl_tree.specs.declared.body.Function.{Function}
use Rattle.spl_tree.specs.declared.unit.Definition.{Definition}
use Rattle.spl_tree.specs.declared.unit.FunctionDefinition.{FunctionDefinition}
use Rattle.language_model.specs.declared.scope.Scope.{Scope}
use Rattle.language_model.specs.After.{each}
use Rattle.language_model.specs.BodyFits.{OfFunction}
use Rattle.language_model.specs.BodyTyping.{Setting, variable}
use Rattle.language_model.specs.FunctionTyping.{function_typing, unit_scope}
use Rattle.language_model.specs.TypeNames.{unit_types}
use Rattle.language_model.specs.Typing.{Found}

abbrev pub function_setting : List Definition → Option SplType → Setting
function_setting unit result = record { types = unit_types unit; purpose = OfFunction result; outputs = [] }

-- a function sees its parameters, which don't change
abbrev pub function_scope : List Definition → List (Named SplType) → Scope
function_scope unit parameters = record (unit_scope unit) { vars = map (λ a. variable false a.name a.kind) parameters }

abbrev pub each_typed : List Definition → List FunctionDefinition → Found (List Function)
each_typed unit fs = each (function_typing unit) (λ x. x) fs
