-- The arguments of assignments for a tuple, and the tuple with their values after its own.
use Rattle.std.specs.Prelude.{false, List, ◌++◌, map, Option, None, Some}
use Rattle.spl_value.specs.declared.value.Value.{Value}
use Rattle.spl_value.specs.declared.value.Value.TheVariants as V
use Rattle.spl_tree.specs.declared.body.Function.{Function}
use Rattle.language_model.specs.declared.checked.CollectedAttribute.{CollectedAttribute}
use Rattle.stream_model.specs.parts.Aggregates.{arguments_of}

-- a value stands where there is no argument
abbrev pub blank : Option Value → Value
blank None = V.Bool false
blank (Some v) = v

-- a tuple with the values of its arguments after its own
abbrev pub extended : List Function → List CollectedAttribute → List Value → List Value
extended functions output t = t ++ map blank (arguments_of functions output t)
