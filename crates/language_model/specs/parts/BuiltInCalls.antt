-- Words for parts of the rules of the calls that the language has built in: what a call gives for values.
use Rattle.std.specs.Prelude.{List, map}
use Rattle.spl_value.specs.declared.value.Value.{Value}
use Rattle.spl_value.specs.declared.value.Value.TheViews.{out-Value}
use Rattle.spl_value.specs.Calls.{CallOutcome}
use Rattle.spl_tree.specs.declared.code.BuiltIn.{BuiltIn}
use Rattle.language_model.specs.BuiltInCalls.{level_call}

-- what it gives for its arguments
abbrev pub built_in_of : BuiltIn → List Value → CallOutcome
built_in_of call vs = level_call call (map out-Value vs)
