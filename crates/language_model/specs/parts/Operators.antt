-- Words for parts of the rules of operators: booleans and their texts, operators in front of a value, and what is looked up.
use Rattle.std.specs.Prelude.{ℕ, Bool, if◌then◌else◌, List, codes, Option}
use Rattle.std.specs.Option.{option_map_or}
use Rattle.spl_value.specs.declared.item.FaultKind.{FaultKind}
use Rattle.spl_value.specs.declared.value.Value.{Value}
use Rattle.spl_value.specs.declared.value.Value.TheVariants as V
use Rattle.spl_value.specs.declared.value.Value.TheViews.{out-Value}
use Rattle.spl_value.specs.Calls.{CallOutcome, Gives, Faults}
use Rattle.spl_tree.specs.declared.code.UnaryCode.{UnaryCode}
use Rattle.language_model.specs.Operators.{level_unary, level_truth}

abbrev pub boolean : Bool → CallOutcome
boolean b = Gives (V.Bool b)

abbrev pub bool_text : Bool → List ℕ
bool_text b = if b then codes "true" else codes "false"

abbrev pub unary_of : UnaryCode → Value → CallOutcome
unary_of op v = level_unary op (out-Value v)

-- what is there, or else a fault
abbrev pub found : FaultKind → Option Value → CallOutcome
found kind o = option_map_or Gives o (Faults kind)

-- the truth of a boolean
abbrev pub truth_of : Value → Option Bool
truth_of v = level_truth (out-Value v)
