-- Words for parts of the rules of operators: order, equality, and what fits always has.
use Rattle.std.specs.Prelude.{Bool, if◌then◌else◌, Option}
use Rattle.std.specs.Option.{option_map_or}
use Rattle.std.specs.Ordering.{eq_by_cmp}
use Rattle.spl_value.specs.declared.value.Value.{Value}
use Rattle.spl_value.specs.declared.value.Value.TheVariants as V
use Rattle.spl_value.specs.declared.value.Value.TheViews.{out-Value}
use Rattle.spl_value.specs.Calls.{CallOutcome, Gives, Unfit, are_alike}
use Rattle.spl_value.specs.Order.{value_cmp}
use Rattle.spl_tree.specs.declared.code.OrderOperator.{OrderOperator}
use Rattle.language_model.specs.Operators.{in_order}

-- two integers, by number, or two texts, by bytes
abbrev pub ordered : OrderOperator → Value → Value → CallOutcome
ordered op v w = if are_alike (out-Value v) (out-Value w) then Gives (V.Bool (in_order op (value_cmp v w))) else Unfit

abbrev pub is_equal : Value → Value → Bool
is_equal = eq_by_cmp value_cmp

-- what is there, which what fits always has
abbrev pub given : Option Value → CallOutcome
given o = option_map_or Gives o Unfit
