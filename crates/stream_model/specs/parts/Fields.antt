-- Words for parts of the rules of fields: the value of a field, and the field of a value.
use Rattle.std.specs.Prelude.{ℕ, List, Option}
use Rattle.spl_value.specs.declared.value.Value.{Value}
use Rattle.spl_value.specs.declared.value.Value.TheViews.{out-Value}
use Rattle.spl_value.specs.declared.types.SplType.{SplType}
use Rattle.spl_value.specs.declared.types.SplType.TheViews.{out-SplType}
use Rattle.stream_model.specs.Fields.{level_field, level_value}

-- the value of a field that fits the type
abbrev pub field_value : SplType → List ℕ → Option Value
field_value t field = level_value (out-SplType t) field

-- the field of an integer, a boolean or an rstring
abbrev pub field_of : Value → List ℕ
field_of v = level_field (out-Value v)
