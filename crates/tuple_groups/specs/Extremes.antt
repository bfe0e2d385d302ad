-- The order in which an extreme is sought.
use Rattle.std.specs.Prelude.{Bool, true, false}
use Rattle.spl_value.specs.declared.value.Value.{Value}
use Rattle.stream_model.specs.Aggregates.{is_below}

-- one value comes before another: the greater one, or the lesser one
abbrev pub before : Bool → Value → Value → Bool
before true v w = is_below w v
before false v w = is_below v w
