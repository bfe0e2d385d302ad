-- How a map compares its keys, which are the values at some places of tuples.
use Rattle.std.specs.Prelude.{Bool, List}
use Rattle.std.specs.Cmp.Lexicographic.{pointwise}
use Rattle.spl_value.specs.declared.value.Value.{Value}
use Rattle.spl_value.specs.contracts.value.ValuePartialEq.TheImpl as DerivedEq

-- keys as the map compares them
abbrev pub equal_key : List Value → List Value → Bool
equal_key = pointwise (DerivedEq.ghosts).eq
