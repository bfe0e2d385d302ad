-- Words for parts of the rules of evaluation: the map that pairs make.
use Rattle.std.specs.Prelude.{List, []}
use Rattle.std.specs.List.{fold}
use Rattle.spl_value.specs.declared.value.Value.{Value}
use Rattle.spl_value.specs.Pairs.{pairs_put}

-- the map of pairs in this order: of those with one key the last counts
abbrev pub map_of : List (Value × Value) → List (Value × Value)
map_of = fold (λ ps p. pairs_put ps p.0 p.1) []
