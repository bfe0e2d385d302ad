-- The groups of a window's content by the places of `groupBy`, which stand in the order of the text. A place that a
-- tuple doesn't have is left out of its key. Without places the tuples, where there are some, are one group, with the
-- key [].
use Rattle.std.specs.Prelude.{ℕ, List, map, filter}
use Rattle.spl_value.specs.declared.value.Value.{Value}
use Rattle.spl_value.specs.Key.{key_of}
use Rattle.spl_value.specs.KeyOrder.{same_key, each_key}

-- each group once, by ascending key, with its tuples in their order
abbrev pub groups : List ℕ → List (List Value) → List (List Value × List (List Value))
groups places ts = each_key (λ k. filter (λ t. same_key k (key_of t places)) ts) (map (λ t. key_of t places) ts)
