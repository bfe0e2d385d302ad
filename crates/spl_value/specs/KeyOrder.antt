-- Keys of windows and of groups, which are lists of values: their order, and lists with an entry for each key.
use Rattle.std.specs.Prelude.{Bool, List, [], ◌∷◌}
use Rattle.std.specs.declared.cmp.Ordering.{Ordering}
use Rattle.std.specs.Ordering.{eq_by_cmp}
use Rattle.std.specs.Cmp.Lexicographic.{slice_cmp}
use Rattle.std.specs.FinMap.{put}
use Rattle.spl_value.specs.declared.value.Value.{Value}
use Rattle.spl_value.specs.Order.{value_cmp}

-- the first values that differ decide, and a key comes before longer ones that begin with it
abbrev pub key_cmp : List Value → List Value → Ordering
key_cmp = slice_cmp value_cmp

-- two keys are the same
abbrev pub same_key : List Value → List Value → Bool
same_key = eq_by_cmp key_cmp

-- each of the keys once, by ascending key, with what f has for it
abbrev pub each_key : {X : Type 0} → (List Value → X) → List (List Value) → List (List Value × X)
each_key f [] = []
each_key f (k ∷ ks) = put key_cmp k (f k) (each_key f ks)
