-- Words for parts of the rules of groups: the tuples of a group.
use Rattle.std.specs.Prelude.{ℕ, List, filter}
use Rattle.spl_value.specs.declared.value.Value.{Value}
use Rattle.spl_value.specs.Key.{key_of}
use Rattle.spl_value.specs.KeyOrder.{same_key}

-- the tuples of a group, in their order
abbrev pub of_group : List ℕ → List (List Value) → List Value → List (List Value)
of_group places ts k = filter (λ t. same_key k (key_of t places)) ts
