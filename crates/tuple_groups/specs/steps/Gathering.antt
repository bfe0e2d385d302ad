-- Groups that are gathered in a map.
use Rattle.std.specs.Prelude.{◌≡◌, ◌<◌, ℕ, List, [], length, Option, None, Some}
use Rattle.std.specs.Borrow.{Bor}
use Rattle.std.specs.Global.{Vec}
use Rattle.std.specs.HashMap.{HashMap, get}
use Rattle.spl_value.specs.declared.value.Value.{Value}
use Rattle.stream_model.specs.parts.Groups.{of_group}
use Rattle.tuple_groups.specs.Seen.{seen}
use Rattle.key_maps.specs.MapKeys.{equal_key}

-- what is gathered of a group: nothing of one without tuples
abbrev pub At : Option (Vec (Bor (List Value))) → List (List Value) → Type 0
At None ts = ts ≡ []
At (Some members) ts = (seen members.items ≡ ts) × (0 < length ts)

-- the map has the tuples of each group
abbrev pub HasGroups : {S : Type 0} → List ℕ → HashMap (List Value) (Vec (Bor (List Value))) S → List (List Value) → Type 0
HasGroups places m ts = (k : List Value) → At (get equal_key m k) (of_group places ts k)
