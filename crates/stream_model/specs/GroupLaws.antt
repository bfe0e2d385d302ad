-- Laws of groups.
use Rattle.std.specs.Prelude.{ℕ, ◌<◌, map, length, IsTrue, List, ◌∷◌, ◌++◌, ◌≡◌, Some, None, if◌then◌else◌}
use Rattle.std.specs.List.{AllByRecursion}
use Rattle.std.specs.FinMap.{find, is_sorted}
use Rattle.spl_value.specs.declared.value.Value.{Value}
use Rattle.spl_value.specs.Key.{key_of}
use Rattle.stream_model.specs.Stream.{is_empty}
use Rattle.spl_value.specs.KeyOrder.{key_cmp, same_key}
use Rattle.stream_model.specs.Groups.{groups}
use Rattle.stream_model.specs.parts.Groups.{of_group}

-- the keys of the groups ascend, each once
abbrev pub AscendingLaw : Type 0
AscendingLaw = (places : List ℕ) (ts : List (List Value)) → IsTrue (is_sorted key_cmp (groups places ts))

-- the group of a key has the tuples with that key, and no group is empty
abbrev pub GroupLaw : Type 0
GroupLaw = (places : List ℕ) (ts : List (List Value)) (k : List Value) →
    find key_cmp k (groups places ts) ≡ (if is_empty (of_group places ts k) then None else Some (of_group places ts k))

-- a tuple stands in the group of its own key, after those before it and before those after it, and in no other one
abbrev pub MemberLaw : Type 0
MemberLaw = (places : List ℕ) (before after : List (List Value)) (t k : List Value) →
    of_group places (before ++ t ∷ after) k
    ≡ of_group places before k ++ (if same_key k (key_of t places) then t ∷ of_group places after k else of_group places after k)

-- the groups of mapped tuples are the groups of the tuples, mapped, where each tuple keeps its key
abbrev pub MappedGroupsLaw : Type 0
MappedGroupsLaw = (places : List ℕ) (f : List Value → List Value) (ts : List (List Value)) → AllByRecursion (λ t. key_of (f t) places ≡ key_of t places) ts →
    groups places (map f ts) ≡ map (λ e. (e.0, map f e.1)) (groups places ts)

-- values after those of a tuple leave its key as it is, where the tuple has all places of it
abbrev pub KeyBehindLaw : Type 0
KeyBehindLaw = (places : List ℕ) (t more : List Value) → AllByRecursion (λ p. p < length t) places → key_of (t ++ more) places ≡ key_of t places
