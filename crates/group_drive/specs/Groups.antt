-- Facts of all nodes of a list and of several lists, and what they weigh: two collections of nodes have the same
-- numbers, up to order, where they weigh the same however numbers are weighed.
use Rattle.std.specs.Prelude.{◌≡◌, ℕ, ◌<◌, List, [], length, map, slice_index_or, Vec}
use Rattle.std.specs.List.{sum_by}
use Rattle.std.specs.declared.alloc.Global.{Global}
use Rattle.network_model.specs.Networks.{Part}
use Rattle.ordered_link.specs.declared.ends.Link.{Link}

-- which part each number stands for
abbrev pub Parts : Type 0
Parts = ℕ → Part

abbrev pub AllOf : {N : Type 0} → (N → Type 0) → List N → Type 0
AllOf {N} P ns = (i : ℕ) (d : N) → i < length ns → P (slice_index_or ns i d)

-- each node runs the part of its number, or has ended it
abbrev pub AllRun : {N : Type 0} → (N → ℕ) → (N → Part → List Link → Type 0) → Parts → List Link → List N → Type 0
AllRun number runs parts links ns = AllOf (λ n. runs n (parts (number n)) links) ns

abbrev pub GroupsRun : {N : Type 0} → (N → ℕ) → (N → Part → List Link → Type 0) → Parts → List Link
    → List (Vec N Global) → Type 0
GroupsRun number runs parts links groups = AllOf (λ g. AllRun number runs parts links g.items) groups

-- what the nodes weigh by their numbers
abbrev pub weigh : {N : Type 0} → (N → ℕ) → (ℕ → ℕ) → List N → ℕ
weigh number h ns = sum_by h (map number ns)

abbrev pub weigh_all : {N : Type 0} → (N → ℕ) → (ℕ → ℕ) → List (Vec N Global) → ℕ
weigh_all number h groups = sum_by (λ g. weigh number h g.items) groups

abbrev pub AreEmpty : {N : Type 0} → List (Vec N Global) → Type 0
AreEmpty groups = AllOf (λ g. g.items ≡ []) groups
