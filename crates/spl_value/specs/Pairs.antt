-- The pairs of a map, in the ascending order of their keys, which differ.
use Rattle.std.specs.Prelude.{◌≡◌, ℕ, ◌<◌, ◌≤◌, Bool, not, is_some, List, length, Option, Some, slice_get}
use Rattle.std.specs.List.{AllWithin}
use Rattle.std.specs.declared.cmp.Ordering.TheVariants.{Less, Greater}
use Rattle.std.specs.Ordering.{eq_by_cmp}
use Rattle.std.specs.FinMap.{is_sorted, find, put}
use Rattle.std.specs.FinMap.Entries.{where_key}
use Rattle.spl_value.specs.declared.value.Value.{Value}
use Rattle.spl_value.specs.Order.{value_cmp}

-- each key is below all that follow it
abbrev pub are_pairs : List (Value × Value) → Bool
are_pairs = is_sorted value_cmp

-- the value at a key
abbrev pub pairs_get : List (Value × Value) → Value → Option Value
pairs_get ps k = find value_cmp k ps

-- whether some pair has the key
abbrev pub pairs_contain : List (Value × Value) → Value → Bool
pairs_contain ps k = is_some (pairs_get ps k)

-- the pairs with v at the key, in place of the value that it had or in a pair of its own, where the keys
-- ascend
abbrev pub pairs_put : List (Value × Value) → Value → Value → List (Value × Value)
pairs_put ps k v = put value_cmp k v ps

-- the pairs with other keys
abbrev pub pairs_without : List (Value × Value) → Value → List (Value × Value)
pairs_without ps k = where_key value_cmp (λ q. not (eq_by_cmp value_cmp k q)) ps

-- the keys rise: each is below those of all later pairs
abbrev pub KeysRise : List (Value × Value) → Type 0
KeysRise ps = (i j : ℕ) (p q : Value × Value) → i < j → slice_get ps i ≡ Some p → slice_get ps j ≡ Some q → value_cmp p.0 q.0 ≡ Less

-- ---- places

-- the pair at place i has the key
abbrev pub IsAt : Value → List (Value × Value) → ℕ → Type 0
IsAt k ps i = (v : Value) × (slice_get ps i ≡ Some (k, v))

-- no pair has the key, which belongs at place i
pub record IsGap (k : Value) (ps : List (Value × Value)) (i : ℕ) : Type 0 where
  pub within : i ≤ length ps
  pub before : AllWithin (λ p. value_cmp p.0 k ≡ Less) ps 0 i
  pub behind : AllWithin (λ p. value_cmp p.0 k ≡ Greater) ps i (length ps)
