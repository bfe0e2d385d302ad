-- The segment of sorted pairs to which a key belongs.
use Rattle.std.specs.Prelude.{◌≡◌, ℕ, suc, ◌<◌, Bool, IsTrue, List, length, take, drop, Some, slice_get}
use Rattle.std.specs.List.{list_all}
use Rattle.std.specs.Ordering.{is_lt}
use Rattle.std.specs.FinMap.Entries.{below_all}
use Rattle.spl_value.specs.declared.value.Value.{Value}
use Rattle.spl_value.specs.Order.{value_cmp}
use Rattle.spl_value.specs.Pairs.{IsAt}
use Rattle.spl_value.specs.Flattened.{flattened}

-- all keys are below k
abbrev pub are_below : Value → List (Value × Value) → Bool
are_below k = list_all (λ p. is_lt (value_cmp p.0 k))

-- all keys are above k
abbrev pub are_above : Value → List (Value × Value) → Bool
are_above k = below_all value_cmp k

-- a pair with key k can stand only in segment c
pub record IsSegmentOf (k : Value) (segments : List (List (Value × Value))) (c : ℕ) : Type 0 where
  pub within : c < length segments
  pub before : IsTrue (are_below k (flattened (take c segments)))
  pub behind : IsTrue (are_above k (flattened (drop (suc c) segments)))

-- the key stands at place i of segment c
pub record IsInSegment (k : Value) (segments : List (List (Value × Value))) (c i : ℕ) : Type 0 where
  pub segment : List (Value × Value)
  pub there : slice_get segments c ≡ Some segment
  pub place : IsAt k segment i
  pub its : IsSegmentOf k segments c
