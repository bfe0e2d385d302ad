-- What a new integer leaves of the tuples of a sliding delta.
use Rattle.std.specs.Prelude.{ℕ, ℤ, ◌-ℤ◌, int_lt, Bool, not, List, [], ◌∷◌, ◌++◌, if◌then◌else◌}
use Rattle.spl_value.specs.declared.value.Value.{Value}
use Rattle.stream_model.specs.Windows.{integer_at}

-- the new integer doesn't exceed a tuple's attribute by more than the limit
abbrev pub is_left : ℕ → ℤ → ℤ → List Value → Bool
is_left a limit new t = not (int_lt limit (new -ℤ integer_at a t))

-- the first tuple is moved to the end, or dropped
abbrev pub passed : ℕ → ℤ → ℤ → List (List Value) → List (List Value)
passed a limit new [] = []
passed a limit new (t ∷ ts) = if is_left a limit new t then ts ++ t ∷ [] else ts
