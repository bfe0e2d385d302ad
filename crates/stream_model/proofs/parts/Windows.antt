-- Words for parts of the rules of windows, by which proofs speak of them.
use Rattle.std.specs.Prelude.{ℕ, List, take}
use Rattle.stream_model.specs.Windows.{in_order}

-- the last n, or all, in order
abbrev pub last_of : {A : Type 0} → ℕ → List A → List A
last_of n ts = in_order (take n ts)
