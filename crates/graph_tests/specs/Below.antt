-- Numbers below a number.
use Rattle.std.specs.Prelude.{◌≡◌, ◌<◌, ℕ, List, Some, slice_get}

abbrev pub AreBelow : ℕ → List ℕ → Type 0
AreBelow count ns = (i n : ℕ) → slice_get ns i ≡ Some n → n < count
