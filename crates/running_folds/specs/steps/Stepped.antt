-- Items that take a step one after another.
use Rattle.std.specs.Prelude.{◌≡◌, ◌<◌, ◌≤◌, ℕ, List, length, Some, slice_get}

-- those before a place took a step, and the others are as they were
pub record Stepped {A : Type 0} (Step : ℕ → A → A → Type 0) (place : ℕ) (old now : List A) : Type 0 where
  pub long : length now ≡ length old
  pub each : (k : ℕ) (y : A) → slice_get now k ≡ Some y → (x : A) × (slice_get old k ≡ Some x) × (k < place → Step k x y) × (place ≤ k → x ≡ y)
