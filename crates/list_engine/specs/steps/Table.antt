-- The table of the streams that a run has made, by their numbers, from before a step of the code to after it.
use Rattle.std.specs.Prelude.{◌≡◌, ◌==◌, ◌||◌, ℕ, true, false, List, length, Some, slice_get}
use Rattle.std.specs.List.{list_any}
use Rattle.spl_value.specs.declared.item.Item.{Item}
use Rattle.stream_model.specs.Ends.{is_read}
use Rattle.stream_model.specs.Meaning.{Graph}
use Rattle.list_engine.specs.steps.Reading.{ops_at}

-- one stream may be removed, unless another of these inputs or one of the later operators reads it
pub record LeftBehind (g : Graph) (later behind : List ℕ) (stream : ℕ) (old new : List (List Item)) : Type 0 where
  pub count : length new ≡ length old
  pub others : (s : ℕ) → (stream == s) ≡ false → slice_get new s ≡ slice_get old s
  pub wanted : (s : ℕ) → (list_any (λ n. n == s) behind || is_read (ops_at g later) s) ≡ true → slice_get new s ≡ slice_get old s

-- these streams may be removed, except those that one of the later operators reads
pub record StaysFor (g : Graph) (later connections : List ℕ) (old new : List (List Item)) : Type 0 where
  pub count : length new ≡ length old
  pub others : (s : ℕ) → list_any (λ n. n == s) connections ≡ false → slice_get new s ≡ slice_get old s
  pub wanted : (s : ℕ) → is_read (ops_at g later) s ≡ true → slice_get new s ≡ slice_get old s

-- each list stands at its place, and nothing else changed
pub record IsPlaced (lists : List (List Item)) (places : List ℕ) (old new : List (List Item)) : Type 0 where
  pub count : length new ≡ length old
  pub placed : (p s : ℕ) (items : List Item) → slice_get places p ≡ Some s → slice_get lists p ≡ Some items → slice_get new s ≡ Some items
  pub others : (s : ℕ) → list_any (λ n. n == s) places ≡ false → slice_get new s ≡ slice_get old s
